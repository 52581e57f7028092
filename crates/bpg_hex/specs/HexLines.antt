-- Hex digits: what one more character does to a line, and to the buffer that takes the line's bytes.
use Rattle.std.specs.Prelude.{List, [], ◌∷◌, ℕ, ◌+◌, ◌-◌, ◌*◌, ◌/◌, ◌%◌, leb, ltb, eqb, length, set, Option, Some, None}
use Rattle.bpg_codec.specs.Select.{select}
use Rattle.bpg_hex.specs.declared.line.Pending.{Pending}
use Rattle.bpg_hex.specs.declared.line.Pending.TheVariants.{Nothing, Digit, Comment}

-- a digit's value: `0` to `9` are 48 to 57, `a` to `f` are 97 to 102
unfoldable pub digit_value : ℕ → Option ℕ
digit_value c = select (ltb c 48) None (select (leb c 57) (Some (c - 48)) (select (ltb c 97) None (select (leb c 102) (Some (c - 87)) None)))

-- What is done with a digit: in a comment nothing; a first digit waits; the second is stored with it, if the buffer holds it.
abbrev pub after_digit {ℓ} : {X : Type ℓ} → (capacity count : ℕ) → Pending → (same waits : X) (stored : ℕ → X) → X
after_digit capacity count Comment same waits stored = same
after_digit capacity count Nothing same waits stored = waits
after_digit capacity count (Digit high) same waits stored = select (leb capacity count) same (stored high)

-- What is no digit leaves all as it is.
abbrev pub after_value {ℓ} : {X : Type ℓ} → (capacity count : ℕ) → Pending → Option ℕ → (same : X) (waits : ℕ → X) (stored : ℕ → ℕ → X) → X
after_value capacity count pending None same waits stored = same
after_value capacity count pending (Some d) same waits stored = after_digit capacity count pending same (waits d) (λ high. stored high d)

-- What is done with a character: `#`, which is 35, begins a comment.
unfoldable pub after_character {ℓ} : {X : Type ℓ} → (capacity count : ℕ) → Pending → ℕ → (comment same : X) (waits : ℕ → X) (stored : ℕ → ℕ → X) → X
after_character capacity count pending c comment same waits stored =
    select (eqb c 35) comment (after_value capacity count pending (digit_value c) same waits stored)

abbrev pub count_after : (capacity count : ℕ) → Pending → ℕ → ℕ
count_after capacity count pending c = after_character capacity count pending c count count (λ d. count) (λ high d. count + 1)

abbrev pub pending_after : (capacity count : ℕ) → Pending → ℕ → Pending
pending_after capacity count pending c = after_character capacity count pending c Comment pending (λ d. Digit d) (λ high d. Nothing)

abbrev pub bytes_after : List ℕ → (count : ℕ) → Pending → ℕ → List ℕ
bytes_after bytes count pending c =
    after_character (length bytes) count pending c bytes bytes (λ d. bytes) (λ high d. set bytes count (high * 16 + d))

-- the digit of a number below 16, and the two of a byte, the high one first
abbrev pub digit_of : ℕ → ℕ
digit_of n = select (ltb n 10) (48 + n) (87 + n)

abbrev pub digits_of : ℕ → List ℕ
digits_of b = digit_of (b / 16) ∷ digit_of (b % 16) ∷ []
