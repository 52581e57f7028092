-- What the steps of reading answer where the content goes on that far, and where reading goes on.
use Rattle.std.specs.Prelude.{Option, Some, None, ◌≡◌, List, [], ◌∷◌, ℕ, min, ◌+◌, ◌-◌, ◌≤◌, ◌<◌, ◌^◌, length, drop}
use Rattle.bpg_codec.specs.Outcome.{Outcome, ok, error, ◌>>=◌}
use Rattle.bpg_bytes.specs.declared.position.Located.{Located}
use Rattle.bpg_nal_emulation.specs.Emulation.{zeros_after, content_at}
use Rattle.bpg_sei.specs.declared.content.Cursor.{Cursor}
use Rattle.bpg_sei.specs.declared.messages.Durations.{Durations}
use Rattle.bpg_sei.specs.Messages.{sum_from, payload_of, message_of}

-- the content of a unit that is left
abbrev pub left_at : List ℕ → Cursor → List ℕ
left_at u c = content_at u c.at.0 c.zeros

-- reading has gone on, and stands in the unit
pub record Onward (u : List ℕ) (c d : Cursor) : Type 0 where
  pub further : c.at.0 < d.at.0
  pub inside : d.at.0 ≤ length u

-- a byte at i after z zeros
abbrev pub passed : (byte i z : ℕ) → Located ℕ Cursor
passed b i z = record { value = b; next = record { at = record { 0 = i + 1 }; zeros = zeros_after z b } }

-- a byte of the content
pub record Stepped (u : List ℕ) (c : Cursor) (x : Located ℕ Cursor) : Type 0 where
  pub same : left_at u c ≡ x.value ∷ left_at u x.next
  pub onward : Onward u c x.next

-- a sum v is answered as the smaller of v and 2^64 - 1
pub record Summed (u : List ℕ) (c : Cursor) (x : Located ℕ Cursor) : Type 0 where
  pub v : ℕ
  pub value-is : x.value ≡ min v (2 ^ 64 - 1)
  pub same : sum_from (left_at u c) 0 ≡ ok (v, left_at u x.next)
  pub onward : Onward u c x.next

-- n bytes are passed over
pub record Skipped (u : List ℕ) (c : Cursor) (n : ℕ) (d : Cursor) : Type 0 where
  pub there : n ≤ length (left_at u c)
  pub same : drop n (left_at u c) ≡ left_at u d
  pub no-back : c.at.0 ≤ d.at.0
  pub stays : c.at.0 ≤ length u → d.at.0 ≤ length u

pub record DurationRead (u : List ℕ) (c : Cursor) (n : ℕ) (x : Located ℕ Cursor) : Type 0 where
  pub same : payload_of 257 n (left_at u c) ≡ ok (x.value ∷ [], left_at u x.next)
  pub onward : Onward u c x.next

-- the duration that a message sets, if it sets one
abbrev pub set : Option ℕ → List ℕ
set (Some d) = d ∷ []
set None = []

pub record MessageRead (u : List ℕ) (c : Cursor) (x : Located (Option ℕ) Cursor) : Type 0 where
  pub same : message_of (left_at u c) ≡ ok (set x.value, left_at u x.next)
  pub onward : Onward u c x.next

-- ---- what the call answers

abbrev pub heard : Durations → Option ℕ → Durations
heard s (Some d) = record { count = s.count + 1; last = d }
heard s None = s

-- the last of the durations; 0 where there is none
unfoldable pub last_of : List ℕ → ℕ
last_of [] = 0
last_of (d ∷ []) = d
last_of (d ∷ e ∷ ds) = last_of (e ∷ ds)

-- the durations by their number and the last
abbrev pub summary : List ℕ → Durations
summary ds = record { count = length ds; last = last_of ds }

abbrev pub summed_up : Outcome (List ℕ) → Outcome Durations
summed_up o = o >>= λ ds. ok (summary ds)

-- an answer, or refusal 22 at the unit's first byte
abbrev pub or_22 : {A : Type 0} → Option A → Outcome A
or_22 (Some x) = ok x
or_22 None = error 22 0
