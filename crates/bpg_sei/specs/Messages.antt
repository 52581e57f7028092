-- The messages of a prefix SEI unit (request 1/13; H.265, 7.3.2.4 and 7.3.5), over the content of the unit behind its header: "SEI messages
-- follow each other, type and size coded as in H.265, at least one, until the one byte 80 is left". Messages that are cut short are 22, at
-- the unit's first byte: offset 0 here.
use Rattle.std.specs.Prelude.{Bool, ◌&&◌, List, [], ◌∷◌, ◌++◌, ℕ, zero, suc, ◌+◌, ◌*◌, eqb, leb, length, drop, get_or}
use Rattle.bpg_codec.specs.Select.{select}
use Rattle.bpg_codec.specs.Outcome.{Outcome, ok, error, ◌>>=◌, guard}

-- something read, and the bytes after it
abbrev pub Read : Type 0 → Type 0
Read A = Outcome (A × List ℕ)

-- a payload type or size: 255 for each byte FF, and the first other byte; v so far
unfoldable pub sum_from : List ℕ → (v : ℕ) → Read ℕ
sum_from [] v = error 22 0
sum_from (b ∷ l) v = select (eqb b 255) (sum_from l (v + 255)) (ok (v + b, l))

-- a payload of n bytes: of type 257 it is a duration, sixteen bits; other types are skipped
unfoldable pub payload_of : (type n : ℕ) → List ℕ → Read (List ℕ)
payload_of t n l =
    guard (leb n (length l)) 22 0 >>= λ _.
    select (eqb t 257)
    (guard (eqb n 2) 22 0 >>= λ _. ok ((get_or l 0 0 * 256 + get_or l 1 0) ∷ [], drop n l))
    (ok ([], drop n l))

-- a message: the duration that it sets, if it sets one
unfoldable pub message_of : List ℕ → Read (List ℕ)
message_of l = sum_from l 0 >>= λ t. sum_from t.1 0 >>= λ n. payload_of t.0 n.0 n.1

-- the one byte 80 is left
unfoldable pub ends : List ℕ → Bool
ends l = eqb (length l) 1 && eqb (get_or l 0 0) 128

-- at least one message, until the one byte 80 is left: the durations that they set, after ds. There are at most `most` messages.
unfoldable pub messages_up_to : (most : ℕ) → List ℕ → (ds : List ℕ) → Outcome (List ℕ)
messages_up_to zero l ds = error 22 0
messages_up_to (suc k) l ds = message_of l >>= λ m. select (ends m.1) (ok (ds ++ m.0)) (messages_up_to k m.1 (ds ++ m.0))

-- each message takes at least two bytes, so there are no more than bytes
abbrev pub messages_from : List ℕ → (ds : List ℕ) → Outcome (List ℕ)
messages_from l ds = messages_up_to (length l) l ds

abbrev pub durations_in : List ℕ → Outcome (List ℕ)
durations_in l = messages_from l []
