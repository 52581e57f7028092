-- Messages are refused with 22 alone.
use mathlib.Core.Path.{◌≡◌, refl}
use mathlib.Core.List.{List, [], ◌∷◌, ◌++◌}
use Prim.Native.Nat.{ℕ, zero, suc, ◌+◌}
use lib.Dec.{eqb, leb}
use lib.ListN.{length}
use Rattle.bpg_codec.proofs.Refusals.{Refuses, refuses-ok, refuses-error, refuses-bind, refuses-guard, refuses-select}
use Rattle.bpg_sei.specs.Messages.{sum_from, payload_of, message_of, ends, messages_up_to, durations_in}

abbrev Is22 : ℕ → ℕ → Type 0
Is22 s o = s ≡ 22

sum-refuses : (l : List ℕ) (v : ℕ) → Refuses Is22 (sum_from l v)
unfolding sum_from
sum-refuses [] v = refuses-error Is22 22 0 refl
sum-refuses (b ∷ l) v = refuses-select Is22 (eqb b 255) _ _ (sum-refuses l (v + 255)) (refuses-ok Is22 (v + b, l))

payload-refuses : (t n : ℕ) (l : List ℕ) → Refuses Is22 (payload_of t n l)
unfolding payload_of
payload-refuses t n l =
    refuses-guard Is22 (leb n (length l)) 22 0 _ refl
    (refuses-select Is22 (eqb t 257) _ _ (refuses-guard Is22 (eqb n 2) 22 0 _ refl (refuses-ok Is22 _)) (refuses-ok Is22 _))

message-refuses : (l : List ℕ) → Refuses Is22 (message_of l)
unfolding message_of
message-refuses l =
    refuses-bind Is22 (sum_from l 0) _ (sum-refuses l 0) λ t.
    refuses-bind Is22 (sum_from t.1 0) _ (sum-refuses t.1 0) λ n.
    payload-refuses t.0 n.0 n.1

up-to-refuses : (k : ℕ) (l ds : List ℕ) → Refuses Is22 (messages_up_to k l ds)
unfolding messages_up_to
up-to-refuses zero l ds = refuses-error Is22 22 0 refl
up-to-refuses (suc k) l ds =
    refuses-bind Is22 (message_of l) _ (message-refuses l) λ m.
    refuses-select Is22 (ends m.1) _ _ (refuses-ok Is22 (ds ++ m.0)) (up-to-refuses k m.1 (ds ++ m.0))

pub durations-refuse : (l : List ℕ) → Refuses (λ s o. s ≡ 22) (durations_in l)
durations-refuse l = up-to-refuses (length l) l []
