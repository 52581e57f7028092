-- The durations that messages of bytes set have sixteen bits.
use mathlib.Core.Path.{◌≡◌, sym, ◌∙◌, subst}
use mathlib.Core.List.{List, [], ◌∷◌, ◌++◌}
use Prim.Native.Nat.{ℕ, zero, suc, ◌+◌, ◌≤◌}
use native.Mathlib.Omega.{arith}
use lib.Dec.{eqb, leb}
use lib.ListN.{length}
use borrow.Author.Tests.{eq-eqb, ne_eqb}
use Rattle.bpg_codec.specs.Outcome.{ok}
use Rattle.bpg_codec.specs.Lawful.{All, Byte}
use Rattle.bpg_codec.proofs.Outcome.{error-not-ok, ok-injective, unbind, unguard}
use Rattle.bpg_codec.proofs.Select.{select-true, select-false}
use Rattle.bpg_codec.proofs.Tokens.{all_append, all_drop, byte_at}
use Rattle.bpg_nal_units.proofs.Cases.{by-test, by_equal}
use Rattle.bpg_sei.specs.Messages.{sum_from, payload_of, message_of, ends, messages_up_to, durations_in}
use Rattle.bpg_sei.proofs.StepLaws.{sum-end, sum_more, sum-last}

-- what is left after a sum is bytes
sum-bytes : (l : List ℕ) (v : ℕ) (x : ℕ × List ℕ) → All Byte l → sum_from l v ≡ ok x → All Byte x.1
sum-bytes [] v x b e = absurd (error-not-ok (sym (sum-end v) ∙ e))
sum-bytes (c ∷ l) v x b e =
    by_equal c 255
    (λ h. sum-bytes l (v + 255) x b.1 (sym (sum_more c l v h) ∙ e))
    (λ h. subst (λ (y : ℕ × List ℕ). All Byte y.1) (ok-injective (sym (sum-last c l v h) ∙ e)) b.1)

abbrev Small : ℕ → Type 0
Small d = d ≤ 65535

-- of a message: the durations, and what is left
abbrev Fine : List ℕ × List ℕ → Type 0
Fine x = All Small x.0 × All Byte x.1

payload-fine : (t n : ℕ) (l : List ℕ) (x : List ℕ × List ℕ) → All Byte l → payload_of t n l ≡ ok x → Fine x
unfolding payload_of
payload-fine t n l x b e =
    unguard (leb n (length l)) 22 0 _ e λ h f.
    by_equal t 257
    (λ k.
    unguard (eqb n 2) 22 0 _ (sym (select-true _ _ (eq-eqb t 257 k)) ∙ f) λ g q.
    subst Fine (ok-injective q) ((omega (arith, byte_at l 0 b, byte_at l 1 b), tt), all_drop Byte n l b))
    (λ k. subst Fine (ok-injective (sym (select-false _ _ (ne_eqb t 257 k)) ∙ f)) (tt, all_drop Byte n l b))

message-fine : (l : List ℕ) (x : List ℕ × List ℕ) → All Byte l → message_of l ≡ ok x → Fine x
unfolding message_of
message-fine l x b e =
    unbind (sum_from l 0) _ e λ t f g.
    unbind (sum_from t.1 0) _ g λ n h k.
    payload-fine t.0 n.0 n.1 x (sum-bytes t.1 0 n (sum-bytes l 0 t b f) h) k

up-to-small : (k : ℕ) (l ds all : List ℕ) → All Byte l → All Small ds → messages_up_to k l ds ≡ ok all → All Small all
unfolding messages_up_to
up-to-small zero l ds all b s e = absurd (error-not-ok e)
up-to-small (suc k) l ds all b s e =
    unbind (message_of l) _ e λ m f g.
    let w = message-fine l m b f in
    by-test (ends m.1)
    (λ h. subst (All Small) (ok-injective (sym (select-true _ _ h) ∙ g)) (all_append Small ds m.0 s w.0))
    (λ h. up-to-small k m.1 (ds ++ m.0) all w.1 (all_append Small ds m.0 s w.0) (sym (select-false _ _ h) ∙ g))

pub durations-small : (l ds : List ℕ) → All Byte l → durations_in l ≡ ok ds → All (λ d. d ≤ 65535) ds
durations-small l ds b e = up-to-small (length l) l [] ds b tt e
