-- Payloads, messages, and all messages of a unit: one equation for each case.
use mathlib.Core.Path.{◌≡◌, refl, sym, ap, ◌∙◌}
use mathlib.Core.Bool.{Bool, true, false, not, false≢true}
use Rattle.std.proofs.Common.{Option, Some, None, MatchOption}
use Rattle.std.specs.Option.{is_some}
use mathlib.Core.List.{List, [], ◌∷◌, ◌++◌}
use Prim.Native.Nat.{ℕ, zero, suc, ◌+◌, ◌*◌, ◌≤◌, ◌<◌}
use native.Mathlib.Nat.{le_refl}
use native.Mathlib.Omega.{arith}
use lib.Dec.{eqb, leb}
use lib.ListN.{length, drop, length-drop}
use borrow.Author.Tests.{eq-eqb, ne_eqb, le-leb, lt-leb}
use Rattle.bpg_codec.specs.Select.{select}
use Rattle.bpg_codec.specs.Outcome.{Outcome, ok, error, ◌>>=◌}
use Rattle.bpg_codec.proofs.Lists.{either_way}
use Rattle.bpg_codec.proofs.Outcome.{error-not-ok, ok-injective, unbind, unguard}
use Rattle.bpg_codec.proofs.Select.{select-true, select-false}
use Rattle.bpg_nal_units.proofs.Cases.{by-test, by_equal}
use Rattle.bpg_bytes.specs.declared.position.Located.{Located}
use Rattle.bpg_sei.specs.declared.content.Cursor.{Cursor}
use Rattle.bpg_sei.specs.Messages.{Read, sum_from, payload_of, message_of, ends, messages_up_to, messages_from}
use Rattle.bpg_sei.specs.Steps.{left_at, Stepped}
use Rattle.bpg_sei.proofs.StepLaws.{sum-end, sum_more, sum-last}

-- ---- the end

pub ends-none : (l : List ℕ) → l ≡ [] → false ≡ ends l
unfolding ends
ends-none l e = rw e

pub ends-other : (l : List ℕ) (b : ℕ) (m : List ℕ) → l ≡ b ∷ m → (b ≡ 128 → ⊥) → false ≡ ends l
unfolding ends
ends-other l b m e h = rw (e, ne_eqb b 128 h) (by-test (eqb (suc (length m)) 1) (λ f. rw f) (λ f. rw f))

-- the 80 is the last byte where none stands behind it
pub ends-by : (u l : List ℕ) (c : Cursor) (b : ℕ) (r : Option (Located ℕ Cursor)) → MatchOption r (left_at u c ≡ []) (Stepped u c)
    → l ≡ b ∷ left_at u c → b ≡ 128 → (t : Bool) → is_some r ≡ not t → t ≡ ends l
unfolding ends
ends-by u l c b None w e h true k = rw (e, w, h)
ends-by u l c b None w e h false k = absurd (false≢true k)
ends-by u l c b (Some x) w e h true k = absurd (false≢true (sym k))
ends-by u l c b (Some x) w e h false k =
    let n = ap length w.same in rw (e, ne_eqb (suc (length (left_at u c))) 1 (λ q. omega arith))

-- ---- a payload

pub pay-short : (t n : ℕ) (l : List ℕ) → length l < n → payload_of t n l ≡ error 22 0
unfolding payload_of
pay-short t n l h = rw (lt-leb n (length l) h)

pub pay_odd : (n : ℕ) (l : List ℕ) → (n ≡ 2 → ⊥) → payload_of 257 n l ≡ error 22 0
unfolding payload_of
pay_odd n l h =
    either_way n (length l)
    (λ k. rw (le-leb n (length l) k, ne_eqb n 2 h) (select-true _ _ refl))
    (λ k. rw (lt-leb n (length l) k))

pub pay-pair : (n : ℕ) (l : List ℕ) (a b : ℕ) (r : List ℕ) → n ≡ 2 → l ≡ a ∷ b ∷ r → payload_of 257 n l ≡ ok ((a * 256 + b) ∷ [], r)
unfolding payload_of
pay-pair n l a b r h e = rw (e, h, le-leb 2 (length (a ∷ b ∷ r)) (omega arith)) (select-true _ _ refl)

pub pay-other : (t n : ℕ) (l : List ℕ) → (t ≡ 257 → ⊥) → n ≤ length l → payload_of t n l ≡ ok ([], drop n l)
unfolding payload_of
pay-other t n l h k = rw (le-leb n (length l) k) (select-false _ _ (ne_eqb t 257 h))

-- ---- a message

module _ (l : List ℕ) where
  pub msg-no-type : sum_from l 0 ≡ error 22 0 → message_of l ≡ error 22 0
  unfolding message_of
  msg-no-type e = rw e

  module _ (t : ℕ) (m : List ℕ) (e : sum_from l 0 ≡ ok (t, m)) where
    pub msg-no-size : sum_from m 0 ≡ error 22 0 → message_of l ≡ error 22 0
    unfolding message_of
    msg-no-size f = rw (e, f)

    pub msg-payload : (n : ℕ) (r : List ℕ) → sum_from m 0 ≡ ok (n, r) → message_of l ≡ payload_of t n r
    unfolding message_of
    msg-payload n r f = rw (e, f)

-- what is read makes the list shorter

sum-shorter : (l : List ℕ) (v : ℕ) (x : ℕ × List ℕ) → sum_from l v ≡ ok x → length x.1 < length l
sum-shorter [] v x e = absurd (error-not-ok (sym (sum-end v) ∙ e))
sum-shorter (b ∷ l) v x e =
    by_equal b 255
    (λ h. let k = sum-shorter l (v + 255) x (sym (sum_more b l v h) ∙ e) in omega arith)
    (λ h. let k = ap (λ (y : ℕ × List ℕ). length y.1) (ok-injective (sym (sum-last b l v h) ∙ e)) in omega arith)

payload-shorter : (t n : ℕ) (l : List ℕ) (x : List ℕ × List ℕ) → payload_of t n l ≡ ok x → length x.1 ≤ length l
unfolding payload_of
payload-shorter t n l x e =
    unguard (leb n (length l)) 22 0 _ e λ h f.
    let left = length-drop n l in
    by_equal t 257
    (λ k.
    unguard (eqb n 2) 22 0 _ (sym (select-true _ _ (eq-eqb t 257 k)) ∙ f) λ g q.
    let z = ap (λ (y : List ℕ × List ℕ). length y.1) (ok-injective q) in omega arith)
    (λ k. let z = ap (λ (y : List ℕ × List ℕ). length y.1) (ok-injective (sym (select-false _ _ (ne_eqb t 257 k)) ∙ f)) in omega arith)

message-shorter : (l : List ℕ) (x : List ℕ × List ℕ) → message_of l ≡ ok x → length x.1 < length l
unfolding message_of
message-shorter l x e =
    unbind (sum_from l 0) _ e λ t a b.
    unbind (sum_from t.1 0) _ b λ n c d.
    let p = sum-shorter l 0 t a in
    let q = sum-shorter t.1 0 n c in
    let r = payload-shorter t.0 n.0 n.1 x d in
    omega arith

-- ---- all messages: three equations, after which no proof looks at the bound

-- one turn, whatever is enough for the rest
abbrev turn : (List ℕ → List ℕ → Outcome (List ℕ)) → (ds : List ℕ) → Read (List ℕ) → Outcome (List ℕ)
turn f ds y = y >>= λ m. select (ends m.1) (ok (ds ++ m.0)) (f m.1 (ds ++ m.0))

turn_is : (k : ℕ) (l ds : List ℕ) → messages_up_to (suc k) l ds ≡ turn (messages_up_to k) ds (message_of l)
unfolding messages_up_to
turn_is k l ds = refl

up-to-none : (l ds : List ℕ) → messages_up_to 0 l ds ≡ error 22 0
unfolding messages_up_to
up-to-none l ds = refl

none-message : (l : List ℕ) → length l ≤ 0 → message_of l ≡ error 22 0
none-message [] h = msg-no-type [] (sum-end 0)
none-message (b ∷ l) h = absurd (omega arith)

same_turn : (f g : List ℕ → List ℕ → Outcome (List ℕ)) (l ds : List ℕ) → ((r es : List ℕ) → length r < length l → f r es ≡ g r es)
    → (y : Read (List ℕ)) → message_of l ≡ y → turn f ds y ≡ turn g ds y
same_turn f g l ds ih (error s o) e = refl
same_turn f g l ds ih (ok m) e =
    ap (λ (t : Outcome (List ℕ)). select (ends m.1) (ok (ds ++ m.0)) t) (ih m.1 (ds ++ m.0) (message-shorter l m e))

enough : (j k : ℕ) (l ds : List ℕ) → length l ≤ j → length l ≤ k → messages_up_to j l ds ≡ messages_up_to k l ds
enough zero zero l ds h g = refl
enough zero (suc k) l ds h g = up-to-none l ds ∙ sym (turn_is k l ds ∙ rw (none-message l h))
enough (suc j) zero l ds h g = turn_is j l ds ∙ rw (none-message l g) (sym (up-to-none l ds))
enough (suc j) (suc k) l ds h g =
    turn_is j l ds
    ∙ same_turn (messages_up_to j) (messages_up_to k) l ds (λ r es q. enough j k r es (omega arith) (omega arith)) (message_of l) refl
    ∙ sym (turn_is k l ds)

messages-turn : (l ds : List ℕ) → messages_from l ds ≡ turn (messages_up_to (length l)) ds (message_of l)
messages-turn l ds = enough (length l) (suc (length l)) l ds (le_refl _) (omega arith) ∙ turn_is (length l) l ds

pub messages-cut : (l ds : List ℕ) → message_of l ≡ error 22 0 → messages_from l ds ≡ error 22 0
messages-cut l ds e = messages-turn l ds ∙ rw e

module _ (l ds new r : List ℕ) (e : message_of l ≡ ok (new, r)) where
  pub messages-last : ends r ≡ true → messages_from l ds ≡ ok (ds ++ new)
  messages-last h = messages-turn l ds ∙ rw e (select-true _ _ h)

  pub messages-more : ends r ≡ false → messages_from l ds ≡ messages_from r (ds ++ new)
  messages-more h =
      messages-turn l ds
      ∙ rw e (select-false _ _ h ∙ enough (length l) (length r) r (ds ++ new) (let k = message-shorter l (new, r) e in omega arith) (le_refl _))
