-- The head of a file is that of its own bytes: a number that is read needs none after it.
use mathlib.Core.Path.{◌≡◌, refl, sym, ap, ◌∙◌, subst}
use mathlib.Core.Bool.{Bool, true, false, not}
use mathlib.Core.List.{List, [], ◌∷◌}
use Prim.Native.Nat.{ℕ, ◌+◌, ◌-◌, ◌*◌, ◌%◌, ◌^◌, ◌≤◌, ◌<◌}
use native.Mathlib.Omega.{arith}
use lib.Dec.{ltb, eqb}
use lib.ListN.{take, drop}
use Rattle.bpg_codec.specs.Select.{select}
use Rattle.bpg_codec.specs.Outcome.{Outcome, ok, Decoded, decoded}
use Rattle.bpg_codec.proofs.Select.{is_true}
use Rattle.bpg_codec.proofs.Outcome.{error-not-ok, ok-injective, unbind, unguard, guard-true}
use Rattle.bpg_ue7.specs.Ue7.{ue7_rest, ue7_decode, not_zero}
use Rattle.bpg_ue7.proofs.Advances.{ue7-advances}
use Rattle.bpg_format.specs.Read.{read_flags, Head, read_head}
use Rattle.bpg_read_head.specs.Heads.{read_extension_length}
use Rattle.bpg_read_head.proofs.HeadLaws.{optional-advanced}
use Rattle.bpg_head_rules.proofs.PrefixLaws.{next-cut, flags-agree, after-flags}

module _ (end : ℕ) where
  -- what was read, in a region that is cut off at `end`
  abbrev cut : Decoded ℕ ℕ → Decoded ℕ ℕ
  cut x = decoded x.value x.next (take (end - x.next) x.rest)

  -- and the number has at least one byte
  abbrev Reads : (p : ℕ) → Decoded ℕ ℕ → Outcome (Decoded ℕ ℕ) → Type 0
  Reads p x o = (p < x.next) × (o ≡ ok (cut x))

  byte_cut : (u : Bool) (p w : ℕ) (l : List ℕ) (more whole : Outcome (Decoded ℕ ℕ)) (x : Decoded ℕ ℕ)
      → (whole ≡ ok x → Reads (p + 1) x more) → select u (ok (decoded w (p + 1) l)) whole ≡ ok x
      → Reads p x (select u (ok (decoded w (p + 1) (take (end - (p + 1)) l))) more)
  unfolding select
  byte_cut true p w l more whole x ih e =
      subst (λ (y : Decoded ℕ ℕ). Reads p y (ok (decoded w (p + 1) (take (end - (p + 1)) l)))) (ok-injective e) (omega arith, refl)
  byte_cut false p w l more whole x ih e = let r = ih e in (omega (arith, r.0), r.1)

  rest-cut : (l : List ℕ) (n v p : ℕ) (x : Decoded ℕ ℕ) → x.next ≤ end → ue7_rest n v p l ≡ ok x → Reads p x (ue7_rest n v p (take (end - p) l))
  unfolding ue7_rest
  rest-cut [] n v p x h e = absurd (error-not-ok e)
  rest-cut (b ∷ l) n v p x h e =
      let w = v * 128 + b % 128 in
      unguard (ltb w (2 ^ n)) 8 p _ e λ t e1.
      let r = byte_cut (ltb b 128) p w l (ue7_rest n w (p + 1) (take (end - (p + 1)) l)) _ x (rest-cut l n w (p + 1) x h) e1 in
      (r.0, rw (next-cut end p b l (omega (arith, r.0, h))) (guard-true (ltb w (2 ^ n)) 8 p _ t ∙ r.1))

  number_cut : (n p : ℕ) (l : List ℕ) (x : Decoded ℕ ℕ) → x.next ≤ end → ue7_decode n p l ≡ ok x → ue7_decode n p (take (end - p) l) ≡ ok (cut x)
  unfolding ue7_decode
  number_cut n p [] x h e = absurd (error-not-ok e)
  number_cut n p (b ∷ l) x h e =
      unguard (not (eqb b 128)) 7 p _ e λ t e1.
      let r = rest-cut (b ∷ l) n 0 p x h e1 in
      let c = next-cut end p b l (omega (arith, r.0, h)) in
      rw c (guard-true (not (eqb b 128)) 7 p _ t ∙ ap (ue7_rest n 0 p) (sym c) ∙ r.1)

  length_cut : (t : Bool) (p : ℕ) (l : List ℕ) (x : Decoded ℕ ℕ) → x.next ≤ end → read_extension_length t p l ≡ ok x
      → read_extension_length t p (take (end - p) l) ≡ ok (cut x)
  unfolding select
  length_cut true p l x h e = number_cut 32 p l x h e
  length_cut false p l x h e = subst (λ (y : Decoded ℕ ℕ). ◌≡◌ {A = Outcome (Decoded ℕ ℕ)} (ok (decoded 0 p (take (end - p) l))) (ok (cut y))) (ok-injective e) refl

-- the offset after a number is at or past its own
module _ (p : ℕ) (l : List ℕ) (x : Decoded ℕ ℕ) where
  onward : ue7_decode 32 p l ≡ ok x → p ≤ x.next
  onward e = ((ue7-advances 32).advances p p l x e).forward

pub own-bytes : (l : List ℕ) (h : Head) → read_head l ≡ ok h → read_head (take h.end l) ≡ ok h
unfolding read_head
own-bytes l h e =
    unbind (read_flags l) _ e λ f e1 k1.
    unbind (ue7_decode 32 6 (drop 6 l)) _ k1 λ w e2 k2.
    unguard (not_zero w.value) 9 6 _ k2 λ n1 k3.
    unbind (ue7_decode 32 w.next w.rest) _ k3 λ v e4 k4.
    unguard (not_zero v.value) 9 w.next _ k4 λ n2 k5.
    unbind (ue7_decode 32 v.next v.rest) _ k5 λ s e6 k6.
    unbind (read_extension_length f.extension_present s.next s.rest) _ k6 λ x e7 k7.
    let a = onward 6 (drop 6 l) w e2 in
    let b = onward w.next w.rest v e4 in
    let c = onward v.next v.rest s e6 in
    let d = (optional-advanced s.next s.rest x f.extension_present e7).forward in
    subst (λ (g : Head). read_head (take g.end l) ≡ ok g) (ok-injective k7)
    (rw (
      flags-agree x.next l (omega arith),
      e1,
      after-flags x.next l (omega arith),
      number_cut x.next 32 6 (drop 6 l) w (omega arith) e2,
      is_true (not_zero w.value) n1,
      number_cut x.next 32 w.next w.rest v (omega arith) e4,
      is_true (not_zero v.value) n2,
      number_cut x.next 32 v.next v.rest s (omega arith) e6,
      length_cut x.next f.extension_present s.next s.rest x (omega arith) e7,
    ))
