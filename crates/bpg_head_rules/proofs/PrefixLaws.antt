-- The head of a file's first bytes: a number of 32 bits is decided by six of them, read or refused, and one that is read has at most five.
use mathlib.Core.Path.{◌≡◌, refl, sym, ap, ◌∙◌}
use mathlib.Core.Bool.{Bool, true, false, not}
use mathlib.Core.List.{List, [], ◌∷◌}
use Prim.Native.Nat.{ℕ, zero, suc, ◌+◌, ◌-◌, ◌*◌, ◌%◌, ◌^◌, ◌≤◌, ◌<◌}
use native.Mathlib.Omega.{arith}
use lib.Dec.{ltb, leb, eqb}
use lib.ListN.{length, take, drop, length-take}
use lib.Seq.{take-nil, take-take, get_or-take}
use borrow.Author.Tests.{le-leb, lt-leb, ltb-true, ltb-false, eqb-false, not-true}
use Rattle.bpg_codec.specs.Select.{select}
use Rattle.bpg_codec.specs.Outcome.{Outcome, ok, error, ◌>>=◌, guard, Decoded, decoded}
use Rattle.bpg_codec.specs.Lawful.{All, Byte}
use Rattle.bpg_codec.proofs.Lists.{either_way, take-drop}
use Rattle.bpg_codec.proofs.Outcome.{bind-cong}
use Rattle.bpg_codec.proofs.Tokens.{all_drop}
use Rattle.bpg_ue7.specs.Ue7.{ue7_rest, ue7_decode, not_zero}
use Rattle.bpg_format.specs.Read.{read_flags, Head, read_head}
use Rattle.bpg_read_head.specs.Heads.{read_extension_length}
use Rattle.bpg_head_rules.specs.Requirements.{enough_bytes}

-- m bytes more take a value above its limit, whatever they are
abbrev Large : (m v : ℕ) → Type 0
Large zero v = 2 ^ 32 ≤ v
Large (suc m) v = Large m (v * 128)

larger : (m a b : ℕ) → a ≤ b → Large m a → Large m b
larger zero a b h l = omega arith
larger (suc m) a b h l = larger m (a * 128) (b * 128) (omega arith) l

module _ (end : ℕ) where
  -- a number in what is left of a region that is cut off at `end`, and in what is left of the whole: the same value, before `most`, or the same refusal
  data Agree (most : ℕ) : (cut whole : Outcome (Decoded ℕ ℕ)) → Type 0 where
    value : (v q : ℕ) (l : List ℕ) → q < most → All Byte l → Agree most (ok (decoded v q (take (end - q) l))) (ok (decoded v q l))
    refusal : (s o : ℕ) → Agree most (error s o) (error s o)

  then-agree : {B : Type 0} {most : ℕ} {m n : Outcome (Decoded ℕ ℕ)} (k f : Decoded ℕ ℕ → Outcome B) → Agree most m n
      → ((v q : ℕ) (l : List ℕ) → q < most → All Byte l → k (decoded v q (take (end - q) l)) ≡ f (decoded v q l)) → (m >>= k) ≡ (n >>= f)
  then-agree k f (value v q l h b) g = g v q l h b
  then-agree k f (refusal s o) g = refl

  -- ---- one number

  -- the byte at p makes the value w; t: it is within its limit; u: that byte is the last
  byte-agrees : (t u : Bool) (p w m : ℕ) (l : List ℕ) (more whole : Outcome (Decoded ℕ ℕ)) → All Byte l → ltb w (2 ^ 32) ≡ t → (w < 2 ^ 32 → 0 < m)
      → (w < 2 ^ 32 → u ≡ false → Agree (p + 1 + m) more whole)
      → Agree (p + 1 + m) (guard t 8 p >>= λ _. select u (ok (decoded w (p + 1) (take (end - (p + 1)) l))) more)
      (guard t 8 p >>= λ _. select u (ok (decoded w (p + 1) l)) whole)
  unfolding select
  byte-agrees false u p w m l more whole all e h f = refusal 8 p
  byte-agrees true true p w m l more whole all e h f = value w (p + 1) l (omega (arith, h (ltb-true _ _ e))) all
  byte-agrees true false p w m l more whole all e h f = f (ltb-true _ _ e) refl

  -- what is left from p on begins with the byte at p
  pub next-cut : (p b : ℕ) (l : List ℕ) → p < end → take (end - p) (b ∷ l) ≡ b ∷ take (end - (p + 1)) l
  next-cut p b l h = let e : end - p ≡ suc (end - (p + 1)) = omega arith in rw e

  small : (m w : ℕ) → Large m w → w < 2 ^ 32 → 0 < m
  small zero w b h = absurd (omega arith)
  small (suc m) w b h = omega arith

  rest-agrees : (l : List ℕ) (m v p : ℕ) → All Byte l → v < 2 ^ 32 → Large m v → p + m ≤ end → Agree (p + m) (ue7_rest 32 v p (take (end - p) l)) (ue7_rest 32 v p l)
  unfolding ue7_rest
  rest-agrees [] m v p all h big k = rw (take-nil (end - p)) (refusal 2 p)
  rest-agrees (b ∷ l) zero v p all h big k = absurd (omega arith)
  rest-agrees (b ∷ l) (suc m) v p all h big k =
      let w = v * 128 + b % 128 in
      let next : Large m w = larger m (v * 128) w (omega arith) big in
      let e : p + suc m ≡ p + 1 + m = omega arith in
      rw (next-cut p b l (omega arith), e)
      (byte-agrees (ltb w (2 ^ 32)) (ltb b 128) p w m l _ _ all.1 refl (small m w next) (λ s _. rest-agrees l m w (p + 1) all.1 s next (omega arith)))

  number-agrees : (p : ℕ) (l : List ℕ) → All Byte l → p + 6 ≤ end → Agree (p + 6) (ue7_decode 32 p (take (end - p) l)) (ue7_decode 32 p l)
  unfolding ue7_decode ue7_rest
  number-agrees p [] all k = rw (take-nil (end - p)) (refusal 2 p)
  number-agrees p (b ∷ l) all k =
      let e : p + 6 ≡ p + 1 + 5 = omega arith in
      rw (next-cut p b l (omega arith), e) (by (not (eqb b 128)) refl)
    where
      by : (t : Bool) → not (eqb b 128) ≡ t
          → Agree (p + 1 + 5) (guard t 7 p >>= λ _. ue7_rest 32 0 p (b ∷ take (end - (p + 1)) l)) (guard t 7 p >>= λ _. ue7_rest 32 0 p (b ∷ l))
      by false e = refusal 7 p
      by true e =
          byte-agrees (ltb (0 * 128 + b % 128) (2 ^ 32)) (ltb b 128) p (0 * 128 + b % 128) 5 l _ _ all.1 refl (λ _. omega arith)
          (λ s u. rest-agrees l 5 (0 * 128 + b % 128) (p + 1) all.1 s (omega (arith, ltb-false b 128 u, eqb-false b 128 (not-true (eqb b 128) e), all.0)) (omega arith))

  length-agrees : (t : Bool) (p : ℕ) (l : List ℕ) → All Byte l → p + 6 ≤ end
      → Agree (p + 6) (read_extension_length t p (take (end - p) l)) (read_extension_length t p l)
  unfolding select
  length-agrees true p l all k = number-agrees p l all k
  length-agrees false p l all k = value 0 p l (omega arith) all

  -- ---- the head

  least-agrees : (l : List ℕ) → 6 ≤ end → leb 6 (length (take end l)) ≡ leb 6 (length l)
  least-agrees l k =
      either_way 6 (length l) (λ h. le-leb 6 (length (take end l)) (omega (arith, length-take end l)) ∙ sym (le-leb 6 (length l) h))
      (λ h. lt-leb 6 (length (take end l)) (omega (arith, length-take end l)) ∙ sym (lt-leb 6 (length l) h))

  pub flags-agree : (l : List ℕ) → 6 ≤ end → read_flags (take end l) ≡ read_flags l
  unfolding read_flags
  flags-agree l k = rw (least-agrees l k, take-take 4 end l (omega arith), get_or-take end l 4 0 (omega arith), get_or-take end l 5 0 (omega arith))

  pub after-flags : (l : List ℕ) → 6 ≤ end → drop 6 (take end l) ≡ take (end - 6) (drop 6 l)
  after-flags l k = let e : 6 + (end - 6) ≡ end = omega arith in sym (take-drop (end - 6) 6 l ∙ ap (λ (n : ℕ). drop 6 (take n l)) e)

  pub first-bytes : (l : List ℕ) → All Byte l → enough_bytes ≤ end → read_head (take end l) ≡ read_head l
  unfolding read_head
  first-bytes l all k =
      rw (flags-agree l (omega arith), after-flags l (omega arith))
      (bind-cong (read_flags l) _ _ λ f _.
      then-agree _ _ (number-agrees 6 (drop 6 l) (all_drop Byte 6 l all) (omega arith)) λ w q1 l1 h1 b1.
      ap (λ (m : Outcome Head). guard (not_zero w) 9 6 >>= λ _. m)
      (then-agree _ _ (number-agrees q1 l1 b1 (omega arith)) λ v q2 l2 h2 b2.
      ap (λ (m : Outcome Head). guard (not_zero v) 9 q1 >>= λ _. m)
      (then-agree _ _ (number-agrees q2 l2 b2 (omega arith)) λ s q3 l3 h3 b3.
      then-agree _ _ (length-agrees f.extension_present q3 l3 b3 (omega arith)) λ x q4 l4 h4 b4. refl)))
