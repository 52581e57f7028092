-- What is missing in bits is refusal 15 at the item, and the item decides nothing else: so an answer says for item 0 what it says for each.
use mathlib.Core.Path.{◌≡◌, refl, sym, ap, ◌∙◌}
use mathlib.Core.Bool.{Bool, true, false}
use mathlib.Core.List.{List, [], ◌∷◌}
use Prim.Native.Nat.{ℕ, ◌+◌}
use lib.Dec.{ltb, leb}
use lib.ListN.{length, take, drop}
use Rattle.bpg_codec.specs.Select.{select}
use Rattle.bpg_codec.specs.Outcome.{Outcome, ok, error, ◌>>=◌, guard, Decoded, decoded, located}
use Rattle.bpg_codec.specs.Codec.{Codec, decode_at, at_item}
use Rattle.bpg_codec.specs.Bits.{Bit, number}
use Rattle.bpg_codec.specs.Parts.{sequence, mapped, absent, fixed}
use Rattle.bpg_codec.proofs.Outcome.{error-not-ok}
use Rattle.bpg_bytes.specs.declared.position.BitPos.{BitPos}
use Rattle.std.specs.Prelude.{Option, Some}
use Rattle.bpg_bytes.specs.declared.position.Located.{Located}
use Rattle.bpg_bits.specs.BitNumbers.{unsigned, prefix_decode, exp_golomb}
use Rattle.bpg_bits.specs.Answers.{bit_outcome, bit_answer}

abbrev pub missing_at : {A : Type 0} (item : ℕ) → Outcome A → Outcome A
missing_at i (ok a) = ok a
missing_at i (error s o) = error 15 i

pub record Itemed {A : Type 0} (c : Codec Bool A) : Type 0 where
  pub items : (i p : ℕ) (l : List Bool) → c.decode i p l ≡ missing_at i (c.decode 0 p l)

-- ---- steps

module _ {B : Type 0} (i : ℕ) where
  bind-items : {A : Type 0} (m n : Outcome A) (k f : A → Outcome B) → n ≡ missing_at i m → ((a : A) → f a ≡ missing_at i (k a)) → (n >>= f) ≡ missing_at i (m >>= k)
  bind-items (ok a) n k f e h = rw e (h a)
  bind-items (error s o) n k f e h = rw e

  guard-items : (t : Bool) (m n : Outcome B) → n ≡ missing_at i m → (guard t 15 i >>= λ _. n) ≡ missing_at i (guard t 15 0 >>= λ _. m)
  guard-items true m n e = e
  guard-items false m n e = refl

-- ---- the numbers

pub unsigned-items : (n : ℕ) → Itemed (unsigned n)
unsigned-items n = record { items = λ i p l. guard-items i (leb n (length l)) (ok (decoded (number (take n l)) (p + n) (drop n l))) _ refl }

prefix-items : (l : List Bool) (i z p : ℕ) → prefix_decode i z p l ≡ missing_at i (prefix_decode 0 z p l)
unfolding prefix_decode
prefix-items [] i z p = refl
prefix-items (true ∷ l) i z p = refl
prefix-items (false ∷ l) i z p = guard-items i (ltb z 31) (prefix_decode 0 (z + 1) (p + 1) l) (prefix_decode i (z + 1) (p + 1) l) (prefix-items l i (z + 1) (p + 1))

pub exp_golomb-items : Itemed exp_golomb
exp_golomb-items =
    record {
      items = λ i p l.
          bind-items i (prefix_decode 0 0 p l) _ _ _ (prefix-items l i 0 p) λ x.
          bind-items i ((unsigned x.value).decode 0 x.next x.rest) _ _ _ ((unsigned-items x.value).items i x.next x.rest) λ y.
          refl;
    }

-- ---- the combinators

pub sequence-items : {A B : Type 0} {c : Codec Bool A} {d : A → Codec Bool B} → Itemed c → ((a : A) → Itemed (d a)) → Itemed (sequence c d)
unfolding sequence
sequence-items {c} {d} hc hd =
    record {
      items = λ i p l.
          bind-items i (c.decode 0 p l) _ _ _ (hc.items i p l) λ x.
          bind-items i ((d x.value).decode 0 x.next x.rest) _ _ _ ((hd x.value).items i x.next x.rest) λ y.
          refl;
    }

pub mapped-items : {A B : Type 0} {c : Codec Bool A} → Itemed c → (to : A → B) (from : B → A) → Itemed (mapped c to from)
unfolding mapped
mapped-items {c} hc to from = record { items = λ i p l. bind-items i (c.decode 0 p l) _ _ _ (hc.items i p l) λ x. refl }

pub optional-items : {A : Type 0} {c : Codec Bool A} → Itemed c → (b : Bool) (e : A) → Itemed (select b c (absent e))
unfolding select absent
optional-items hc true e = hc
optional-items hc false e = record { items = λ i p l. refl }

pub fixed-items : (n : ℕ) → Itemed (fixed Bit n 15 at_item)
unfolding fixed
fixed-items n = record { items = λ i p l. guard-items i (leb n (length l)) (ok (decoded (take n l) (p + n) (drop n l))) _ refl }

-- ---- the answers

located-items : {A S : Type 0} (i : ℕ) (m : Outcome (Decoded S A)) → located (missing_at i m) ≡ missing_at i (located m)
located-items i (ok x) = refl
located-items i (error s o) = refl

module _ {A : Type 0} {c : Codec Bool A} (hc : Itemed c) (bits : List Bool) (i p : ℕ) where
  pub at_item-located : decode_at bits c i p ≡ missing_at i (decode_at bits c 0 p)
  at_item-located = ap located (hc.items i p (drop p bits)) ∙ located-items i (c.decode 0 p (drop p bits))

told : (i : ℕ) (m : Outcome (ℕ × ℕ)) → bit_outcome i (bit_answer m) ≡ missing_at i m
told i (ok x) = refl
told i (error s o) = refl

-- a number that was found
pub value-outcome : {m : Outcome (ℕ × ℕ)} (r : Option (Located ℕ BitPos)) → r ≡ bit_answer m → (x : Located ℕ BitPos) → r ≡ Some x → ok (x.value, x.next.0) ≡ m
value-outcome {m} r e x k = by m (ap (bit_outcome 0) (sym k ∙ e) ∙ told 0 m)
  where
    by : (m : Outcome (ℕ × ℕ)) → ok (x.value, x.next.0) ≡ missing_at 0 m → ok (x.value, x.next.0) ≡ m
    by (ok y) w = w
    by (error s o) w = absurd (error-not-ok (sym w))
