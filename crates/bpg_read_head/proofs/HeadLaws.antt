-- What is known of a head that was read: that it ends within its file, and that each field fits.
use mathlib.Core.Path.{◌≡◌, sym, ap, subst}
use mathlib.Core.Bool.{Bool, true, false}
use mathlib.Core.List.{List}
use Prim.Native.Nat.{ℕ, ◌-◌, ◌/◌, ◌%◌, ◌≤◌}
use native.Mathlib.Omega.{arith}
use lib.Dec.{leb, leb→le}
use lib.ListN.{length, take, drop, get_or, length-drop}
use Rattle.bpg_codec.specs.Select.{select}
use Rattle.bpg_codec.specs.Outcome.{ok, Decoded}
use Rattle.bpg_codec.specs.Lists.{same}
use Rattle.bpg_codec.proofs.Select.{and_left}
use Rattle.bpg_codec.proofs.Outcome.{ok-injective, unbind, unguard}
use Rattle.bpg_codec.proofs.Positions.{Advanced, advanced-then}
use Rattle.bpg_ue7.specs.Ue7.{ue7_decode, not_zero}
use Rattle.bpg_ue7.proofs.Advances.{ue7-advances}
use Rattle.bpg_format.specs.Content.{Flags}
use Rattle.bpg_format.specs.Syntax.{magic}
use Rattle.bpg_format.specs.Tests.{color_space_allowed}
use Rattle.bpg_format.specs.Read.{flags_of, read_flags, Head, read_head}
use Rattle.bpg_read_head.specs.Heads.{read_extension_length}

pub record HeadFacts (l : List ℕ) (h : Head) : Type 0 where
  pub end-inside : h.end ≤ length l
  pub depth-limit : h.flags.bit_depth_minus8 ≤ 6

-- ---- one number

module _ (p : ℕ) (l : List ℕ) (x : Decoded ℕ ℕ) where
  advanced : ue7_decode 32 p l ≡ ok x → Advanced p l x.next x.rest
  advanced e = (ue7-advances 32).advances p p l x e

-- ---- the extension length, there or not

module _ (p : ℕ) (l : List ℕ) (x : Decoded ℕ ℕ) where
  pub optional-advanced : (t : Bool) → read_extension_length t p l ≡ ok x → Advanced p l x.next x.rest
  unfolding select
  optional-advanced true e = advanced p l x e
  optional-advanced false e =
      let z : p - p ≡ 0 = omega arith in
      subst (λ (y : Decoded ℕ ℕ). Advanced p l y.next y.rest) (ok-injective e)
      (record { forward = omega arith; inside = omega arith; left = ap (λ (k : ℕ). drop k l) (sym z) })

-- ---- the head

six-bytes : (l : List ℕ) (f : Flags) → read_flags l ≡ ok f → 6 ≤ length l
unfolding read_flags
six-bytes l f e = unguard (leb 6 (length l)) 2 0 _ e λ t _. leb→le 6 (length l) t

flag-bounds : (l : List ℕ) (f : Flags) → read_flags l ≡ ok f → (f.pixel_format ≤ 5) × (f.bit_depth_minus8 ≤ 6) × (f.color_space ≤ 4)
unfolding read_flags
flag-bounds l f e =
    let b4 = get_or l 4 0 in
    let b5 = get_or l 5 0 in
    unguard (leb 6 (length l)) 2 0 _ e λ _ e1.
    unguard (same magic (take 4 l)) 3 0 _ e1 λ _ e2.
    unguard (leb (b4 / 32) 5) 4 4 _ e2 λ s e3.
    unguard (leb (b4 % 16) 6) 5 4 _ e3 λ t e4.
    unguard (color_space_allowed (flags_of b4 b5)) 6 5 _ e4 λ u e5.
    subst (λ (g : Flags). (g.pixel_format ≤ 5) × (g.bit_depth_minus8 ≤ 6) × (g.color_space ≤ 4)) (ok-injective e5)
    (leb→le (b4 / 32) 5 s, leb→le (b4 % 16) 6 t, leb→le (b5 / 16) 4 (and_left (leb (b5 / 16) 4) _ u))

-- the parts of a head that was read: each number, with the offset after it and what is left there
module _ (P : Head → Type 0) (l : List ℕ) where
  take-apart : (h : Head) → read_head l ≡ ok h
      → ((f : Flags) (w v s x : Decoded ℕ ℕ) → read_flags l ≡ ok f → ue7_decode 32 6 (drop 6 l) ≡ ok w → ue7_decode 32 w.next w.rest ≡ ok v
      → ue7_decode 32 v.next v.rest ≡ ok s → read_extension_length f.extension_present s.next s.rest ≡ ok x
      → P (record { flags = f; width = w.value; height = v.value; data_length = s.value; data_length_at = v.next; extension_length = x.value; extension_length_at = s.next; end = x.next }))
      → P h
  unfolding read_head
  take-apart h e use-parts =
      unbind (read_flags l) _ e λ f e1 k1.
      unbind (ue7_decode 32 6 (drop 6 l)) _ k1 λ w e2 k2.
      unguard (not_zero w.value) 9 6 _ k2 λ _ k3.
      unbind (ue7_decode 32 w.next w.rest) _ k3 λ v e4 k4.
      unguard (not_zero v.value) 9 w.next _ k4 λ _ k5.
      unbind (ue7_decode 32 v.next v.rest) _ k5 λ s e6 k6.
      unbind (read_extension_length f.extension_present s.next s.rest) _ k6 λ x e7 k7.
      subst P (ok-injective k7) (use-parts f w v s x e1 e2 e4 e6 e7)

pub head-facts : (l : List ℕ) (h : Head) → read_head l ≡ ok h → HeadFacts l h
head-facts l h e =
    take-apart (HeadFacts l) l h e λ f w v s x e1 e2 e3 e4 e5.
    let a = advanced-then (advanced 6 (drop 6 l) w e2) (advanced w.next w.rest v e3) in
    let b = advanced-then (advanced v.next v.rest s e4) (optional-advanced s.next s.rest x f.extension_present e5) in
    record {
      end-inside = omega (arith, six-bytes l f e1, (advanced-then a b).inside, length-drop 6 l);
      depth-limit = (flag-bounds l f e1).1;
    }
