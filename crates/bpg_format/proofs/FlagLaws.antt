-- The laws of the first six bytes.
use mathlib.Core.Path.{◌≡◌, refl, sym, ap, ap₂, ◌∙◌, subst}
use mathlib.Core.Bool.{Bool, true}
use mathlib.Core.List.{List, [], ◌∷◌, ◌++◌}
use Prim.Native.Nat.{ℕ, ◌+◌, ◌*◌, ◌/◌, ◌%◌, ◌≤◌, ◌<◌}
use native.Mathlib.Omega.{arith}
use lib.Dec.{leb, eqb, leb→le}
use lib.ListN.{length, take, drop, get_or, take-append-drop}
use Rattle.bpg_codec.specs.Outcome.{Outcome, ok, Decoded, decoded}
use Rattle.bpg_codec.specs.Lawful.{All, Byte, Found, Lawful}
use Rattle.bpg_codec.specs.Bits.{bit}
use Rattle.bpg_codec.specs.Lists.{same}
use borrow.Author.Tests.{le-leb}
use Rattle.bpg_codec.proofs.Select.{is_true, and_left}
use Rattle.bpg_codec.proofs.Outcome.{ok-injective, unbind, unguard}
use Rattle.bpg_codec.proofs.Lists.{drop-next, same-equal}
use Rattle.bpg_codec.proofs.Tokens.{byte_at}
use Rattle.bpg_codec.proofs.Bits.{bit-small, bit-of-bit, bit-of-number}
use Rattle.bpg_format.specs.Content.{Flags}
use Rattle.bpg_format.specs.Syntax.{magic, byte4, byte5}
use Rattle.bpg_format.specs.Tests.{color_space_allowed}
use Rattle.bpg_format.specs.Read.{flag, flags_of, read_flags}
use Rattle.bpg_format.specs.FileCodec.{FlagsRules, flags}

-- a flag, from the number that stands above and below it
flag_is : (x : Bool) (n : ℕ) → n ≡ bit x → eqb n 1 ≡ x
flag_is x n e = rw e (bit-of-bit x)

-- ---- the two bytes of the flags, and the flags of two bytes

module _ (f : Flags) (v : FlagsRules f) where
  format : f.pixel_format ≤ 5
  format = leb→le _ _ v.pixel-format

  depth : f.bit_depth_minus8 ≤ 6
  depth = leb→le _ _ v.bit-depth

  space : f.color_space ≤ 4
  space = leb→le _ _ (and_left (leb f.color_space 4) _ v.color-space)

  pub byte4-small : byte4 f < 256
  byte4-small = omega (arith, format, depth, bit-small f.alpha1)

  pub byte5-small : byte5 f < 256
  byte5-small = omega (arith, space, bit-small f.extension_present, bit-small f.alpha2, bit-small f.limited_range, bit-small f.animation)

  pub flags-back : flags_of (byte4 f) (byte5 f) ≡ f
  flags-back =
      let a = bit-small f.alpha1 in
      let b = bit-small f.extension_present in
      let c = bit-small f.alpha2 in
      let d = bit-small f.limited_range in
      let g = bit-small f.animation in
      let e1 : byte4 f / 32 ≡ f.pixel_format = omega (arith, depth) in
      let e2 : byte4 f / 16 % 2 ≡ bit f.alpha1 = omega (arith, depth) in
      let e3 : byte4 f % 16 ≡ f.bit_depth_minus8 = omega (arith, depth) in
      let e4 : byte5 f / 16 ≡ f.color_space = omega arith in
      let e5 : byte5 f / 8 % 2 ≡ bit f.extension_present = omega arith in
      let e6 : byte5 f / 4 % 2 ≡ bit f.alpha2 = omega arith in
      let e7 : byte5 f / 2 % 2 ≡ bit f.limited_range = omega arith in
      let e8 : byte5 f / 1 % 2 ≡ bit f.animation = omega arith in
      same_flags _ f e1 (flag_is _ _ e2) e3 e4 (flag_is _ _ e5) (flag_is _ _ e6) (flag_is _ _ e7) (flag_is _ _ e8)
    where
      same_flags : (f g : Flags) → f.pixel_format ≡ g.pixel_format → f.alpha1 ≡ g.alpha1 → f.bit_depth_minus8 ≡ g.bit_depth_minus8
          → f.color_space ≡ g.color_space → f.extension_present ≡ g.extension_present → f.alpha2 ≡ g.alpha2 → f.limited_range ≡ g.limited_range
          → f.animation ≡ g.animation → f ≡ g
      same_flags f g a b c d e h i j = λ k. record {
        pixel_format = a k;
        alpha1 = b k;
        bit_depth_minus8 = c k;
        color_space = d k;
        extension_present = e k;
        alpha2 = h k;
        limited_range = i k;
        animation = j k;
      }

bit_at : (b d : ℕ) → bit (flag b d) ≡ b / d % 2
bit_at b d = bit-of-number (b / d % 2) (omega arith)

byte4-back : (b c : ℕ) → b < 256 → byte4 (flags_of b c) ≡ b
byte4-back b c h = omega (arith, bit_at b 16)

byte5-back : (b c : ℕ) → c < 256 → byte5 (flags_of b c) ≡ c
byte5-back b c h =
    let h8 : c / 16 * 2 + c / 8 % 2 ≡ c / 8 = omega arith in
    let h4 : c / 8 * 2 + c / 4 % 2 ≡ c / 4 = omega arith in
    let h2 : c / 4 * 2 + c / 2 % 2 ≡ c / 2 = omega arith in
    let h1 : c / 2 * 2 + c / 1 % 2 ≡ c = omega arith in
    rw (bit_at c 8, bit_at c 4, bit_at c 2, bit_at c 1) (sum (c / 16) (c / 8) (c / 4) (c / 2) c _ _ _ _ h8 h4 h2 h1)
  where
    sum : (a b c d e w x y z : ℕ) → a * 2 + w ≡ b → b * 2 + x ≡ c → c * 2 + y ≡ d → d * 2 + z ≡ e → a * 16 + w * 8 + x * 4 + y * 2 + z ≡ e
    sum a b c d e w x y z p q r s = omega arith

-- ---- the laws

flags-decodes : (f : Flags) → FlagsRules f → (i p : ℕ) (r : List ℕ) → flags.decode i p (flags.encode f ++ r) ≡ ok (decoded f (p + length (flags.encode f)) r)
unfolding flags read_flags
flags-decodes f v i p r =
    let six : leb 6 (length (flags.encode f ++ r)) ≡ true = le-leb 6 (length (flags.encode f ++ r)) (omega arith) in
    let e = flags-back f v in
    let w = subst FlagsRules (sym e) v in
    rw (
      six,
      is_true (leb (byte4 f / 32) 5) w.pixel-format,
      is_true (leb (byte4 f % 16) 6) w.bit-depth,
      is_true (color_space_allowed (flags_of (byte4 f) (byte5 f))) w.color-space,
    )
    (ap {B = Outcome (Decoded ℕ Flags)} (λ (g : Flags). ok (decoded g (p + 6) r)) e)

-- six bytes and what follows them
six-bytes : (l : List ℕ) → 6 ≤ length l → take 4 l ≡ magic → l ≡ magic ++ (get_or l 4 0 ∷ get_or l 5 0 ∷ drop 6 l)
six-bytes l h e =
    sym (take-append-drop 4 l) ∙ ap₂ ◌++◌ e (drop-next l 4 0 (omega arith) ∙ ap (λ (m : List ℕ). get_or l 4 0 ∷ m) (drop-next l 5 0 (omega arith)))

read_flags-ok : (l : List ℕ) (f : Flags) → read_flags l ≡ ok f
    → (6 ≤ length l) × (take 4 l ≡ magic) × FlagsRules (flags_of (get_or l 4 0) (get_or l 5 0)) × (flags_of (get_or l 4 0) (get_or l 5 0) ≡ f)
unfolding read_flags
read_flags-ok l f e =
    unguard (leb 6 (length l)) 2 0 _ e λ t1 e1.
    unguard (same magic (take 4 l)) 3 0 _ e1 λ t2 e2.
    unguard (leb (get_or l 4 0 / 32) 5) 4 4 _ e2 λ t3 e3.
    unguard (leb (get_or l 4 0 % 16) 6) 5 4 _ e3 λ t4 e4.
    unguard (color_space_allowed (flags_of (get_or l 4 0) (get_or l 5 0))) 6 5 _ e4 λ t5 e5.
    (leb→le 6 (length l) t1, sym (same-equal magic (take 4 l) t2), record { pixel-format = t3; bit-depth = t4; color-space = t5 }, ok-injective e5)

flags-found : (p : ℕ) (l : List ℕ) → All Byte l → (f : Flags) → read_flags l ≡ ok f → Found flags p l (decoded f (p + 6) (drop 6 l))
unfolding flags
flags-found p l h f e =
    let r = read_flags-ok l f e in
    let b4 = byte4-back (get_or l 4 0) (get_or l 5 0) (byte_at l 4 h) in
    let b5 = byte5-back (get_or l 4 0) (get_or l 5 0) (byte_at l 5 h) in
    subst (λ (g : Flags). FlagsRules g × (l ≡ (magic ++ (byte4 g ∷ byte5 g ∷ [])) ++ drop 6 l) × (p + 6 ≡ p + 6)) r.3
    (r.2, rw (b4, b5) (six-bytes l r.0 r.1), refl)

pub flags-lawful : Lawful Byte flags
unfolding flags
flags-lawful =
    record {
      tokens = λ f v. (omega arith, (omega arith, (omega arith, (omega arith, (byte4-small f v, (byte5-small f v, tt))))));
      decodes = flags-decodes;
      encodes = λ i p l h x e.
          unbind (read_flags l) _ e λ g e1 k1.
          subst (Found flags p l) (ok-injective k1) (flags-found p l h g e1);
    }
