-- A header is valid for its codec exactly when it keeps the rules by name and its length has a code.
use mathlib.Core.Path.{◌≡◌, refl, ap, ◌∙◌}
use mathlib.Core.Bool.{Bool, true, false, not, ◌||◌}
use mathlib.Core.List.{List}
use Prim.Native.Nat.{ℕ, ◌^◌, ◌≤◌, ◌<◌}
use native.Mathlib.Omega.{arith}
use lib.Dec.{T, leb→le, le→leb, ltb→lt, lt→ltb}
use lib.ListN.{length, replicate}
use mir.Facts.{eqb_yes, yes_eqb}
use Rattle.bpg_codec.specs.Select.{select}
use Rattle.bpg_codec.specs.Codec.{Codec, at_item}
use Rattle.bpg_codec.specs.Bits.{Bit, zeros, all_zero, padded}
use Rattle.bpg_codec.specs.Parts.{sequence, mapped, guarded, sized, item, absent, fixed}
use Rattle.bpg_codec.specs.Regions.{packed}
use Rattle.bpg_codec.proofs.Select.{select-true, select-false, and_left, and_right, and_both, is_false}
use Rattle.bpg_codec.proofs.Tokens.{all-bits}
use Rattle.bpg_codec.proofs.Bits.{bit-small}
use Rattle.bpg_codec.proofs.Packed.{zeros-all_zero}
use Rattle.bpg_format.specs.declared.record.Header.{Header}
use Rattle.bpg_format.specs.Syntax.{header_bits}
use Rattle.bpg_format.specs.Rules.{Coded, NoPcm, NoSpsExtension, FieldRules, ForbiddenBits, PcmRules, HevcRules, HeaderRules}
use Rattle.bpg_format.specs.Tests.{no_forbidden_bit, pcm_allowed, hevc_allowed}
use Rattle.bpg_format.specs.FileCodec.{one_bit, optional, size_fields, PcmFields, pcm_fields, sps_fields, no_pcm, no_sps, field_sequence, pcm_of, header_fields, header}
use Rattle.bpg_format.proofs.SyntaxLaws.{fields-encode}

-- ---- tests

pub unless : (b c : Bool) → T (not b || c) → b ≡ true → T c
unless b c t e = rw e at t

pub unless-full : (b c : Bool) → (b ≡ true → T c) → T (not b || c)
unless-full true c f = f refl
unless-full false c f = tt

pub not_full : (b : Bool) → b ≡ false → T (not b)
not_full b e = rw e tt

-- a test of several parts passes when each part does: for `search`, from the test to its parts, and back
pub ruleset passed = (and_left, and_right, leb→le, ltb→lt, eqb_yes, is_false, unless)

pub ruleset passes = (and_both, le→leb, lt→ltb, yes_eqb, not_full, unless-full)

-- what a flag selects has what each of the two has
pub by_flag {ℓ} : {X : Type ℓ} (P : X → Type 0) (b : Bool) (x y : X) → (b ≡ true → P x) → (b ≡ false → P y) → P (select b x y)
unfolding select
by_flag P true x y f g = f refl
by_flag P false x y f g = g refl

-- ---- 17 and 16: the tests say the rules

pub forbidden-sound : (h : Header) → T (no_forbidden_bit h) → ForbiddenBits h
unfolding no_forbidden_bit
forbidden-sound h t = search passed

pub forbidden-full : (h : Header) → ForbiddenBits h → T (no_forbidden_bit h)
unfolding no_forbidden_bit
forbidden-full h r = search passes

pcm-sound : (depth : ℕ) (h : Header) → T (pcm_allowed depth h) → PcmRules depth h
unfolding pcm_allowed
pcm-sound depth h t = search passed

pcm-full : (depth : ℕ) (h : Header) → PcmRules depth h → T (pcm_allowed depth h)
unfolding pcm_allowed
pcm-full depth h r = search passes

pub hevc-sound : (depth : ℕ) (h : Header) → T (hevc_allowed depth h) → HevcRules depth h
unfolding hevc_allowed
hevc-sound depth h t = search (passed, pcm-sound)

pub hevc-full : (depth : ℕ) (h : Header) → HevcRules depth h → T (hevc_allowed depth h)
unfolding hevc_allowed
hevc-full depth h r = search (passes, pcm-full, r.pcm) depth 9

-- ---- 15: the fields

-- an optional field: what holds of it if it is present, and its value if it is absent
module _ {S A : Type 0} (b : Bool) (c : Codec S A) (e a : A) where
  pub opt-present : (select b c (absent e)).Valid a → b ≡ true → c.Valid a
  opt-present v k = rw (select-true _ _ k) at v

  pub opt-absent : (select b c (absent e)).Valid a → b ≡ false → a ≡ e
  unfolding absent
  opt-absent v k = rw (select-false _ _ k) at v

  pub opt-valid : (b ≡ true → c.Valid a) → (b ≡ false → a ≡ e) → (select b c (absent e)).Valid a
  unfolding absent
  opt-valid f g = by_flag (λ (d : Codec S A). d.Valid a) b c (absent e) f g

nine-length : (b : Bool) (l : List Bool) → (optional b (fixed Bit 9 15 at_item) (replicate 9 false)).Valid l → length l ≡ 9
unfolding select absent fixed
nine-length true l v = v.1
nine-length false l v = rw v

pub nine-zeros : (l : List Bool) → length l ≡ 9 → T (all_zero l) → l ≡ replicate 9 false
nine-zeros l n t = zeros-all_zero l t ∙ ap zeros n

one-bit-valid : (b : Bool) → one_bit.Valid b
unfolding mapped
one-bit-valid b = bit-small b

pcm-none : (h : Header) → pcm_of h ≡ no_pcm → NoPcm h
pcm-none h e =
    record {
      luma-depth = λ z. (e z).0;
      chroma-depth = λ z. (e z).1.0;
      min-size = λ z. (e z).1.1.0;
      max-size = λ z. (e z).1.1.1.0;
      loop-filter = λ z. (e z).1.1.1.1;
    }

none-pcm : (h : Header) → NoPcm h → pcm_of h ≡ no_pcm
none-pcm h r = λ z. (r.luma-depth z, (r.chroma-depth z, (r.min-size z, (r.max-size z, r.loop-filter z))))

sps-none : (h : Header) → (h.sps_range_extension_flag, h.sps_extension_7bits) ≡ no_sps → NoSpsExtension h
sps-none h e = record { range-flag = λ z. (e z).0; seven-bits = λ z. (e z).1 }

none-sps : (h : Header) → NoSpsExtension h → (h.sps_range_extension_flag, h.sps_extension_7bits) ≡ no_sps
none-sps h r = λ z. (r.range-flag z, r.seven-bits z)

abbrev PcmPart : Header → Type 0
PcmPart h = (optional h.pcm_enabled_flag pcm_fields no_pcm).Valid (pcm_of h)

pcm-min : (h : Header) → PcmPart h → h.pcm_enabled_flag ≡ true → Coded h.log2_min_pcm_luma_coding_block_size_minus3
unfolding pcm_fields sequence
pcm-min h v e = (opt-present _ pcm_fields no_pcm (pcm_of h) v e).1.1.0

pcm-diff : (h : Header) → PcmPart h → h.pcm_enabled_flag ≡ true → Coded h.log2_diff_max_min_pcm_luma_coding_block_size
unfolding pcm_fields sequence
pcm-diff h v e = (opt-present _ pcm_fields no_pcm (pcm_of h) v e).1.1.1.0

valid-pcm : (x : PcmFields) → x.0 < 16 → x.1.0 < 16 → Coded x.1.1.0 → Coded x.1.1.1.0 → pcm_fields.Valid x
unfolding pcm_fields sequence
valid-pcm x l c m d = (l, (c, (m, (d, one-bit-valid x.1.1.1.1))))

sps-valid : (b : Bool) (n : ℕ) → n ≡ 0 → sps_fields.Valid (b, n)
unfolding sps_fields sequence
sps-valid b n e = (one-bit-valid b, omega arith)

fields-sound : (h : Header) → header_fields.Valid h → FieldRules h
unfolding header_fields mapped field_sequence sequence size_fields
fields-sound h v = search (opt-absent, nine-length, pcm-min, pcm-diff, pcm-none, sps-none)

-- the depths of PCM samples fit four bits since they are at most the file's, and the seven bits are zero
fields-full : (depth : ℕ) (h : Header) → depth ≤ 14 → HeaderRules depth h → header_fields.Valid h
unfolding header_fields mapped field_sequence sequence size_fields fixed
fields-full depth h d r =
    let f = r.fields in
    let pcm : PcmPart h =
    opt-valid _ pcm_fields no_pcm (pcm_of h)
    (λ e. let p = r.hevc.pcm e in valid-pcm (pcm_of h) (omega arith) (omega arith) (f.min-pcm e) (f.diff-pcm e))
    (λ e. none-pcm h (f.no-pcm e)) in
    let nine = all-bits h.range_flags in
    search (one-bit-valid, opt-valid, sps-valid, none-sps, f.no-extension, f.no-range) depth 9

-- ---- the header

pub header-sound : (depth : ℕ) (h : Header) → (header depth).Valid h → HeaderRules depth h
unfolding header guarded item sized packed
header-sound depth h v = record { fields = fields-sound h v.0.0.0; forbidden = forbidden-sound h v.0.1; hevc = hevc-sound depth h v.1 }

pub header-full : (depth : ℕ) (h : Header) → depth ≤ 14 → HeaderRules depth h → length (padded (header_bits h)) < 2 ^ 32 → (header depth).Valid h
unfolding header guarded item sized packed
header-full depth h d r s =
    (((fields-full depth h d r, rw (fields-encode h) s), forbidden-full h r.forbidden), hevc-full depth h r.hevc)
