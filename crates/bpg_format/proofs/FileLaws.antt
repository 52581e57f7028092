-- The laws of the format's codecs, put together as the codecs are.
use mathlib.Core.Path.{◌≡◌, refl, sym, ap}
use mathlib.Core.Bool.{Bool, true, false, not, ◌&&◌, ◌||◌}
use mathlib.Core.List.{List, []}
use Prim.Native.Nat.{ℕ, zero, suc, ◌<◌}
use native.Mathlib.Omega.{arith}
use lib.Dec.{T, leb, eqb, eqb→eq}
use lib.ListN.{length, length-append, replicate}
use borrow.Author.Tests.{ne_eqb}
use Rattle.bpg_codec.specs.Select.{select}
use Rattle.bpg_codec.specs.Codec.{Codec, at_item, at_own}
use Rattle.bpg_codec.specs.Lawful.{Byte, Lawful, ExactLawful}
use Rattle.bpg_codec.specs.Bits.{Bit}
use Rattle.bpg_codec.specs.Parts.{sequence, mapped, guarded, sized, item}
use Rattle.bpg_codec.specs.Regions.{then_rest, item_then_rest, guarded_region, derived, packed}
use Rattle.bpg_codec.proofs.Bits.{bit-of-bit, bit-of-number}
use Rattle.bpg_codec.proofs.Parts.{sequence-lawful, mapped-lawful, guarded-lawful, sized-lawful, item-lawful, absent-lawful, select-lawful, fixed-lawful}
use Rattle.bpg_codec.proofs.Regions.{then_rest-lawful, item_then_rest-lawful, mapped_exact-lawful, derived-lawful, guarded_region-lawful, rest-lawful}
use Rattle.bpg_codec.proofs.Regions.{verbatim-lawful, repeated-lawful}
use Rattle.bpg_codec.proofs.Packed.{packed-lawful}
use Rattle.bpg_ue7.specs.Ue7.{not_zero}
use Rattle.bpg_ue7.proofs.Ue7Laws.{ue7-lawful, size-positive}
use Rattle.bpg_bits.proofs.BitNumberLaws.{unsigned-lawful, exp_golomb-lawful}
use Rattle.bpg_format.specs.Limits.{max_entries, max_file}
use Rattle.bpg_format.specs.declared.record.Header.{Header}
use Rattle.bpg_format.specs.Zero.{zero_header}
use Rattle.bpg_format.specs.Content.{Flags, Extension, AnimationControl, Content, has_alpha, bit_depth}
use Rattle.bpg_format.specs.Rules.{has_animation}
use Rattle.bpg_format.specs.Tests.{counts_to_end, no_forbidden_bit, hevc_allowed, data_allowed}
use Rattle.bpg_format.specs.Read.{animation_of}
use Rattle.bpg_format.specs.FileCodec.{dimension, period, animation_codec, payload, extension, seen_after, extensions, block, one_bit, optional}
use Rattle.bpg_format.specs.FileCodec.{size_fields, pcm_fields, sps_fields, no_pcm, no_sps, field_sequence, header_fields, header, alpha_header, hevc_bytes, body, judged_body}
use Rattle.bpg_format.specs.FileCodec.{Parts, parts, with_loop, content_from, parts_of, file}
use Rattle.bpg_format.proofs.FlagLaws.{flags-lawful}

-- ---- the extension block

dimension-lawful : Lawful Byte dimension
unfolding dimension
dimension-lawful = guarded-lawful not_zero 9 at_own (ue7-lawful 32)

period-lawful : Lawful Byte period
unfolding period
period-lawful = guarded-lawful not_zero 12 at_own (ue7-lawful 16)

pub loop_numbers-lawful : ExactLawful Byte animation_codec
unfolding animation_codec
loop_numbers-lawful = then_rest-lawful (ue7-lawful 16) λ _. then_rest-lawful period-lawful λ _. then_rest-lawful period-lawful λ _. rest-lawful Byte

payload-lawful : (b : Bool) → ExactLawful Byte (payload b)
unfolding payload select
payload-lawful true = verbatim-lawful loop_numbers-lawful
payload-lawful false = rest-lawful Byte

pub extension-lawful : (seen : Bool) → Lawful Byte (extension seen)
unfolding extension
extension-lawful seen =
    mapped-lawful
    (sequence-lawful (ue7-lawful 32) λ tag. sized-lawful 2 (ue7-lawful 32) (guarded_region-lawful (λ _. not (seen && eqb tag 5)) 13 at_item (payload-lawful (eqb tag 5))))
    (λ e v. refl) (λ x v. refl)

pub extension-some : (seen : Bool) (e : Extension) → 0 < length ((extension seen).encode e)
unfolding extension mapped sequence
extension-some seen e = rw length-append (omega (arith, size-positive e.tag))

pub extensions-lawful : ExactLawful Byte extensions
unfolding extensions
extensions-lawful = repeated-lawful seen_after 11 extension-lawful extension-some max_entries false

block-lawful : (present : Bool) → Lawful Byte (block present)
unfolding block
block-lawful present = select-lawful present (sized-lawful 2 (ue7-lawful 32) extensions-lawful) (absent-lawful Byte [])

-- ---- HEVC headers

one_bit-lawful : Lawful Bit one_bit
one_bit-lawful = mapped-lawful (unsigned-lawful 1) (λ b v. bit-of-bit b) (λ n v. bit-of-number n (omega (arith, v)))

pub optional-lawful : {A : Type 0} (present : Bool) {c : Codec Bool A} (e : A) → Lawful Bit c → Lawful Bit (optional present c e)
optional-lawful present e h = select-lawful present h (absent-lawful Bit e)

pub sizes-lawful : Lawful Bit size_fields
unfolding size_fields
sizes-lawful =
    sequence-lawful exp_golomb-lawful λ _. sequence-lawful exp_golomb-lawful λ _. sequence-lawful exp_golomb-lawful λ _.
    sequence-lawful exp_golomb-lawful λ _. exp_golomb-lawful

pub pcm-lawful : Lawful Bit pcm_fields
unfolding pcm_fields
pcm-lawful =
    sequence-lawful (unsigned-lawful 4) λ _. sequence-lawful (unsigned-lawful 4) λ _. sequence-lawful exp_golomb-lawful λ _.
    sequence-lawful exp_golomb-lawful λ _. one_bit-lawful

pub sps-lawful : Lawful Bit sps_fields
unfolding sps_fields
sps-lawful = sequence-lawful one_bit-lawful λ _. unsigned-lawful 7

field_sequence-lawful : Lawful Bit field_sequence
unfolding field_sequence
field_sequence-lawful =
    sequence-lawful sizes-lawful λ _. sequence-lawful one_bit-lawful λ _. sequence-lawful one_bit-lawful λ pcm.
    sequence-lawful (optional-lawful pcm no_pcm pcm-lawful) λ _. sequence-lawful one_bit-lawful λ _. sequence-lawful one_bit-lawful λ sps.
    sequence-lawful (optional-lawful sps no_sps sps-lawful) λ x. optional-lawful x.0 (replicate 9 false) (fixed-lawful Bit 9 15 at_item)

pub header_fields-lawful : Lawful Bit header_fields
unfolding header_fields
header_fields-lawful = mapped-lawful field_sequence-lawful (λ h v. refl) (λ x v. refl)

pub header-lawful : (depth : ℕ) → Lawful Byte (header depth)
unfolding header
header-lawful depth =
    guarded-lawful (hevc_allowed depth) 16 at_own
    (guarded-lawful no_forbidden_bit 17 at_own (item-lawful (sized-lawful 2 (ue7-lawful 32) (packed-lawful 15 header_fields-lawful))))

alpha_header-lawful : (f : Flags) → Lawful Byte (alpha_header f)
unfolding alpha_header
alpha_header-lawful f = select-lawful (has_alpha f) (header-lawful (bit_depth f)) (absent-lawful Byte zero_header)

data-lawful : ExactLawful Byte hevc_bytes
unfolding hevc_bytes
data-lawful = guarded_region-lawful data_allowed 26 at_own (rest-lawful Byte)

pub body-lawful : (f : Flags) → ExactLawful Byte (body f)
unfolding body
body-lawful f = then_rest-lawful (alpha_header-lawful f) λ _. then_rest-lawful (header-lawful (bit_depth f)) λ _. data-lawful

judged-lawful : (f : Flags) (n : ℕ) (es : List Extension) → ExactLawful Byte (judged_body f n es)
unfolding judged_body
judged-lawful f n es =
    guarded_region-lawful (λ _. not f.animation || has_animation es) 14 (λ _ _. 5)
    (guarded_region-lawful (λ l. counts_to_end n (length l)) 10 at_item (body-lawful f))

-- ---- the file

parts-lawful : ExactLawful Byte parts
unfolding parts
parts-lawful =
    guarded_region-lawful (λ l. leb (length l) max_file) 1 (λ _ _. 0)
    (then_rest-lawful flags-lawful λ f.
    then_rest-lawful dimension-lawful λ _.
    then_rest-lawful dimension-lawful λ _.
    item_then_rest-lawful (ue7-lawful 32) λ n.
    then_rest-lawful (block-lawful f.extension_present) λ es.
    judged-lawful f n es)

-- the body is never empty: it has the colour header's length
body-some : (f : Flags) (x : Header × (Header × List ℕ)) → 0 < length ((body f).encode x)
unfolding body then_rest header guarded item sized
body-some f x = simp length-append (omega (arith, size-positive (length ((packed 15 header_fields).encode x.1.0))))

-- the data length as a number, and as a choice
length-choice : (explicit : Bool) (size : ℕ) → 0 < size → not_zero (select explicit size 0) ≡ explicit
unfolding select
length-choice true size h = ap not (ne_eqb size 0 (λ e. omega arith))
length-choice false size h = refl

choice-length : (n size : ℕ) → T (counts_to_end n size) → select (not_zero n) size 0 ≡ n
unfolding select
choice-length zero size t = refl
choice-length (suc n) size t =
    let z : eqb (suc n) 0 ≡ false = ne_eqb (suc n) 0 (λ e. omega arith) in
    rw z (sym (eqb→eq (suc n) size (rw z at t)))

content-parts : (c : Content) → with_loop.Valid (parts_of c) → content_from (parts_of c) ≡ c
content-parts c v = rw (length-choice c.explicit_length _ (body-some c.flags (c.alpha_header, (c.color_header, c.hevc_data))))

parts-content : (x : Parts × AnimationControl) → with_loop.Valid x → parts_of (content_from x) ≡ x
unfolding with_loop derived parts judged_body guarded_region then_rest item_then_rest
parts-content x v =
    ap {B = Parts × AnimationControl} (λ (n : ℕ). ((x.0.0, (x.0.1.0, (x.0.1.1.0, (n, x.0.1.1.1.1)))), x.1))
    (choice-length x.0.1.1.1.0 _ v.0.1.1.1.1.1.1.1.0)

pub file-lawful : ExactLawful Byte file
unfolding file with_loop
file-lawful = mapped_exact-lawful (derived-lawful (λ (x : Parts). animation_of x.1.1.1.1.0) parts-lawful) content-parts parts-content
