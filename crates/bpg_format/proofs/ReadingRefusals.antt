-- Reading refuses with no other number than document 01's for reading.
use mathlib.Core.Path.{◌≡◌, sym, ◌∙◌}
use mathlib.Core.Bool.{Bool, true, false, not, ◌&&◌, ◌||◌}
use mathlib.Core.List.{List, []}
use Prim.Native.Nat.{ℕ, ◌+◌, ◌/◌, ◌%◌}
use lib.Dec.{leb, eqb}
use lib.ListN.{length, take, drop, get_or, replicate}
use Rattle.bpg_codec.specs.Select.{select}
use Rattle.bpg_codec.specs.Lists.{same}
use Rattle.bpg_codec.specs.Outcome.{ok, error, decoded}
use Rattle.bpg_codec.specs.Codec.{Codec, Exact, at_item, at_own}
use Rattle.bpg_codec.specs.Lawful.{Byte}
use Rattle.bpg_codec.specs.Bits.{Bit}
use Rattle.bpg_codec.specs.Parts.{sequence}
use Rattle.bpg_codec.proofs.Refusals.{Refuses, refuses-ok, refuses-bind, refuses-guard, CodecRefuses, ExactRefuses, sequence-refuses, mapped-refuses}
use Rattle.bpg_codec.proofs.Refusals.{guarded-refuses, sized-refuses, item-refuses, select-refuses, absent-refuses, fixed-refuses, then_rest-refuses}
use Rattle.bpg_codec.proofs.Refusals.{item_then_rest-refuses, mapped_exact-refuses, derived-refuses, guarded_region-refuses, rest-refuses, verbatim-refuses}
use Rattle.bpg_codec.proofs.Refusals.{repeated-refuses, packed-refuses}
use Rattle.bpg_ue7.specs.Ue7.{ue7, not_zero}
use Rattle.bpg_bits.specs.BitNumbers.{unsigned, exp_golomb}
use Rattle.bpg_ue7.proofs.Refusals.{ue7-refuses}
use Rattle.bpg_bits.proofs.Refusals.{unsigned-refuses, exp_golomb-refuses}
use Rattle.bpg_format.specs.Limits.{max_entries, max_file}
use Rattle.bpg_format.specs.Zero.{zero_header}
use Rattle.bpg_format.specs.Content.{Flags, Extension, has_alpha, bit_depth}
use Rattle.bpg_format.specs.Syntax.{magic}
use Rattle.bpg_format.specs.Rules.{has_animation}
use Rattle.bpg_format.specs.Tests.{color_space_allowed, counts_to_end, no_forbidden_bit, hevc_allowed, data_allowed}
use Rattle.bpg_format.specs.Read.{flags_of, read_flags, read_animation, animation_of, read_content, ReadingStatus}
use Rattle.bpg_format.specs.FileCodec.{flags, dimension, period, animation_codec, payload, extension, seen_after, extensions, block, one_bit, optional}
use Rattle.bpg_format.specs.FileCodec.{size_fields, pcm_fields, sps_fields, no_pcm, no_sps, field_sequence, header_from, fields_of, header_fields, header}
use Rattle.bpg_format.specs.FileCodec.{alpha_header, hevc_bytes, body, judged_body, Parts, parts, with_loop, content_from, parts_of, file}
use Rattle.bpg_format.proofs.Chain.{animation_of_numbers, loop-chain, content-chain}

abbrev pub Numbered : (status offset : ℕ) → Type 0
Numbered s o = ReadingStatus s

abbrev C : {S A : Type 0} → Codec S A → Type 0
C c = CodecRefuses Numbered c

abbrev E : {S A : Type 0} → Exact S A → Type 0
E c = ExactRefuses Numbered c

number : (n : ℕ) → C (ue7 n)
number n = ue7-refuses Numbered (λ _. tt) (λ _. tt) (λ _. tt) n

-- ---- the extension block

-- a tag 5 payload's own refusals are 2, 7, 8 and 12
module _ (P : ℕ → ℕ → Type 0) (two : (o : ℕ) → P 2 o) (seven : (o : ℕ) → P 7 o) (eight : (o : ℕ) → P 8 o) (twelve : (o : ℕ) → P 12 o) where
  numbers-refuse : ExactRefuses P animation_codec
  unfolding animation_codec period
  numbers-refuse =
      let n = ue7-refuses P two seven eight 16 in
      let d = guarded-refuses P not_zero 12 at_own twelve n in
      then_rest-refuses P n λ _. then_rest-refuses P d λ _. then_rest-refuses P d λ _. rest-refuses P Byte

  pub loop-refuses : (p : ℕ) (l : List ℕ) → Refuses P (read_animation p l)
  loop-refuses p l s o e =
      refuses-bind P (animation_codec.decode p p l) (λ x. ok (animation_of_numbers x)) (numbers-refuse.refuses p p l) (λ x. refuses-ok P (animation_of_numbers x)) s o
      (sym (loop-chain p p l) ∙ e)

payload-refuses : (b : Bool) → E (payload b)
unfolding payload select
payload-refuses true = verbatim-refuses Numbered (numbers-refuse Numbered (λ _. tt) (λ _. tt) (λ _. tt) (λ _. tt))
payload-refuses false = rest-refuses Numbered Byte

pub extension-refuses : (seen : Bool) → CodecRefuses Numbered (extension seen)
unfolding extension
extension-refuses seen =
    mapped-refuses Numbered _ _
    (sequence-refuses Numbered (number 32) λ tag. sized-refuses Numbered 2 (λ _. tt) (number 32)
    (guarded_region-refuses Numbered (λ _. not (seen && eqb tag 5)) 13 at_item (λ _. tt) (payload-refuses (eqb tag 5))))

block-refuses : (present : Bool) → C (block present)
unfolding block extensions
block-refuses present =
    select-refuses Numbered present
    (sized-refuses Numbered 2 (λ _. tt) (number 32) (repeated-refuses Numbered seen_after 11 (λ _. tt) extension-refuses max_entries false))
    (absent-refuses Numbered [])

-- ---- HEVC headers

field : (n : ℕ) → C (unsigned n)
field n = unsigned-refuses Numbered (λ _. tt) n

code : C exp_golomb
code = exp_golomb-refuses Numbered (λ _. tt)

one : C one_bit
one = mapped-refuses Numbered _ _ (field 1)

opt : {A : Type 0} (present : Bool) {c : Codec Bool A} (e : A) → C c → C (optional present c e)
opt present e h = select-refuses Numbered present h (absent-refuses Numbered e)

next : {A B : Type 0} {c : Codec Bool A} {d : A → Codec Bool B} → C c → ((a : A) → C (d a)) → C (sequence c d)
next = sequence-refuses Numbered

fields-refuse : C header_fields
unfolding header_fields field_sequence size_fields pcm_fields sps_fields
fields-refuse =
    mapped-refuses Numbered header_from fields_of
    (next (next code λ _. next code λ _. next code λ _. next code λ _. code) λ _. next one λ _. next one λ pcm.
    next (opt pcm no_pcm (next (field 4) λ _. next (field 4) λ _. next code λ _. next code λ _. one)) λ _.
    next one λ _. next one λ sps. next (opt sps no_sps (next one λ _. field 7)) λ x.
    opt x.0 (replicate 9 false) (fixed-refuses Numbered Bit 9 15 at_item (λ _. tt)))

pub header-refuses : (depth : ℕ) → CodecRefuses Numbered (header depth)
unfolding header
header-refuses depth =
    guarded-refuses Numbered (hevc_allowed depth) 16 at_own (λ _. tt)
    (guarded-refuses Numbered no_forbidden_bit 17 at_own (λ _. tt)
    (item-refuses Numbered (sized-refuses Numbered 2 (λ _. tt) (number 32) (packed-refuses Numbered 15 (λ _. tt) fields-refuse))))

body-refuses : (f : Flags) → E (body f)
unfolding body alpha_header hevc_bytes
body-refuses f =
    then_rest-refuses Numbered (select-refuses Numbered (has_alpha f) (header-refuses (bit_depth f)) (absent-refuses Numbered zero_header)) λ _.
    then_rest-refuses Numbered (header-refuses (bit_depth f)) λ _. guarded_region-refuses Numbered data_allowed 26 at_own (λ _. tt) (rest-refuses Numbered Byte)

judged-refuses : (f : Flags) (n : ℕ) (es : List Extension) → E (judged_body f n es)
unfolding judged_body
judged-refuses f n es =
    guarded_region-refuses Numbered (λ _. not f.animation || has_animation es) 14 (λ _ _. 5) (λ _. tt)
    (guarded_region-refuses Numbered (λ l. counts_to_end n (length l)) 10 at_item (λ _. tt) (body-refuses f))

-- ---- the file

pub read_flags-refuse : (l : List ℕ) → Refuses Numbered (read_flags l)
unfolding read_flags
read_flags-refuse l =
    let f = flags_of (get_or l 4 0) (get_or l 5 0) in
    refuses-guard Numbered (leb 6 (length l)) 2 0 _ tt
    (refuses-guard Numbered (same magic (take 4 l)) 3 0 _ tt
    (refuses-guard Numbered (leb (get_or l 4 0 / 32) 5) 4 4 _ tt
    (refuses-guard Numbered (leb (get_or l 4 0 % 16) 6) 5 4 _ tt
    (refuses-guard Numbered (color_space_allowed f) 6 5 _ tt (refuses-ok Numbered f)))))

flags-refuse : C flags
unfolding flags
flags-refuse = record { refuses = λ i p l. refuses-bind Numbered (read_flags l) _ (read_flags-refuse l) λ f. refuses-ok Numbered (decoded f (p + 6) (drop 6 l)) }

dimension-refuses : C dimension
unfolding dimension
dimension-refuses = guarded-refuses Numbered not_zero 9 at_own (λ _. tt) (number 32)

file-refuses : E file
unfolding file with_loop parts
file-refuses =
    mapped_exact-refuses Numbered content_from parts_of
    (derived-refuses Numbered (λ (x : Parts). animation_of x.1.1.1.1.0)
    (guarded_region-refuses Numbered (λ l. leb (length l) max_file) 1 (λ _ _. 0) (λ _. tt)
    (then_rest-refuses Numbered flags-refuse λ f.
    then_rest-refuses Numbered dimension-refuses λ _.
    then_rest-refuses Numbered dimension-refuses λ _.
    item_then_rest-refuses Numbered (number 32) λ n.
    then_rest-refuses Numbered (block-refuses f.extension_present) λ es.
    judged-refuses f n es)))

pub content-refuses : (l : List ℕ) (s o : ℕ) → read_content l ≡ error s o → ReadingStatus s
content-refuses l s o e = file-refuses.refuses 0 0 l s o (content-chain l ∙ e)
