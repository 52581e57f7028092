-- The canonical form: it keeps the rules and the picture, and is not longer.
use mathlib.Core.Path.{◌≡◌, refl, sym, ap, ap₂, ◌∙◌}
use mathlib.Core.Bool.{Bool, true, false, not, ◌||◌}
use mathlib.Core.List.{List, [], ◌∷◌, ◌++◌, map, cons≢nil}
use Prim.Native.Nat.{ℕ, ◌+◌, ◌≤◌}
use native.Mathlib.Omega.{arith}
use borrow.Author.Tests.{not-false}
use lib.ListN.{length, replicate, length-append, length-map}
use Rattle.bpg_codec.specs.Select.{select}
use Rattle.bpg_codec.specs.Lawful.{All, Byte}
use Rattle.bpg_codec.specs.Bits.{all_zero, padded}
use Rattle.bpg_codec.proofs.Select.{select-true, select-false}
use Rattle.bpg_codec.proofs.Tokens.{all_append}
use Rattle.bpg_codec.proofs.Bits.{length-bits}
use Rattle.bpg_codec.proofs.Packed.{length-padded}
use Rattle.bpg_ue7.specs.Ue7.{ue7_bytes}
use Rattle.bpg_ue7.proofs.Ue7Laws.{size-grows, bytes-ue7}
use Rattle.bpg_format.specs.declared.record.Header.{Header}
use Rattle.bpg_format.specs.Limits.{max_entries, max_file}
use Rattle.bpg_format.specs.Zero.{zero_header}
use Rattle.bpg_format.specs.Content.{is_empty, Extension, AnimationControl, Content, has_alpha}
use Rattle.bpg_format.specs.Syntax.{block_bytes, extension_part, sps_extension_bits, header_bits, header_bytes, headers_and_data, data_length, file_of}
use Rattle.bpg_format.specs.Rules.{NoPcm, PcmRules, FieldRules, HeaderRules, AnimationPayload, is_animation, ExtensionRules, has_animation, OneAnimation, no_animation, Rules}
use Rattle.bpg_format.specs.Pictures.{Choices, canonical_choices, picture_header, picture_entry, picture_of, header_with, needs_range, animation_bytes, entry_with, with_choices, canonical_content}
use Rattle.bpg_format.proofs.HeaderRuleLaws.{nine-zeros}
use Rattle.bpg_format.proofs.RuleLaws.{bool-apart, by-tag, file-size, body-size}

-- ---- headers

abbrev canonical : Header → Header
canonical h = header_with (needs_range (picture_header h)) (needs_range (picture_header h)) (picture_header h)

all-zero-nine : (l : List Bool) → length l ≡ 9 → not (all_zero l) ≡ false → l ≡ replicate 9 false
all-zero-nine l n e = nine-zeros l n (rw (not-false (all_zero l) e) tt)

nine-zero : (l : List Bool) → l ≡ replicate 9 false → not (all_zero l) ≡ false
nine-zero l e = rw e

-- the rules do not speak of the two flags that the canonical form sets anew
no-pcm-same : (h : Header) → NoPcm h → NoPcm (canonical h)
no-pcm-same h n = search

pcm-same : (depth : ℕ) (h : Header) → PcmRules depth h → PcmRules depth (canonical h)
pcm-same depth h n = search

header-rules : (depth : ℕ) (h : Header) → HeaderRules depth h → HeaderRules depth (canonical h)
header-rules depth h r = search (no-pcm-same, r.fields.no-pcm, pcm-same, r.hevc.pcm, all-zero-nine)

-- the bits of the SPS extension: none where the nine flags are zero, and else both parts were there before
abbrev extension_size : Header → ℕ
extension_size h = length (select h.sps_extension_present_flag (sps_extension_bits h) []) + length (select h.sps_range_extension_flag h.range_flags [])

size_none : (h : Header) → h.sps_extension_present_flag ≡ false → h.sps_range_extension_flag ≡ false → extension_size h ≡ 0
size_none h a b = rw (select-false (sps_extension_bits h) [] a, select-false h.range_flags [] b)

size-both : (h : Header) → h.sps_extension_present_flag ≡ true → h.sps_range_extension_flag ≡ true → extension_size h ≡ 8 + length h.range_flags
size-both h a b = rw (select-true (sps_extension_bits h) [] a, select-true h.range_flags [] b, length-bits 7 h.sps_extension_7bits)

extension-shorter : (h : Header) → FieldRules h → extension_size (canonical h) ≤ extension_size h
extension-shorter h f =
    by-tag (not (all_zero h.range_flags))
    (λ e.
    let range : h.sps_range_extension_flag ≡ true = by-tag h.sps_range_extension_flag (λ b. b) (λ b. bool-apart e (nine-zero _ (f.no-range b))) in
    let sps : h.sps_extension_present_flag ≡ true = by-tag h.sps_extension_present_flag (λ b. b) (λ b. bool-apart range (f.no-extension b).range-flag) in
    omega (arith, size-both (canonical h) e e, size-both h sps range))
    (λ e. omega (arith, size_none (canonical h) e e))

bits-shorter : (h : Header) → FieldRules h → length (header_bits (canonical h)) ≤ length (header_bits h)
unfolding header_bits
bits-shorter h f = let s = extension-shorter h f in simp length-append (omega arith)

-- a list after its length
counted-shorter : (l m : List ℕ) → length l ≤ length m → length (ue7_bytes (length l) ++ l) ≤ length (ue7_bytes (length m) ++ m)
counted-shorter l m h = let g = size-grows (length l) (length m) h in simp length-append (omega arith)

header-shorter : (h : Header) → FieldRules h → length (header_bytes (canonical h)) ≤ length (header_bytes h)
unfolding header_bytes
header-shorter h f =
    let s = bits-shorter h f in
    counted-shorter (padded (header_bits (canonical h))) (padded (header_bits h)) (rw (length-padded (header_bits (canonical h)), length-padded (header_bits h)) (omega arith))

-- ---- entries

abbrev canonical_entry : AnimationControl → Extension → Extension
canonical_entry p e = entry_with p [] (picture_entry e)

module _ (p : AnimationControl) where
  entry-loop : (e : Extension) → is_animation e ≡ true → (canonical_entry p e).payload ≡ animation_bytes p []
  entry-loop e l = select-true _ _ l

  entry_other : (e : Extension) → is_animation e ≡ false → (canonical_entry p e).payload ≡ e.payload
  entry_other e l = select-false _ _ l ∙ select-false _ _ l

  loop-payload : (l dummy : List ℕ) → AnimationPayload l p dummy → AnimationPayload (animation_bytes p []) p []
  loop-payload l dummy r = search

  loop-bytes : All Byte (animation_bytes p [])
  loop-bytes = search (all_append, bytes-ue7)

  entry-rules : (e : Extension) → ExtensionRules p e → ExtensionRules p (canonical_entry p e)
  entry-rules e r =
      by-tag (is_animation e)
      (λ l. let d = r.control l in record {
        tag = r.tag;
        bytes = rw (entry-loop e l) loop-bytes;
        control = λ _. ([], rw (entry-loop e l) (loop-payload e.payload d.0 d.1));
      })
      (λ l. record {
        tag = r.tag;
        bytes = rw (entry_other e l) r.bytes;
        control = λ k. bool-apart k l;
      })

  entry-shorter : (e : Extension) → ExtensionRules p e → length (canonical_entry p e).payload ≤ length e.payload
  entry-shorter e r =
      by-tag (is_animation e)
      (λ l. let d = r.control l in rw (entry-loop e l, d.1.is) (simp length-append (omega arith)))
      (λ l. rw (entry_other e l) (omega arith))

  -- ---- all entries

  abbrev canonical_entries : List Extension → List Extension
  canonical_entries es = map (entry_with p []) (map picture_entry es)

  entries-rules : (es : List Extension) → All (ExtensionRules p) es → All (ExtensionRules p) (canonical_entries es)
  entries-rules [] r = tt
  entries-rules (e ∷ es) r = (entry-rules e r.0, entries-rules es r.1)

  entries-loop : (es : List Extension) → has_animation (canonical_entries es) ≡ has_animation es
  entries-loop [] = refl
  entries-loop (e ∷ es) = ap (λ (b : Bool). is_animation e || b) (entries-loop es)

  entries-one : (es : List Extension) → OneAnimation es → OneAnimation (canonical_entries es)
  entries-one [] o = tt
  entries-one (e ∷ es) o = ((λ l. entries-loop es ∙ o.0 l), entries-one es o.1)

  entries-shorter : (es : List Extension) → All (ExtensionRules p) es → length (block_bytes (canonical_entries es)) ≤ length (block_bytes es)
  entries-shorter [] r = omega arith
  entries-shorter (e ∷ es) r =
      let n = counted-shorter (canonical_entry p e).payload e.payload (entry-shorter e r.0) in
      let ih = entries-shorter es r.1 in
      simp length-append (omega (arith, simp length-append at n))

-- ---- the content

-- the choices do not change the picture
pub choices-keep : (c : Content) (ch : Choices) → picture_of (with_choices (picture_of c) ch) ≡ picture_of c
unfolding picture_of with_choices
choices-keep c ch = rw (entries-keep c.control ch.dummy c.extensions)
  where
    payload-keep : (p : AnimationControl) (d : List ℕ) (e : Extension)
        → select (is_animation e) [] (select (is_animation e) (animation_bytes p d) (select (is_animation e) [] e.payload)) ≡ select (is_animation e) [] e.payload
    payload-keep p d e =
        by-tag (is_animation e) (λ l. select-true _ _ l ∙ sym (select-true _ _ l)) (λ l. select-false _ _ l ∙ select-false _ _ l)

    entries-keep : (p : AnimationControl) (d : List ℕ) (es : List Extension) → map picture_entry (map (entry_with p d) (map picture_entry es)) ≡ map picture_entry es
    entries-keep p d [] = refl
    entries-keep p d (e ∷ es) = ap₂ ◌∷◌ (ap {B = Extension} (λ (l : List ℕ). record { tag = e.tag; payload = l }) (payload-keep p d e)) (entries-keep p d es)

pub same-picture : (c : Content) → picture_of (canonical_content c) ≡ picture_of c
unfolding canonical_content
same-picture c = choices-keep c (canonical_choices (picture_of c))

-- with no header where there is no alpha plane
select-shorter : (b : Bool) (l m : List ℕ) → (b ≡ true → length l ≤ length m) → length (select b l []) ≤ length (select b m [])
unfolding select
select-shorter true l m h = h refl
select-shorter false l m h = omega arith

body-shorter : (c : Content) → Rules c → length (headers_and_data (canonical_content c)) ≤ length (headers_and_data c)
unfolding picture_of with_choices canonical_content
body-shorter c r =
    omega (
      arith,
      body-size c,
      body-size (canonical_content c),
      header-shorter c.color_header r.color-header.fields,
      select-shorter (has_alpha c.flags) (header_bytes (canonical c.alpha_header)) (header_bytes c.alpha_header) (λ a. header-shorter c.alpha_header (r.alpha-header a).fields),
    )

-- the block goes where there is no entry, and is not longer where there is one
part-shorter : (b : Bool) (p : AnimationControl) (es : List Extension) → (b ≡ false → es ≡ []) → All (ExtensionRules p) es
    → length (extension_part (not (is_empty (map picture_entry es))) (canonical_entries p es)) ≤ length (extension_part b es)
unfolding extension_part select
part-shorter b p [] n r = omega arith
part-shorter true p (e ∷ es) n r = counted-shorter (block_bytes (canonical_entries p (e ∷ es))) (block_bytes (e ∷ es)) (entries-shorter p (e ∷ es) r)
part-shorter false p (e ∷ es) n r = absurd (cons≢nil (n refl))

open-length : (c : Content) → data_length (canonical_content c) ≡ 0
unfolding data_length with_choices canonical_content
open-length c = select-false _ _ refl

pub shorter : (c : Content) → Rules c → length (file_of (canonical_content c)) ≤ length (file_of c)
unfolding picture_of with_choices canonical_content
shorter c r =
    omega (
      arith,
      file-size c,
      file-size (canonical_content c),
      size-grows 0 (data_length c) (omega arith),
      ap (λ (n : ℕ). length (ue7_bytes n)) (open-length c),
      part-shorter c.flags.extension_present c.control c.extensions r.absent-block r.entries,
      body-shorter c r,
    )

no-entries : (p : AnimationControl) (es : List Extension) → not (is_empty (map picture_entry es)) ≡ false → canonical_entries p es ≡ []
no-entries p [] e = refl
no-entries p (x ∷ es) e = bool-apart refl e

pub canonical-rules : (c : Content) → Rules c → Rules (canonical_content c)
unfolding picture_of with_choices canonical_content
canonical-rules c r =
    let limit : length (canonical_entries c.control c.extensions) ≤ max_entries = simp length-map r.entry-limit in
    let loops = entries-loop c.control c.extensions in
    let no-animation : has_animation (canonical_entries c.control c.extensions) ≡ false → c.control ≡ no_animation = λ h. r.no-animation (sym loops ∙ h) in
    let no-alpha : has_alpha c.flags ≡ false → canonical c.alpha_header ≡ zero_header = λ a. ap canonical (r.no-alpha a) in
    let size : length (file_of (canonical_content c)) ≤ max_file = omega (arith, shorter c r, r.size) in
    search (no-entries, entries-rules, entries-one, loops, r.animated, header-rules, r.alpha-header)
