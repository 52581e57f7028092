-- A content is valid for the file's codec exactly when it keeps the rules by name.
use mathlib.Core.Path.{◌≡◌, refl, sym, ap, ◌∙◌, subst}
use mathlib.Core.Bool.{Bool, true, false, not, ◌&&◌, ◌||◌, or-true}
use mathlib.Core.List.{List, [], ◌∷◌}
use Prim.Native.Nat.{ℕ, ◌+◌, ◌^◌, ◌≤◌, ◌<◌}
use native.Mathlib.Omega.{arith}
use lib.Dec.{T, leb, eqb, leb→le, le→leb}
use lib.ListN.{length, length-append}
use mir.Facts.{eqb_no, no_eqb}
use borrow.Author.Tests.{eq-eqb, eqb-true}
use Rattle.bpg_codec.specs.Select.{select}
use Rattle.bpg_codec.specs.Outcome.{ok}
use Rattle.bpg_codec.specs.Codec.{Exact}
use Rattle.bpg_codec.specs.Lawful.{All, Byte}
use Rattle.bpg_codec.specs.Bits.{padded}
use Rattle.bpg_codec.specs.Parts.{sequence, mapped, guarded, sized, absent}
use Rattle.bpg_codec.specs.Regions.{then_rest, item_then_rest, mapped_exact, derived, guarded_region, rest, verbatim, ValidEach, repeated}
use Rattle.bpg_codec.proofs.Select.{select-true, select-false, is_true, is_false}
use Rattle.bpg_codec.proofs.Outcome.{ok-injective, unbind}
use Rattle.bpg_ue7.specs.Ue7.{ue7_bytes}
use Rattle.bpg_format.specs.Limits.{max_entries, max_file}
use Rattle.bpg_format.specs.declared.record.Header.{Header}
use Rattle.bpg_format.specs.Content.{Flags, Extension, AnimationControl, Content, has_alpha, bit_depth}
use Rattle.bpg_format.specs.Syntax.{block_bytes, extension_part, header_bits, header_bytes, headers_and_data, data_length, file_of}
use Rattle.bpg_format.specs.Rules.{AnimationPayload, is_animation, ExtensionRules, has_animation, OneAnimation, no_animation, Rules}
use Rattle.bpg_format.specs.Tests.{counts_to_end}
use Rattle.bpg_format.specs.Read.{read_animation, animation_from, animation_of}
use Rattle.bpg_format.specs.FileCodec.{FlagsRules, flags, dimension, period, animation_codec, payload, extension, seen_after, extensions, block, alpha_header}
use Rattle.bpg_format.specs.FileCodec.{hevc_bytes, body, judged_body, parts, with_loop, length_of, file}
use Rattle.bpg_format.proofs.FileLaws.{loop_numbers-lawful}
use Rattle.bpg_format.proofs.Chain.{Numbers, animation_of_numbers, loop-chain}
use Rattle.bpg_format.proofs.SyntaxLaws.{payload-encode, each-encode, length-encode, file-encode}
use Rattle.bpg_format.proofs.HeaderRuleLaws.{unless-full, passed, passes, by_flag, opt-present, opt-absent, opt-valid, header-sound, header-full}
use Rattle.bpg_format.proofs.DataRuleLaws.{data-sound, data-full}

pub bool-apart {ℓ} : {P : Type ℓ} {b : Bool} → b ≡ true → b ≡ false → P
bool-apart e f = absurd (let z : ◌≡◌ {A = ℕ} 0 1 = cc in omega arith)

-- ---- a tag 5 payload

numbers-sound : (x : Numbers) (l : List ℕ) → animation_codec.Valid x → l ≡ animation_codec.encode x → AnimationPayload l (animation_of_numbers x) x.1.1.1
unfolding animation_codec then_rest period guarded rest
numbers-sound x l v e = search eqb_no

abbrev numbers_of : AnimationControl → List ℕ → Numbers
numbers_of p dummy = (p.count, (p.period_num, (p.period_den, dummy)))

numbers-full : (l : List ℕ) (p : AnimationControl) (dummy : List ℕ) → AnimationPayload l p dummy
    → animation_codec.Valid (numbers_of p dummy) × (l ≡ animation_codec.encode (numbers_of p dummy))
unfolding animation_codec then_rest period guarded rest
numbers-full l p dummy r = search no_eqb depth 7

-- the numbers that the payload holds are read, wherever it stands
loop-decodes : (l : List ℕ) (p : AnimationControl) (dummy : List ℕ) → AnimationPayload l p dummy → (q : ℕ) → animation_codec.decode q q l ≡ ok (numbers_of p dummy)
loop-decodes l p dummy r q =
    let n = numbers-full l p dummy r in
    ap (animation_codec.decode q q) n.1 ∙ loop_numbers-lawful.decodes (numbers_of p dummy) n.0 q q

pub loop-reads : (l : List ℕ) (p : AnimationControl) (dummy : List ℕ) → AnimationPayload l p dummy → (q : ℕ) → read_animation q l ≡ ok p
loop-reads l p dummy r q = loop-chain q q l ∙ rw (loop-decodes l p dummy r q)

-- and those that are read are held
pub loop-read : (l : List ℕ) → All Byte l → (q : ℕ) (p : AnimationControl) → read_animation q l ≡ ok p → (dummy : List ℕ) × AnimationPayload l p dummy
loop-read l h q p e =
    unbind (animation_codec.decode q q l) _ (sym (loop-chain q q l) ∙ e) λ x e1 e2.
    let s = loop_numbers-lawful.encodes q q l h x e1 in
    (x.1.1.1, subst (λ (y : AnimationControl). AnimationPayload l y x.1.1.1) (ok-injective e2) (numbers-sound x l s.0 s.1))

-- what a payload that can be read is
abbrev Readable : List ℕ → Type 0
Readable l = (x : Numbers) × animation_codec.Valid x × (l ≡ animation_codec.encode x)

readable-loop : (l : List ℕ) (v : Readable l) → AnimationPayload l (animation_from (read_animation 0 l)) v.0.1.1.1
readable-loop l v = let s = numbers-sound v.0 l v.1 v.2 in rw (loop-reads l _ _ s 0) s

payload-loop : (b : Bool) (l : List ℕ) → (payload b).Valid l → b ≡ true → Readable l
unfolding payload verbatim
payload-loop b l v e = rw (select-true _ _ e) at v

payload-bytes : (b : Bool) (l : List ℕ) → (payload b).Valid l → All Byte l
unfolding payload select verbatim rest
payload-bytes true l v = rw v.2 (loop_numbers-lawful.tokens v.0 v.1)
payload-bytes false l v = v

payload-full : (b : Bool) (l : List ℕ) → All Byte l → (b ≡ true → Readable l) → (payload b).Valid l
unfolding payload verbatim rest
payload-full b l h f = by_flag (λ (c : Exact ℕ (List ℕ)). c.Valid l) b (verbatim animation_codec) (rest Byte) f (λ _. h)

-- ---- an entry

entry-sound : (seen : Bool) (e : Extension) → (extension seen).Valid e
    → (e.tag < 2 ^ 32) × T (not (seen && is_animation e)) × (payload (is_animation e)).Valid e.payload
unfolding extension mapped sequence sized guarded_region
entry-sound seen e v = (v.0, v.1.0.0, v.1.0.1)

entry-full : (seen : Bool) (e : Extension) → e.tag < 2 ^ 32 → T (not (seen && is_animation e)) → (payload (is_animation e)).Valid e.payload
    → length e.payload < 2 ^ 32 → (extension seen).Valid e
unfolding extension mapped sequence sized guarded_region
entry-full seen e t n p s = (t, ((n, p), rw (payload-encode (eqb e.tag 5) e.payload) s))

-- ---- the entries: the state of the codec, and what the rules say

abbrev EachValid : Bool → List Extension → Type 0
EachValid seen es = ValidEach extension seen_after 11 seen es

pub none_seen : (seen b : Bool) → T (not (seen && b)) → seen ≡ true → b ≡ false
none_seen seen b t e = is_false b (rw e at t)

-- a flag and an entry, and the entries after it: no entry with tag 5 where the flag is set
pub seen-head : (seen b c : Bool) → (seen ≡ true → (b || c) ≡ false) → T (not (seen && b))
seen-head true true c f = bool-apart refl (f refl)
seen-head true false c f = tt
seen-head false b c f = tt

pub seen-tail : (seen b c : Bool) → (seen ≡ true → (b || c) ≡ false) → (b ≡ true → c ≡ false) → (seen || b) ≡ true → c ≡ false
seen-tail true true c f g e = g refl
seen-tail true false c f g e = f refl
seen-tail false b c f g e = g e

no-loops : (seen : Bool) (es : List Extension) → EachValid seen es → seen ≡ true → has_animation es ≡ false
no-loops seen [] v s = refl
no-loops seen (e ∷ es) v s =
    let n = none_seen seen (is_animation e) (entry-sound seen e v.0).1 s in
    rw n (no-loops (seen_after seen e) es v.1 (rw s))

one-sound : (seen : Bool) (es : List Extension) → EachValid seen es → OneAnimation es
one-sound seen [] v = tt
one-sound seen (e ∷ es) v = ((λ l. no-loops (seen_after seen e) es v.1 (rw l (or-true seen))), one-sound (seen_after seen e) es v.1)

loop-head : (e : Extension) (es : List Extension) → is_animation e ≡ true → animation_of (e ∷ es) ≡ animation_from (read_animation 0 e.payload)
unfolding animation_of
loop-head e es h = select-true _ _ h

loop-tail : (e : Extension) (es : List Extension) → is_animation e ≡ false → animation_of (e ∷ es) ≡ animation_of es
unfolding animation_of
loop-tail e es h = select-false _ _ h

no-entries : animation_of [] ≡ no_animation
unfolding animation_of
no-entries = refl

pub neither : (a b : Bool) → (a || b) ≡ false → (a ≡ false) × (b ≡ false)
neither true b e = bool-apart refl e
neither false b e = (refl, e)

-- by whether an entry has tag 5
pub by-tag {ℓ} : {P : Type ℓ} (b : Bool) → (b ≡ true → P) → (b ≡ false → P) → P
by-tag true f g = f refl
by-tag false f g = g refl

loop-none : (es : List Extension) → has_animation es ≡ false → animation_of es ≡ no_animation
loop-none [] h = no-entries
loop-none (e ∷ es) h = let n = neither (is_animation e) (has_animation es) h in loop-tail e es n.0 ∙ loop-none es n.1

-- an entry of which the loop numbers are p
rules-of-entry : (seen : Bool) (e : Extension) (p : AnimationControl) → (extension seen).Valid e → (is_animation e ≡ true → p ≡ animation_from (read_animation 0 e.payload)) → ExtensionRules p e
rules-of-entry seen e p v f =
    let s = entry-sound seen e v in
    record {
      tag = s.0;
      bytes = payload-bytes (is_animation e) e.payload s.2;
      control = λ l. let r = payload-loop (is_animation e) e.payload s.2 l in (r.0.1.1.1, rw (f l) (readable-loop e.payload r));
    }

entries-sound : (seen : Bool) (es : List Extension) → EachValid seen es → (p : AnimationControl) → (has_animation es ≡ true → p ≡ animation_of es) → All (ExtensionRules p) es
entries-sound seen [] v p f = tt
entries-sound seen (e ∷ es) v p f = (
  rules-of-entry seen e p v.0 (λ l. f (rw l) ∙ loop-head e es l),
  entries-sound (seen_after seen e) es v.1 p (λ h. by-tag (is_animation e)
      (λ l. bool-apart h (no-loops (seen_after seen e) es v.1 (rw l (or-true seen))))
      (λ l. f (rw l h) ∙ loop-tail e es l)),
)

loop-full : (es : List Extension) (p : AnimationControl) → All (ExtensionRules p) es → has_animation es ≡ true → p ≡ animation_of es
loop-full [] p r h = bool-apart h refl
loop-full (e ∷ es) p r h =
    by-tag (is_animation e)
    (λ l. let d = r.0.control l in sym (loop-head e es l ∙ ap animation_from (loop-reads e.payload p d.0 d.1 0)))
    (λ l. loop-full es p r.1 (rw l at h) ∙ sym (loop-tail e es l))

readable_of : (e : Extension) (p : AnimationControl) → ExtensionRules p e → is_animation e ≡ true → Readable e.payload
readable_of e p r l = let d = r.control l in let n = numbers-full e.payload p d.0 d.1 in (numbers_of p d.0, n.0, n.1)

pub entry-size : (e : Extension) (es : List Extension)
    → length (block_bytes (e ∷ es)) ≡ length (ue7_bytes e.tag) + length (ue7_bytes (length e.payload)) + length e.payload + length (block_bytes es)
entry-size e es = simp length-append (omega arith)

entries-full : (seen : Bool) (es : List Extension) (p : AnimationControl) → All (ExtensionRules p) es → OneAnimation es → (seen ≡ true → has_animation es ≡ false)
    → length (block_bytes es) < 2 ^ 32 → EachValid seen es
entries-full seen [] p r o f s = tt
entries-full seen (e ∷ es) p r o f s =
    let n = entry-size e es in (
      entry-full seen e r.0.tag (seen-head seen (is_animation e) (has_animation es) f)
          (payload-full (is_animation e) e.payload r.0.bytes (readable_of e p r.0)) (omega arith),
      entries-full (seen_after seen e) es p r.1 o.1 (seen-tail seen (is_animation e) (has_animation es) f o.0) (omega arith),
    )

-- ---- the block

block-sound : (present : Bool) (es : List Extension) → (block present).Valid es → EachValid false es × (length es ≤ max_entries)
unfolding block select absent sized extensions repeated
block-sound true es v = (v.0.0, v.0.1)
block-sound false es v = rw v (tt, omega arith)

block-full : (present : Bool) (es : List Extension) → (present ≡ false → es ≡ []) → EachValid false es → length es ≤ max_entries
    → length (block_bytes es) < 2 ^ 32 → (block present).Valid es
unfolding block sized extensions repeated
block-full present es n v h s = opt-valid present _ [] es (λ _. ((v, h), rw (each-encode false es) s)) n

-- ---- the flags

pub flags-sound : (f : Flags) → FlagsRules f → (f.pixel_format ≡ 0 → f.color_space ≡ 0)
flags-sound f v e = search (passed, eq-eqb)

pub flags_full : (f : Flags) → f.pixel_format ≤ 5 → f.bit_depth_minus8 ≤ 6 → f.color_space ≤ 4 → (f.pixel_format ≡ 0 → f.color_space ≡ 0) → FlagsRules f
flags_full f a b c g = search (passes, eqb-true)

-- ---- the sizes of the parts

header-size : (h : Header) → length (padded (header_bits h)) ≤ length (header_bytes h)
unfolding header_bytes
header-size h = simp length-append (omega arith)

module _ (c : Content) where
  abbrev front : List ℕ
  front = select (has_alpha c.flags) (header_bytes c.alpha_header) []

  pub body-size : length (headers_and_data c) ≡ length front + length (header_bytes c.color_header) + length c.hevc_data
  unfolding headers_and_data
  body-size = simp length-append (omega arith)

  pub file-size : length (file_of c)
      ≡ 6 + length (ue7_bytes c.width) + length (ue7_bytes c.height) + length (ue7_bytes (data_length c))
      + length (extension_part c.flags.extension_present c.extensions) + length (headers_and_data c)
  unfolding file_of
  file-size = simp length-append (omega arith)

  block_size : (c.flags.extension_present ≡ false → c.extensions ≡ []) → length (block_bytes c.extensions) ≤ length (file_of c)
  unfolding extension_part
  block_size n =
      by-tag c.flags.extension_present (λ e. rw (file-size, select-true _ _ e) (simp length-append (omega arith))) (λ e. rw (n e) (omega arith))

  length-size : data_length c ≤ length (headers_and_data c)
  unfolding data_length
  length-size = by_flag (λ (n : ℕ). n ≤ length (headers_and_data c)) c.explicit_length _ 0 (λ _. omega arith) (λ _. omega arith)

-- ---- the file

pub file-sound : (c : Content) → file.Valid c → Rules c
unfolding file mapped_exact with_loop derived parts judged_body guarded_region then_rest item_then_rest flags dimension guarded block body hevc_bytes alpha_header rest
file-sound c v =
    let each = block-sound c.flags.extension_present c.extensions v.0.1.1.1.1.1.0 in
    let entries = entries-sound false c.extensions each.0 c.control (λ _. v.1) in
    let one = one-sound false c.extensions each.0 in
    let no-animation : has_animation c.extensions ≡ false → c.control ≡ no_animation = λ h. v.1 ∙ loop-none c.extensions h in
    let size : length (file_of c) ≤ max_file = rw (← file-encode c) (leb→le _ _ v.0.0) in
    search (passed, is_true, eqb_no, flags-sound, opt-absent, opt-present, header-sound, data-sound)

counts : (b : Bool) (size : ℕ) → T (counts_to_end (select b size 0) size)
unfolding select
counts true size = rw (eq-eqb size size refl, or-true) tt
counts false size = tt

module _ (c : Content) (r : Rules c) where
  fits : T (leb (length (file.encode c)) max_file)
  fits = rw (file-encode c) (le→leb _ _ r.size)

  length-fits : length_of c < 2 ^ 32
  length-fits = omega (arith, length-encode c, length-size c, file-size c, r.size)

  color-fits : length (padded (header_bits c.color_header)) < 2 ^ 32
  color-fits = omega (arith, header-size c.color_header, body-size c, file-size c, r.size)

  alpha-fits : has_alpha c.flags ≡ true → length (padded (header_bits c.alpha_header)) < 2 ^ 32
  alpha-fits a =
      omega (arith, header-size c.alpha_header, ap length (select-true (header_bytes c.alpha_header) [] a), body-size c, file-size c, r.size)

  block-fits : length (block_bytes c.extensions) < 2 ^ 32
  block-fits = omega (arith, block_size c r.absent-block, r.size)

  loop-is : c.control ≡ animation_of c.extensions
  loop-is =
      by-tag (has_animation c.extensions) (λ h. loop-full c.extensions c.control r.entries h)
      (λ h. r.no-animation h ∙ sym (loop-none c.extensions h))

  depth-most : bit_depth c.flags ≤ 14
  depth-most = omega (arith, r.bit-depth)

pub file-full : (c : Content) → Rules c → file.Valid c
unfolding file mapped_exact with_loop derived parts judged_body guarded_region then_rest item_then_rest flags dimension guarded body hevc_bytes alpha_header rest
file-full c r =
    let es = entries-full false c.extensions c.control r.entries r.one-animation (λ e. bool-apart e refl) (block-fits c r) in
    let block = block-full c.flags.extension_present c.extensions r.absent-block es r.entry-limit (block-fits c r) in
    let loop : T (not c.flags.animation || has_animation c.extensions) = unless-full _ _ (λ a. rw (r.animated a) tt) in
    search (fits, flags_full, no_eqb, length-fits, counts, opt-valid, header-full, depth-most, alpha-fits, r.alpha-header, color-fits, data-full, loop-is) depth 18
