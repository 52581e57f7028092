-- Reading as a chain of steps is what the codec decodes.
use mathlib.Core.Path.{◌≡◌, refl, sym, ap, ◌∙◌, subst}
use mathlib.Core.Bool.{Bool, true, false, not, ◌||◌}
use mathlib.Core.List.{List, [], ◌∷◌}
use Prim.Native.Nat.{ℕ, zero, suc, ◌+◌, ◌-◌}
use native.Mathlib.Omega.{arith}
use lib.Dec.{leb}
use lib.ListN.{length, take, drop, replicate}
use lib.Seq.{drop-drop}
use borrow.Author.Tests.{le-leb}
use Rattle.bpg_codec.specs.Select.{select}
use Rattle.bpg_codec.specs.Outcome.{Outcome, ok, ◌>>=◌, guard, Decoded, decoded}
use Rattle.bpg_codec.specs.Codec.{Codec, Exact, at_item}
use Rattle.bpg_codec.specs.Bits.{Bit}
use Rattle.bpg_codec.specs.Parts.{sequence, mapped, guarded, sized, item, absent, fixed}
use Rattle.bpg_codec.specs.Regions.{then_rest, item_then_rest, mapped_exact, derived, guarded_region, rest, verbatim, decode_each, repeated, packed}
use Rattle.bpg_codec.proofs.Outcome.{ok-injective, unbind, unguard, bind_assoc, bind-cong}
use Rattle.bpg_codec.proofs.Positions.{Advanced, advanced-then, absent-advances}
use Rattle.bpg_ue7.specs.Ue7.{ue7_decode, not_zero}
use Rattle.bpg_ue7.proofs.Advances.{ue7-advances}
use Rattle.bpg_bits.specs.BitNumbers.{unsigned_decode, exp_golomb_decode}
use Rattle.bpg_format.specs.Limits.{max_entries, max_file}
use Rattle.bpg_format.specs.declared.record.Header.{Header}
use Rattle.bpg_format.specs.Zero.{zero_header}
use Rattle.bpg_format.specs.Content.{Flags, Extension, AnimationControl, has_alpha, bit_depth}
use Rattle.bpg_format.specs.Rules.{has_animation, no_animation}
use Rattle.bpg_format.specs.Tests.{counts_to_end, data_allowed}
use Rattle.bpg_format.specs.Read.{if_present, read_flags, Head, read_head, read_animation, read_entry, read_entries, read_block, one_flag, nine_flags, read_fields}
use Rattle.bpg_format.specs.Read.{read_header, read_alpha_header, read_body, read_content, animation_of}
use Rattle.bpg_format.specs.FileCodec.{flags, dimension, period, animation_codec, payload, extension, seen_after, extensions, block, one_bit, optional}
use Rattle.bpg_format.specs.FileCodec.{SizeFields, size_fields, PcmFields, pcm_fields, sps_fields, no_pcm, no_sps, FieldTuple, field_sequence, header_from}
use Rattle.bpg_format.specs.FileCodec.{header_fields, header, alpha_header, hevc_bytes, body, judged_body, parts, with_loop, content_from, file}

-- ---- two parts and what follows them, as steps in a row: each law takes one pair apart, which costs less than regrouping the whole chain

module _ {S A B C : Type 0} where
  sequence-then : (c : Codec S A) (d : A → Codec S B) (i p : ℕ) (l : List S) (k : Decoded S (A × B) → Outcome C) → ((sequence c d).decode i p l >>= k)
      ≡ (c.decode i p l >>= λ x. (d x.value).decode i x.next x.rest >>= λ y. k (decoded (x.value, y.value) y.next y.rest))
  unfolding sequence
  sequence-then c d i p l k = simp bind_assoc

  rest_then : (c : Codec S A) (d : A → Exact S B) (i p : ℕ) (l : List S) (k : A × B → Outcome C) → ((then_rest c d).decode i p l >>= k)
      ≡ (c.decode i p l >>= λ x. (d x.value).decode i x.next x.rest >>= λ b. k (x.value, b))
  unfolding then_rest
  rest_then c d i p l k = simp bind_assoc

-- ---- the extension block

-- the numbers of a tag 5 payload, and the dummy bytes after them
abbrev pub Numbers : Type 0
Numbers = ℕ × (ℕ × (ℕ × List ℕ))

abbrev pub animation_of_numbers : Numbers → AnimationControl
animation_of_numbers x = record { count = x.0; period_num = x.1.0; period_den = x.1.1.0 }

pub loop-chain : (i p : ℕ) (l : List ℕ) → read_animation p l ≡ (animation_codec.decode i p l >>= λ x. ok (animation_of_numbers x))
unfolding animation_codec then_rest period guarded rest read_animation
loop-chain i p l = simp bind_assoc

payload-then : {A : Type 0} (b : Bool) (i p : ℕ) (l : List ℕ) (k : List ℕ → Outcome A)
    → ((payload b).decode i p l >>= k) ≡ (select b (read_animation p l) (ok no_animation) >>= λ _. k l)
unfolding payload select verbatim rest
payload-then true i p l k = simp (loop-chain i p l, bind_assoc)
payload-then false i p l k = refl

-- at its own offset: an entry is an item of its own
pub entry-chain : (seen : Bool) (p : ℕ) (l : List ℕ) → (extension seen).decode p p l ≡ read_entry seen p l
unfolding extension mapped sequence sized guarded_region read_entry
entry-chain seen p l = simp (bind_assoc, payload-then)

pub entries-chain : (k : ℕ) (seen : Bool) (p : ℕ) (l : List ℕ) → decode_each extension seen_after 11 k seen p l ≡ read_entries k seen p l
unfolding read_entries
entries-chain zero seen p [] = refl
entries-chain zero seen p (x ∷ l) = refl
entries-chain (suc k) seen p [] = refl
entries-chain (suc k) seen p (x ∷ l) = simp (entry-chain, entries-chain k)

-- without the extension flag, the block is one of length 0
block-then : {A : Type 0} (present : Bool) (i p : ℕ) (l : List ℕ) (k : Decoded ℕ (List Extension) → Outcome A) → ((block present).decode i p l >>= k)
    ≡ (if_present present 0 (ue7_decode 32) p l >>= λ size.
    guard (leb size.value (length size.rest)) 2 p >>= λ _.
    read_entries max_entries false size.next (take size.value size.rest) >>= λ es.
    k (decoded es (size.next + size.value) (drop size.value size.rest)))
unfolding block select sized absent extensions repeated read_entries
block-then true i p l k = simp (bind_assoc, entries-chain)
block-then false i p l k = let e : p + 0 ≡ p = omega arith in rw (e, le-leb 0 (length l) (omega arith))

-- ---- HEVC headers

module _ {A : Type 0} (i p : ℕ) (l : List Bool) where
  sizes-then : (k : Decoded Bool SizeFields → Outcome A) → (size_fields.decode i p l >>= k)
      ≡ (exp_golomb_decode i p l >>= λ a.
      exp_golomb_decode i a.next a.rest >>= λ b.
      exp_golomb_decode i b.next b.rest >>= λ c.
      exp_golomb_decode i c.next c.rest >>= λ d.
      exp_golomb_decode i d.next d.rest >>= λ e.
      k (decoded (a.value, (b.value, (c.value, (d.value, e.value)))) e.next e.rest))
  unfolding size_fields
  sizes-then k = simp sequence-then

  pcm-then : (t : Bool) (k : Decoded Bool PcmFields → Outcome A) → ((optional t pcm_fields no_pcm).decode i p l >>= k)
      ≡ (if_present t 0 (unsigned_decode 4 i) p l >>= λ a.
      if_present t 0 (unsigned_decode 4 i) a.next a.rest >>= λ b.
      if_present t 0 (exp_golomb_decode i) b.next b.rest >>= λ c.
      if_present t 0 (exp_golomb_decode i) c.next c.rest >>= λ d.
      if_present t false (one_flag i) d.next d.rest >>= λ e.
      k (decoded (a.value, (b.value, (c.value, (d.value, e.value)))) e.next e.rest))
  unfolding select absent pcm_fields mapped
  pcm-then true k = simp sequence-then
  pcm-then false k = refl

  sps-then : (t : Bool) (k : Decoded Bool (Bool × ℕ) → Outcome A) → ((optional t sps_fields no_sps).decode i p l >>= k)
      ≡ (if_present t false (one_flag i) p l >>= λ a.
      if_present t 0 (unsigned_decode 7 i) a.next a.rest >>= λ b.
      k (decoded (a.value, b.value) b.next b.rest))
  unfolding select absent sps_fields mapped
  sps-then true k = simp sequence-then
  sps-then false k = refl

-- the fields by groups, as the codec has them
grouped : {A : Type 0} (i p : ℕ) (l : List Bool) (k : Decoded Bool FieldTuple → Outcome A) → (field_sequence.decode i p l >>= k)
    ≡ (size_fields.decode i p l >>= λ sizes.
    one_bit.decode i sizes.next sizes.rest >>= λ sao.
    one_bit.decode i sao.next sao.rest >>= λ pcm.
    (optional pcm.value pcm_fields no_pcm).decode i pcm.next pcm.rest >>= λ pcms.
    one_bit.decode i pcms.next pcms.rest >>= λ strong.
    one_bit.decode i strong.next strong.rest >>= λ sps.
    (optional sps.value sps_fields no_sps).decode i sps.next sps.rest >>= λ ext.
    (optional ext.value.0 (fixed Bit 9 15 at_item) (replicate 9 false)).decode i ext.next ext.rest >>= λ nine.
    k (decoded (sizes.value, (sao.value, (pcm.value, (pcms.value, (strong.value, (sps.value, (ext.value, nine.value))))))) nine.next nine.rest))
unfolding field_sequence
grouped i p l k = simp sequence-then

flag-chain : (i p : ℕ) (l : List Bool) → one_bit.decode i p l ≡ one_flag i p l
unfolding mapped
flag-chain i p l = refl

nine-chain : (t : Bool) (i p : ℕ) (l : List Bool) → (optional t (fixed Bit 9 15 at_item) (replicate 9 false)).decode i p l ≡ if_present t (replicate 9 false) (nine_flags i) p l
unfolding select absent fixed
nine-chain true i p l = refl
nine-chain false i p l = refl

named : (i p : ℕ) (l : List Bool) → header_fields.decode i p l ≡ (field_sequence.decode i p l >>= λ x. ok (decoded (header_from x.value) x.next x.rest))
unfolding header_fields mapped
named i p l = refl

pub fields-chain : (i p : ℕ) (l : List Bool) → header_fields.decode i p l ≡ read_fields i p l
unfolding read_fields
fields-chain i p l = named i p l ∙ simp (grouped, flag-chain, sizes-then, pcm-then, sps-then, nine-chain)

pub header-chain : (depth i p : ℕ) (l : List ℕ) → (header depth).decode i p l ≡ read_header depth p l
unfolding header guarded item sized packed read_header
header-chain depth i p l = simp (bind_assoc, fields-chain)

alpha-select : (b : Bool) (depth i p : ℕ) (l : List ℕ)
    → (select b (header depth) (absent zero_header)).decode i p l ≡ if_present b zero_header (read_header depth) p l
unfolding select absent
alpha-select true depth i p l = header-chain depth i p l
alpha-select false depth i p l = refl

pub alpha-chain : (f : Flags) (i p : ℕ) (l : List ℕ) → (alpha_header f).decode i p l ≡ read_alpha_header f p l
unfolding alpha_header read_alpha_header
alpha-chain f i p l = alpha-select (has_alpha f) (bit_depth f) i p l

-- ---- the file

-- the head, and what is left after it
unfoldable head_rest : List ℕ → Outcome (Decoded ℕ Head)
head_rest l =
    read_flags l >>= λ f.
    ue7_decode 32 6 (drop 6 l) >>= λ width.
    guard (not_zero width.value) 9 6 >>= λ _.
    ue7_decode 32 width.next width.rest >>= λ height.
    guard (not_zero height.value) 9 width.next >>= λ _.
    ue7_decode 32 height.next height.rest >>= λ size.
    if_present f.extension_present 0 (ue7_decode 32) size.next size.rest >>= λ ext.
    let head : Head = record {
      flags = f;
      width = width.value;
      height = height.value;
      data_length = size.value;
      data_length_at = height.next;
      extension_length = ext.value;
      extension_length_at = size.next;
      end = ext.next;
    } in
    ok (decoded head ext.next ext.rest)

-- 14, then 10, the headers, 26, the data
judged-then : {A : Type 0} (f : Flags) (n : ℕ) (es : List Extension) (i p : ℕ) (l : List ℕ) (k : Header × (Header × List ℕ) → Outcome A)
    → ((judged_body f n es).decode i p l >>= k)
    ≡ (guard (not f.animation || has_animation es) 14 5 >>= λ _.
    guard (counts_to_end n (length l)) 10 i >>= λ _.
    read_alpha_header f p l >>= λ alpha.
    read_header (bit_depth f) alpha.next alpha.rest >>= λ color.
    guard (data_allowed color.rest) 26 color.next >>= λ _.
    k (alpha.value, (color.value, color.rest)))
unfolding judged_body guarded_region body hevc_bytes then_rest rest
judged-then f n es i p l k = simp (bind_assoc, alpha-chain, header-chain)

-- the content that the parts give
of_parts : (l : List ℕ) → file.decode 0 0 l ≡ (parts.decode 0 0 l >>= λ x. ok (content_from (x, animation_of x.1.1.1.1.0)))
unfolding file mapped_exact with_loop derived
of_parts l = simp bind_assoc

in_parts : (l : List ℕ) → file.decode 0 0 l ≡ (guard (leb (length l) max_file) 1 0 >>= λ _. head_rest l >>= λ x. read_body x.value x.rest)
unfolding parts guarded_region item_then_rest flags dimension guarded head_rest read_block read_body
in_parts l = of_parts l ∙ simp (rest_then, bind_assoc, block-then, judged-then)

head-of : (l : List ℕ) → read_head l ≡ (head_rest l >>= λ x. ok x.value)
unfolding read_head head_rest
head-of l = simp bind_assoc

after-six : (l : List ℕ) (q : ℕ) (r : List ℕ) → Advanced 6 (drop 6 l) q r → r ≡ drop q l
after-six l q r a =
    let n : 6 + (q - 6) ≡ q = omega (arith, a.forward) in
    a.left ∙ drop-drop (q - 6) 6 l ∙ ap (λ (k : ℕ). drop k l) n

length-advances : (t : Bool) (p : ℕ) (l : List ℕ) (x : Decoded ℕ ℕ) → if_present t 0 (ue7_decode 32) p l ≡ ok x → Advanced p l x.next x.rest
unfolding select absent
length-advances true p l x e = (ue7-advances 32).advances p p l x e
length-advances false p l x e = (absent-advances {A = ℕ} 0).advances p p l x e

left : (l : List ℕ) (x : Decoded ℕ Head) → head_rest l ≡ ok x → x.rest ≡ drop x.value.end l
unfolding head_rest
left l x e =
    unbind (read_flags l) _ e λ f _ k1.
    unbind (ue7_decode 32 6 (drop 6 l)) _ k1 λ w e2 k2.
    unguard (not_zero w.value) 9 6 _ k2 λ _ k3.
    unbind (ue7_decode 32 w.next w.rest) _ k3 λ v e4 k4.
    unguard (not_zero v.value) 9 w.next _ k4 λ _ k5.
    unbind (ue7_decode 32 v.next v.rest) _ k5 λ s e6 k6.
    unbind (if_present f.extension_present 0 (ue7_decode 32) s.next s.rest) _ k6 λ t e7 k7.
    let a = advanced-then ((ue7-advances 32).advances 6 6 (drop 6 l) w e2) ((ue7-advances 32).advances w.next w.next w.rest v e4) in
    let b = advanced-then ((ue7-advances 32).advances v.next v.next v.rest s e6) (length-advances f.extension_present s.next s.rest t e7) in
    subst (λ (y : Decoded ℕ Head). y.rest ≡ drop y.value.end l) (ok-injective k7) (after-six l t.next t.rest (advanced-then a b))

head-then-body : (l : List ℕ) → (head_rest l >>= λ x. read_body x.value x.rest) ≡ (read_head l >>= λ h. read_body h (drop h.end l))
head-then-body l =
    bind-cong (head_rest l) (λ x. read_body x.value x.rest) (λ x. read_body x.value (drop x.value.end l)) (λ x e. ap (read_body x.value) (left l x e))
    ∙ sym (bind_assoc (head_rest l) (λ x. ok x.value) (λ h. read_body h (drop h.end l)))
    ∙ ap (λ (m : Outcome Head). m >>= λ h. read_body h (drop h.end l)) (sym (head-of l))

pub content-chain : (l : List ℕ) → file.decode 0 0 l ≡ read_content l
unfolding read_content
content-chain l = in_parts l ∙ rw (head-then-body l)
