-- A refusal's offset lies in its file, or at its end: step by step, as the file is read.
use mathlib.Core.Path.{◌≡◌, refl, ap}
use mathlib.Core.Bool.{Bool, true, false, not, ◌&&◌, ◌||◌}
use mathlib.Core.List.{List, [], ◌∷◌}
use Prim.Native.Nat.{ℕ, zero, suc, ◌+◌, ◌-◌, ◌*◌, ◌≤◌}
use native.Mathlib.Omega.{arith}
use lib.Dec.{T, leb, eqb, ltb, leb→le}
use lib.ListN.{length, take, drop, get_or, length-take, length-drop}
use Rattle.bpg_codec.specs.Select.{select}
use Rattle.bpg_codec.specs.Lists.{same}
use Rattle.bpg_codec.specs.Outcome.{Outcome, ok, error, ◌>>=◌, guard, Decoded, decoded}
use Rattle.bpg_codec.specs.Bits.{is_padding, unpack}
use Rattle.bpg_ue7.specs.Ue7.{ue7_decode, not_zero}
use Rattle.bpg_ue7.proofs.Advances.{ue7-advances}
use Rattle.bpg_ue7.proofs.Places.{places}
use Rattle.bpg_bits.specs.BitNumbers.{unsigned_decode, prefix_decode, exp_golomb_decode}
use Rattle.bpg_format.specs.Limits.{max_entries, max_file}
use Rattle.bpg_format.specs.Content.{Content, has_alpha, bit_depth}
use Rattle.bpg_format.specs.Rules.{has_animation}
use Rattle.bpg_format.specs.Syntax.{magic}
use Rattle.bpg_format.specs.Tests.{color_space_allowed, counts_to_end, no_forbidden_bit, hevc_allowed, data_allowed}
use Rattle.bpg_format.specs.Read.{flags_of, Head, one_flag, nine_flags, read_flags, read_head, read_animation, read_entry, read_entries, read_block, read_fields, read_header}
use Rattle.bpg_format.specs.Read.{read_alpha_header, read_body, read_content}
use Rattle.bpg_format.specs.Records.{read_file, answer_of}

-- ---- outcomes: a value of this kind, or a refusal at or before `end`

pub data Gives {A : Type 0} (end : ℕ) (Q : A → Type 0) : Outcome A → Type 0 where
  value : (a : A) → Q a → Gives end Q (ok a)
  refusal : (s o : ℕ) → o ≤ end → Gives end Q (error s o)

abbrev Any : {A : Type 0} → A → Type 0
Any a = Unit {0}

-- what is left of the region ends at or before `end`
abbrev Inside : {S A : Type 0} → (end : ℕ) → Decoded S A → Type 0
Inside end x = x.next + length x.rest ≤ end

-- the places that a head names
record HeadInside (end : ℕ) (h : Head) : Type 0 where
  bytes : 6 ≤ end
  data-length : h.data_length_at ≤ end
  extension-length : h.extension_length_at ≤ end
  head-end : h.end ≤ end

module _ {end : ℕ} where
  after : {A B : Type 0} {Q : A → Type 0} {R : B → Type 0} {m : Outcome A} {k : A → Outcome B}
      → Gives end Q m → ((a : A) → Q a → Gives end R (k a)) → Gives end R (m >>= k)
  after (value a q) g = g a q
  after (refusal s o h) g = refusal s o h

  and_so : {A : Type 0} {Q R : A → Type 0} {m : Outcome A} → Gives end Q m → ((a : A) → Q a → R a) → Gives end R m
  and_so (value a q) g = value a (g a q)
  and_so (refusal s o h) g = refusal s o h

  rule : (t : Bool) (s o : ℕ) → o ≤ end → Gives end (λ _. T t) (guard t s o)
  rule true s o h = value tt tt
  rule false s o h = refusal s o h

  chosen : {A : Type 0} {Q : A → Type 0} (b : Bool) {m n : Outcome A} → Gives end Q m → Gives end Q n → Gives end Q (select b m n)
  unfolding select
  chosen true h g = h
  chosen false h g = g

  -- ---- numbers

  ue7-inside : (n p : ℕ) (l : List ℕ) → p + length l ≤ end → Gives end (Inside end) (ue7_decode n p l)
  ue7-inside n p l h = by (ue7_decode n p l) refl
    where
      by : (m : Outcome (Decoded ℕ ℕ)) → ue7_decode n p l ≡ m → Gives end (Inside end) m
      by (ok x) e =
          let a = (ue7-advances n).advances p p l x e in
          value x (omega (arith, a.inside, ap length a.left, length-drop (x.next - p) l))
      by (error s o) e = refusal s o (omega (arith, (places.within n p l s o e).1))

  -- ---- the head

  flags-inside : (l : List ℕ) → length l ≤ end → Gives end (λ _. 6 ≤ length l) (read_flags l)
  unfolding read_flags
  flags-inside l h =
      let f = flags_of (get_or l 4 0) (get_or l 5 0) in
      after (rule (leb 6 (length l)) 2 0 (omega arith)) λ _ t.
      let n : 6 ≤ length l = leb→le 6 (length l) t in
      after (rule (same magic (take 4 l)) 3 0 (omega arith)) λ _ _.
      after (rule (leb f.pixel_format 5) 4 4 (omega arith)) λ _ _.
      after (rule (leb f.bit_depth_minus8 6) 5 4 (omega arith)) λ _ _.
      after (rule (color_space_allowed f) 6 5 (omega arith)) λ _ _.
      value f n

  head-inside : (l : List ℕ) → length l ≤ end → Gives end (HeadInside end) (read_head l)
  unfolding read_head
  head-inside l h =
      after (flags-inside l h) λ f n.
      after (ue7-inside 32 6 (drop 6 l) (omega (arith, length-drop 6 l))) λ width a.
      after (rule (not_zero width.value) 9 6 (omega arith)) λ _ _.
      after (ue7-inside 32 width.next width.rest a) λ height b.
      after (rule (not_zero height.value) 9 width.next (omega arith)) λ _ _.
      after (ue7-inside 32 height.next height.rest b) λ size c.
      after (chosen f.extension_present (ue7-inside 32 size.next size.rest c) (value _ c)) λ block d.
      value _ (record { bytes = omega arith; data-length = omega arith; extension-length = omega arith; head-end = omega arith })

  -- ---- the extension block

  animation-inside : (p : ℕ) (l : List ℕ) → p + length l ≤ end → Gives end Any (read_animation p l)
  unfolding read_animation
  animation-inside p l h =
      after (ue7-inside 16 p l h) λ count a.
      after (ue7-inside 16 count.next count.rest a) λ num b.
      after (rule (not_zero num.value) 12 count.next (omega arith)) λ _ _.
      after (ue7-inside 16 num.next num.rest b) λ den c.
      after (rule (not_zero den.value) 12 num.next (omega arith)) λ _ _.
      value _ tt

  entry-inside : (seen : Bool) (p : ℕ) (l : List ℕ) → p + length l ≤ end → Gives end (Inside end) (read_entry seen p l)
  unfolding read_entry
  entry-inside seen p l h =
      after (ue7-inside 32 p l h) λ tag a.
      after (ue7-inside 32 tag.next tag.rest a) λ size b.
      after (rule (leb size.value (length size.rest)) 2 tag.next (omega arith)) λ _ t.
      let n = leb→le size.value (length size.rest) t in
      after (rule (not (seen && eqb tag.value 5)) 13 p (omega arith)) λ _ _.
      after
      (chosen (eqb tag.value 5)
      (animation-inside size.next (take size.value size.rest) (omega (arith, n, length-take size.value size.rest))) (value _ tt)) λ _ _.
      value _ (omega (arith, n, length-drop size.value size.rest))

  entries-inside : (most : ℕ) (seen : Bool) (p : ℕ) (l : List ℕ) → p + length l ≤ end → Gives end Any (read_entries most seen p l)
  unfolding read_entries
  entries-inside zero seen p [] h = value [] tt
  entries-inside zero seen p (x ∷ l) h = refusal 11 p (omega arith)
  entries-inside (suc most) seen p [] h = value [] tt
  entries-inside (suc most) seen p (x ∷ l) h =
      after (entry-inside seen p (x ∷ l) h) λ e a. after (entries-inside most _ e.next e.rest a) λ es _. value _ tt

  block_inside : (h : Head) (l : List ℕ) → HeadInside end h → h.end + length l ≤ end → Gives end (λ _. h.extension_length ≤ length l) (read_block h l)
  unfolding read_block
  block_inside h l i k =
      after (rule (leb h.extension_length (length l)) 2 h.extension_length_at i.extension-length) λ _ t.
      let n = leb→le h.extension_length (length l) t in
      and_so (entries-inside max_entries false h.end (take h.extension_length l) (omega (arith, n, length-take h.extension_length l))) λ _ _. n

  -- ---- the HEVC headers: whatever their bits are, they are refused at the header's length

  module _ (item : ℕ) (i : item ≤ end) where
    prefix-inside : (l : List Bool) (z p : ℕ) → Gives end Any (prefix_decode item z p l)
    unfolding prefix_decode
    prefix-inside [] z p = refusal 15 item i
    prefix-inside (true ∷ l) z p = value _ tt
    prefix-inside (false ∷ l) z p = after (rule (ltb z 31) 15 item i) λ _ _. prefix-inside l (z + 1) (p + 1)

    -- n bits, ue(v) and a flag, after x
    field : (n : ℕ) {A : Type 0} (x : Decoded Bool A) → Gives end Any (unsigned_decode n item x.next x.rest)
    field n x = after (rule (leb n (length x.rest)) 15 item i) λ _ _. value _ tt

    code : {A : Type 0} (x : Decoded Bool A) → Gives end Any (exp_golomb_decode item x.next x.rest)
    code x = after (prefix-inside x.rest 0 x.next) λ z _. after (field z.value z) λ _ _. value _ tt

    one : {A : Type 0} (x : Decoded Bool A) → Gives end Any (one_flag item x.next x.rest)
    one x = after (field 1 x) λ _ _. value _ tt

    nine : {A : Type 0} (x : Decoded Bool A) → Gives end Any (nine_flags item x.next x.rest)
    nine x = after (rule (leb 9 (length x.rest)) 15 item i) λ _ _. value _ tt

    fields-inside : (p : ℕ) (l : List Bool) → Gives end Any (read_fields item p l)
    unfolding read_fields
    fields-inside p l =
        after (code (decoded p p l)) λ min_cb _.
        after (code min_cb) λ diff_cb _.
        after (code diff_cb) λ min_tb _.
        after (code min_tb) λ diff_tb _.
        after (code diff_tb) λ depth _.
        after (one depth) λ sao _.
        after (one sao) λ pcm _.
        after (chosen pcm.value (field 4 pcm) (value _ tt)) λ luma _.
        after (chosen pcm.value (field 4 luma) (value _ tt)) λ chroma _.
        after (chosen pcm.value (code chroma) (value _ tt)) λ min_pcm _.
        after (chosen pcm.value (code min_pcm) (value _ tt)) λ diff_pcm _.
        after (chosen pcm.value (one diff_pcm) (value _ tt)) λ filter _.
        after (one filter) λ strong _.
        after (one strong) λ sps _.
        after (chosen sps.value (one sps) (value _ tt)) λ range _.
        after (chosen sps.value (field 7 range) (value _ tt)) λ seven _.
        after (chosen range.value (nine seven) (value _ tt)) λ _ _.
        value _ tt

  header-inside : (depth p : ℕ) (l : List ℕ) → p + length l ≤ end → Gives end (Inside end) (read_header depth p l)
  unfolding read_header
  header-inside depth p l h =
      let i : p ≤ end = omega arith in
      after (ue7-inside 32 p l h) λ size a.
      after (rule (leb size.value (length size.rest)) 2 p i) λ _ t.
      let n = leb→le size.value (length size.rest) t in
      after (fields-inside p i (8 * size.next) (unpack (take size.value size.rest))) λ fields _.
      after (rule (is_padding fields.rest) 15 p i) λ _ _.
      after (rule (no_forbidden_bit fields.value) 17 p i) λ _ _.
      after (rule (hevc_allowed depth fields.value) 16 p i) λ _ _.
      value _ (omega (arith, n, length-drop size.value size.rest))

  -- ---- the file

  body-inside : (h : Head) (l : List ℕ) → HeadInside end h → h.end + length l ≤ end → Gives end Any (read_body h l)
  unfolding read_body read_alpha_header
  body-inside h l i k =
      let body = drop h.extension_length l in
      after (block_inside h l i k) λ es n.
      let m : h.end + h.extension_length + length body ≤ end = omega (arith, length-drop h.extension_length l) in
      after (rule (not h.flags.animation || has_animation es) 14 5 (omega (arith, i.bytes))) λ _ _.
      after (rule (counts_to_end h.data_length (length body)) 10 h.data_length_at i.data-length) λ _ _.
      after (chosen (has_alpha h.flags) (header-inside (bit_depth h.flags) (h.end + h.extension_length) body m) (value _ m)) λ alpha a.
      after (header-inside (bit_depth h.flags) alpha.next alpha.rest a) λ color b.
      after (rule (data_allowed color.rest) 26 color.next (omega (arith, b))) λ _ _.
      value _ tt

content-inside : (f : List ℕ) → Gives (length f) Any (read_content f)
unfolding read_content
content-inside f =
    after (rule (leb (length f) max_file) 1 0 (omega arith)) λ _ _.
    after (head-inside f (omega arith)) λ h i.
    body-inside h (drop h.end f) i (omega (arith, i.head-end, length-drop h.end f))

pub offset-inside : (f : List ℕ) → (read_file f).offset ≤ length f
unfolding read_file
offset-inside f = by (content-inside f)
  where
    by : {m : Outcome Content} → Gives (length f) Any m → (answer_of m).offset ≤ length f
    by (value c q) = omega arith
    by (refusal s o h) = h
