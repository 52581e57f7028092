-- Numbers of a record that its types hold fit their fields; numbers that fit are those of the record that they give.
use mathlib.Core.Path.{◌≡◌, refl, sym, ap, ap₂, ◌∙◌}
use mathlib.Core.Bool.{Bool, true, false, ◌&&◌}
use mathlib.Core.List.{List, [], ◌∷◌, ◌++◌, map}
use Prim.Native.Nat.{ℕ, zero, suc, ◌+◌, ◌*◌, ◌%◌, ◌^◌, ◌≤◌, ◌<◌}
use native.Mathlib.Nat.{mod-eq_of_lt}
use native.Mathlib.Omega.{arith}
use lib.Dec.{leb, leb→le, eqb}
use lib.ListN.{length, take, drop, get_or}
use lib.Seq.{get_or-drop}
use borrow.Author.Tests.{le-leb}
use Rattle.bpg_codec.specs.Bits.{bit}
use Rattle.bpg_codec.specs.Lawful.{All}
use Rattle.bpg_codec.proofs.Lists.{by_length}
use Rattle.bpg_format.specs.declared.record.Entry.{Entry}
use Rattle.bpg_format.specs.declared.record.Header.{Header}
use Rattle.bpg_format.specs.declared.record.Record.{Record}
use Rattle.bpg_export_list.specs.Numbers.{head_numbers, animation_numbers, header_numbers, range_numbers, entry_numbers, entries_numbers}
use Rattle.bpg_import_list.specs.Fields.{range_at, range_flags_at, header_at, list_entries, list_record}
use Rattle.bpg_import_list.specs.Calls.{flag, byte, word, head_fields, header_fields, range_fields, within, words}
use Rattle.bpg_import_list.specs.Typing.{OfBits, TypedHeader, TypedRecord}
use Rattle.bpg_import_list.proofs.FieldLaws.{entries_from}

-- ---- numbers that are at most what their fields hold

abbrev pub Fit : (fields a : List ℕ) → Type 0
Fit [] [] = Unit {0}
Fit [] (x ∷ a) = ⊥
Fit (m ∷ ms) [] = ⊥
Fit (m ∷ ms) (x ∷ a) = (x ≤ m) × Fit ms a

pub fit-within : (fields a rest : List ℕ) → Fit fields a → within fields (a ++ rest) ≡ true
unfolding within
fit-within [] [] rest f = refl
fit-within [] (x ∷ a) rest f = absurd f
fit-within (m ∷ ms) [] rest f = absurd f
fit-within (m ∷ ms) (x ∷ a) rest f = rw (le-leb x m f.0) (fit-within ms a rest f.1)

bit-small : (t : Bool) → bit t ≤ 1
bit-small true = omega arith
bit-small false = omega arith

pub head-fit : (r : Record) → TypedRecord r → Fit head_fields (head_numbers r ++ animation_numbers r)
head-fit r t =
    omega (
      arith,
      t.flags,
      t.size,
      t.control,
      bit-small r.alpha1_flag,
      bit-small r.extension_present_flag,
      bit-small r.alpha2_flag,
      bit-small r.limited_range_flag,
      bit-small r.animation_flag,
      bit-small r.explicit_length,
    )

-- a header's numbers before the nine flags
abbrev front : List ℕ
front = word ∷ word ∷ word ∷ word ∷ word ∷ flag ∷ flag ∷ byte ∷ byte ∷ word ∷ word ∷ flag ∷ flag ∷ flag ∷ flag ∷ byte ∷ []

fit_append : (a b x y : List ℕ) → Fit a x → Fit b y → Fit (a ++ b) (x ++ y)
fit_append [] b [] y f g = g
fit_append [] b (n ∷ x) y f g = absurd f
fit_append (m ∷ a) b [] y f g = absurd f
fit_append (m ∷ a) b (n ∷ x) y f g = (f.0, fit_append a b x y f.1 g)

abbrev nine : List ℕ
nine = flag ∷ flag ∷ flag ∷ flag ∷ flag ∷ flag ∷ flag ∷ flag ∷ flag ∷ []

nine-fit : (l : List Bool) → length l ≡ 9 → Fit nine (map bit l)
nine-fit =
    by_length 9 (λ l. Fit nine (map bit l))
    (λ a b c d e f g h i.
    (bit-small a, (bit-small b, (bit-small c, (bit-small d, (bit-small e, (bit-small f, (bit-small g, (bit-small h, (bit-small i, tt))))))))))

abbrev front_numbers : Header → List ℕ
front_numbers h =
    h.log2_min_luma_coding_block_size_minus3 ∷ h.log2_diff_max_min_luma_coding_block_size
    ∷ h.log2_min_transform_block_size_minus2 ∷ h.log2_diff_max_min_transform_block_size
    ∷ h.max_transform_hierarchy_depth_intra ∷ bit h.sample_adaptive_offset_enabled_flag
    ∷ bit h.pcm_enabled_flag ∷ h.pcm_sample_bit_depth_luma_minus1 ∷ h.pcm_sample_bit_depth_chroma_minus1
    ∷ h.log2_min_pcm_luma_coding_block_size_minus3 ∷ h.log2_diff_max_min_pcm_luma_coding_block_size
    ∷ bit h.pcm_loop_filter_disabled_flag ∷ bit h.strong_intra_smoothing_enabled_flag
    ∷ bit h.sps_extension_present_flag ∷ bit h.sps_range_extension_flag ∷ h.sps_extension_7bits ∷ []

front-fit : (h : Header) → TypedHeader h → Fit front (front_numbers h)
front-fit h t =
    omega (
      arith,
      t.blocks,
      t.pcm-blocks,
      t.depths,
      t.seven-bits,
      bit-small h.sample_adaptive_offset_enabled_flag,
      bit-small h.pcm_enabled_flag,
      bit-small h.pcm_loop_filter_disabled_flag,
      bit-small h.strong_intra_smoothing_enabled_flag,
      bit-small h.sps_extension_present_flag,
      bit-small h.sps_range_extension_flag,
    )

pub header-fit : (h : Header) → TypedHeader h → Fit header_fields (header_numbers h)
unfolding header_numbers
header-fit h t = fit_append front nine (front_numbers h) (map bit h.range_flags) (front-fit h t) (nine-fit h.range_flags t.nine)

pub words-fit : (es : List Entry) → All (λ (e : Entry). OfBits 32 (entry_numbers e)) es → words (entries_numbers es) ≡ true
unfolding words entries_numbers
words-fit [] a = refl
words-fit (e ∷ es) a =
    rw (
      le-leb e.tag word (omega (arith, a.0)),
      le-leb e.payload.start word (omega (arith, a.0)),
      le-leb e.payload.length word (omega (arith, a.0)),
      le-leb e.tag_offset word (omega (arith, a.0)),
    )
    (words-fit es a.1)

-- ---- numbers cut to their fields, which are the record's

abbrev pub cut : (fields l : List ℕ) → List ℕ
cut [] l = []
cut (m ∷ ms) l = get_or l 0 0 % (m + 1) ∷ cut ms (drop 1 l)

pub and-true : (s t : Bool) → (s && t) ≡ true → (s ≡ true) × (t ≡ true)
and-true true t e = (refl, e)
and-true false t e = absurd (omega (arith, ap bit e))

pub le : (a b : ℕ) → leb a b ≡ true → a ≤ b
le a b e = leb→le a b (rw e tt)

-- those that fit are not changed
pub cut_fits : (fields l : List ℕ) → within fields l ≡ true → length fields ≤ length l → cut fields l ≡ take (length fields) l
unfolding within
cut_fits [] l w h = refl
cut_fits (m ∷ ms) [] w h = absurd (omega arith)
cut_fits (m ∷ ms) (x ∷ l) w h =
    let a = and-true (leb x m) (within ms l) w in
    ap₂ (λ (n : ℕ) (k : List ℕ). n ∷ k) (mod-eq_of_lt (omega (arith, le x m a.0))) (cut_fits ms l a.1 (omega arith))

flag-number : (n : ℕ) → n < 2 → bit (eqb n 1) ≡ n
flag-number zero h = refl
flag-number (suc zero) h = refl
flag-number (suc (suc n)) h = absurd (omega arith)

flag-cut : (x : ℕ) → bit (eqb (x % 2) 1) ≡ x % 2
flag-cut x = flag-number (x % 2) (omega arith)

pub head-cut : (l : List ℕ) → head_numbers (list_record l) ++ animation_numbers (list_record l) ≡ cut head_fields l
unfolding list_record
head-cut l = simp (get_or-drop, flag-cut)

pub header-cut : (l : List ℕ) → header_numbers (header_at l 0) ≡ cut header_fields l
unfolding header_numbers header_at range_flags_at
header-cut l = simp (get_or-drop, flag-cut)

pub range-cut : (l : List ℕ) → range_numbers (range_at l 0) ≡ cut range_fields l
range-cut l = simp get_or-drop

word_kept : (x : ℕ) → leb x word ≡ true → x % 2 ^ 32 ≡ x
word_kept x e = mod-eq_of_lt (omega (arith, le x word e))

four : {a b c d w x y z : ℕ} {l m : List ℕ} → a ≡ w → b ≡ x → c ≡ y → d ≡ z → l ≡ m → ◌≡◌ {A = List ℕ} (a ∷ b ∷ c ∷ d ∷ l) (w ∷ x ∷ y ∷ z ∷ m)
four p q r s t = λ i. p i ∷ q i ∷ r i ∷ s i ∷ t i

pub entries-cut : (n : ℕ) (l : List ℕ) → 4 * n ≤ length l → words (take (4 * n) l) ≡ true → entries_numbers (list_entries l 0 n) ≡ take (4 * n) l
unfolding words entries_numbers list_entries
entries-cut zero l h w = refl
entries-cut (suc n) [] h w = absurd (omega arith)
entries-cut (suc n) (x ∷ []) h w = absurd (omega arith)
entries-cut (suc n) (x ∷ y ∷ []) h w = absurd (omega arith)
entries-cut (suc n) (x ∷ y ∷ z ∷ []) h w = absurd (omega arith)
entries-cut (suc n) (x ∷ y ∷ z ∷ u ∷ l) h w =
    let all = x ∷ y ∷ z ∷ u ∷ l in
    let k : 4 * suc n ≡ suc (suc (suc (suc (4 * n)))) = omega arith in
    let v = ap (λ (i : ℕ). words (take i all)) (sym k) ∙ w in
    let a = and-true (leb x word) _ v in
    let b = and-true (leb y word) _ a.1 in
    let c = and-true (leb z word) _ b.1 in
    let d = and-true (leb u word) (words (take (4 * n) l)) c.1 in
    let tail = ap entries_numbers (entries_from all 4 0 n) ∙ entries-cut n l (omega arith) d.1 in
    four (word_kept x a.0) (word_kept y b.0) (word_kept z c.0) (word_kept u d.0) tail ∙ ap (λ (i : ℕ). take i all) (sym k)
