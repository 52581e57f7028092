-- The writer's definition answers 0 exactly for writable records, and then the bytes are the syntax's file.
use mathlib.Core.Path.{◌≡◌, refl, sym, ap, ◌∙◌}
use mathlib.Core.Bool.{true, false, not, ◌&&◌, ◌||◌}
use mathlib.Core.List.{List, [], ◌∷◌, map}
use Prim.Native.Nat.{ℕ, ◌+◌, ◌^◌, ◌≤◌, ◌<◌}
use native.Mathlib.Omega.{arith}
use lib.Dec.{T, leb, leb→le}
use lib.ListN.{length, drop, replicate, length-map, length-take}
use lib.Seq.{drop_at}
use mir.Facts.{eqb_no, no_eqb}
use borrow.Author.Tests.{le-leb}
use Rattle.bpg_codec.specs.Select.{select}
use Rattle.bpg_codec.specs.Outcome.{Outcome, ok, ◌>>=◌}
use Rattle.bpg_codec.specs.Lawful.{All, Byte}
use Rattle.bpg_codec.proofs.Select.{select-true, is_true, and_both, and_left, and_right}
use Rattle.bpg_codec.proofs.Outcome.{ok-injective, unbind, unguard, guard-holds}
use Rattle.bpg_codec.proofs.Tokens.{all_take, all_drop, all_replicate}
use Rattle.bpg_ue7.specs.Ue7.{ue7_bytes, not_zero}
use Rattle.bpg_format.specs.Limits.{max_entries, max_file}
use Rattle.bpg_format.specs.declared.record.Entry.{Entry}
use Rattle.bpg_format.specs.declared.record.Record.{Record}
use Rattle.bpg_format.specs.Zero.{zero_entry, zero_header}
use Rattle.bpg_format.specs.Content.{is_empty, Extension, Content, has_alpha, bit_depth}
use Rattle.bpg_format.specs.Syntax.{block_bytes, file_of}
use Rattle.bpg_format.specs.Rules.{HeaderRules, has_animation, no_animation, Rules}
use Rattle.bpg_format.specs.Tests.{color_space_allowed, data_allowed}
use Rattle.bpg_format.specs.Records.{entries_at, block_start, record_of, extension_of, used_entries, content_of}
use Rattle.bpg_format.specs.Write.{in_source, entries_in_source, ranges_in_source, is_zero, zero_entries, unused_zero, absent_zero, same_animation, consistent, check_entries}
use Rattle.bpg_format.specs.Write.{check_header, check_content, check_record, sized_file, write_outcome, Typed, ZeroEntry, Writable}
use Rattle.bpg_format.proofs.HeaderRuleLaws.{unless-full, passed, by_flag}
use Rattle.bpg_format.proofs.DataRuleLaws.{data-sound, data-full}
use Rattle.bpg_format.proofs.RuleLaws.{bool-apart, by-tag, flags-sound, flags_full, entry-size}
use Rattle.bpg_format.proofs.RecordLaws.{used-entries, entries-length, content-record}
use Rattle.bpg_format.proofs.RangeLaws.{start-after, data-end}
use Rattle.bpg_format.proofs.WriteLaws.{same-loop, or-test, or-full, Absent, absent-sound, absent-full, absent-of, header-zero-sound, header-zero-full}
use Rattle.bpg_format.proofs.WriteLaws.{zero-absent, header-checked, header-passes, TypedExtension, entries-checked, entries-pass}

-- ---- the content

pub empty-is : (es : List Extension) → T (is_empty es) → es ≡ []
empty-is [] t = refl
empty-is (e ∷ es) t = absurd t

-- what a content has by the types of its record
pub record TypedContent (c : Content) : Type 0 where
  pub width : c.width < 2 ^ 32
  pub height : c.height < 2 ^ 32
  pub few : length c.extensions ≤ max_entries
  pub extensions : All TypedExtension c.extensions
  pub alpha-nine : length c.alpha_header.range_flags ≡ 9
  pub color-nine : length c.color_header.range_flags ≡ 9
  pub data-bytes : All Byte c.hevc_data

-- 19
record Consistent (c : Content) : Type 0 where
  absent-block : c.flags.extension_present ≡ false → c.extensions ≡ []
  no-animation : has_animation c.extensions ≡ false → c.control ≡ no_animation
  no-alpha : has_alpha c.flags ≡ false → c.alpha_header ≡ zero_header
  alpha : Absent c.alpha_header
  color : Absent c.color_header

consistent-sound : (c : Content) → TypedContent c → T (consistent c) → Consistent c
unfolding consistent
consistent-sound c h t = search (passed, or-test, empty-is, same-loop, header-zero-sound, absent-sound)

alpha-absent : (c : Content) → Rules c → T (absent_zero c.alpha_header)
alpha-absent c r =
    by-tag (has_alpha c.flags) (λ a. absent-full c.alpha_header (absent-of c.alpha_header (r.alpha-header a).fields))
    (λ a. rw (r.no-alpha a) zero-absent)

consistent-full : (c : Content) → Rules c → consistent c ≡ true
unfolding consistent
consistent-full c r =
    let block : T (c.flags.extension_present || is_empty c.extensions) = or-full _ _ (λ e. rw (r.absent-block e) tt) in
    let loop : T (has_animation c.extensions || same_animation c.control no_animation) = or-full _ _ (λ e. rw (r.no-animation e) tt) in
    is_true _ (search (and_both, or-full, header-zero-full, r.no-alpha, alpha-absent, absent-full, absent-of) depth 8)

content-checked : (c : Content) → TypedContent c → T (consistent c) → check_content c ≡ ok tt → length (file_of c) ≤ max_file → Rules c
unfolding check_content
content-checked c h k e s =
    let a = consistent-sound c h k in
    unguard (leb c.flags.pixel_format 5) 4 0 _ e λ t1 e1.
    unguard (leb c.flags.bit_depth_minus8 6) 5 0 _ e1 λ t2 e2.
    unguard (color_space_allowed c.flags) 6 0 _ e2 λ t3 e3.
    unguard (not_zero c.width) 9 0 _ e3 λ t4 e4.
    unguard (not_zero c.height) 9 0 _ e4 λ t5 e5.
    unbind (check_entries c.control false c.extensions) _ e5 λ u e6 e7.
    unguard (not c.flags.animation || has_animation c.extensions) 14 0 _ e7 λ t8 e8.
    unbind (select (has_alpha c.flags) (check_header (bit_depth c.flags) c.alpha_header) (ok tt)) _ e8 λ v e9 e10.
    let es = entries-checked c.control false c.extensions h.extensions e6 in
    let alpha : has_alpha c.flags ≡ true → HeaderRules (bit_depth c.flags) c.alpha_header =
    λ f. header-checked c.alpha_header _ (sym (select-true _ _ f) ∙ e9) a.alpha h.alpha-nine in
    unbind (check_header (bit_depth c.flags) c.color_header) _ e10 λ w e11 e12.
    let color = header-checked c.color_header _ e11 a.color h.color-nine in
    let start = data-sound c.hevc_data (guard-holds (data_allowed c.hevc_data) 26 0 e12) in
    search (passed, is_true, eqb_no, flags-sound)

content-passes : (c : Content) → Rules c → check_content c ≡ ok tt
unfolding check_content
content-passes c r =
    let f = flags_full c.flags r.pixel-format r.bit-depth r.color-space r.gray in
    let alpha = by_flag (λ (o : Outcome Unit). o ≡ ok tt) (has_alpha c.flags) _ (ok tt) (λ a. header-passes c.alpha_header (bit_depth c.flags) (r.alpha-header a)) (λ _. refl) in
    rw (
      le-leb _ _ r.pixel-format,
      le-leb _ _ r.bit-depth,
      is_true (color_space_allowed c.flags) f.color-space,
      is_true (not_zero c.width) (no_eqb r.width-not-zero),
      is_true (not_zero c.height) (no_eqb r.height-not-zero),
      entries-pass c.control false c.extensions r.entries r.one-animation (λ e. bool-apart e refl),
      is_true (not c.flags.animation || has_animation c.extensions) (unless-full c.flags.animation (has_animation c.extensions) (λ a. rw (r.animated a) tt)),
      alpha,
      header-passes c.color_header (bit_depth c.flags) r.color-header,
      is_true (data_allowed c.hevc_data) (data-full c.hevc_data r.data-start),
    )

-- ---- the record

pub in-source-sound : (source : List ℕ) (es : List Entry) → T (entries_in_source source es) → All (λ (e : Entry). e.payload.start + e.payload.length ≤ length source) es
in-source-sound source [] t = tt
in-source-sound source (e ∷ es) t =
    (leb→le _ _ (and_left (in_source source e.payload) _ t), in-source-sound source es (and_right (in_source source e.payload) _ t))

in-source-full : (source : List ℕ) (es : List Entry) → All (λ (e : Entry). e.payload.start + e.payload.length ≤ length source) es → entries_in_source source es ≡ true
in-source-full source [] h = refl
in-source-full source (e ∷ es) h = rw (le-leb _ _ h.0) (in-source-full source es h.1)

zero-sound : (es : List Entry) → T (zero_entries es) → All ZeroEntry es
zero-sound [] t = tt
zero-sound (e ∷ es) t = (same e (and_left (is_zero e) _ t), zero-sound es (and_right (is_zero e) _ t))
  where
    same : (e : Entry) → T (is_zero e) → ZeroEntry e
    same e t =
        let q : (e.tag ≡ 0) × (e.payload.start ≡ 0) × (e.payload.length ≡ 0) = search passed in
        (q.0, λ z. record { start = q.1 z; length = q.2 z })

zero-full : (es : List Entry) → All ZeroEntry es → zero_entries es ≡ true
zero-full [] h = refl
zero-full (e ∷ es) h = rw (h.0.0, h.0.1) (zero-full es h.1)

typed-extensions : (source : List ℕ) → All Byte source → (es : List Entry) → All (λ (e : Entry). e.tag < 2 ^ 32) es → All TypedExtension (map (extension_of source) es)
typed-extensions source h [] t = tt
typed-extensions source h (e ∷ es) t =
    ((t.0, all_take Byte e.payload.length _ (all_drop Byte e.payload.start source h)), typed-extensions source h es t.1)

module _ (r : Record) (source : List ℕ) (typed : Typed r) (bytes : All Byte source) where
  typed-content : r.entry_count ≤ max_entries → TypedContent (content_of r source)
  unfolding content_of
  typed-content h =
      let few : length (map (extension_of source) (used_entries r)) ≤ max_entries = rw (length-map (used_entries r) (extension_of source), length-take) (omega arith) in
      search (typed-extensions, all_take, all_drop)

  -- what is written is the file of a writable record
  pub written-sound : (capacity : ℕ) (l : List ℕ) → write_outcome capacity r source ≡ ok l → Writable capacity r source × (l ≡ file_of (content_of r source))
  unfolding write_outcome check_record sized_file ranges_in_source unused_zero
  written-sound capacity l e =
      let c = content_of r source in
      unbind (check_record r source) _ e λ u e1 e5.
      unguard (leb r.entry_count max_entries) 11 0 _ e1 λ t1 e2.
      unguard (ranges_in_source source r) 18 0 _ e2 λ t2 e3.
      unguard (unused_zero r && consistent c) 19 0 _ e3 λ t3 e4.
      unguard (leb (length (file_of c)) max_file) 1 0 _ e5 λ t6 e6.
      unguard (leb (length (file_of c)) capacity) 20 0 _ e6 λ t7 e7.
      let few = leb→le r.entry_count max_entries t1 in
      let rules = content-checked c (typed-content few) (and_right (unused_zero r) _ t3) e4 (leb→le _ _ t6) in
      (search (passed, in-source-sound, zero-sound), sym (ok-injective e7))

pub write-checks : (capacity : ℕ) (r : Record) (source : List ℕ)
    → write_outcome capacity r source ≡ (check_record r source >>= λ _. sized_file capacity (content_of r source))
unfolding write_outcome
write-checks capacity r source = refl

pub written-full : (capacity : ℕ) (r : Record) (source : List ℕ) → Writable capacity r source → write_outcome capacity r source ≡ ok (file_of (content_of r source))
unfolding write_outcome check_record sized_file ranges_in_source unused_zero
written-full capacity r source w =
    rw (
      le-leb _ _ w.few,
      in-source-full source (used_entries r) w.payloads,
      le-leb _ _ w.data-range,
      zero-full (drop r.entry_count r.entries) w.unused,
      consistent-full (content_of r source) w.rules,
      content-passes (content_of r source) w.rules,
      le-leb _ _ w.rules.size,
      le-leb _ _ w.holds,
    )

-- ---- the record of an accepted file is written over that file, as that file

entries-within : (es : List Extension) (p n : ℕ) → p + length (block_bytes es) ≤ n → All (λ (e : Entry). e.payload.start + e.payload.length ≤ n) (entries_at p es)
entries-within [] p n h = tt
entries-within (x ∷ es) p n h =
    let tag = ue7_bytes x.tag in
    let size = ue7_bytes (length x.payload) in
    let whole = entry-size x es in
    (omega arith, entries-within es (p + length tag + length size + length x.payload) n (omega arith))

padding-zero : (n : ℕ) → All ZeroEntry (replicate n zero_entry)
padding-zero n = all_replicate ZeroEntry n zero_entry (refl, refl)

pub record-writable : (c : Content) → Rules c → (capacity : ℕ) → length (file_of c) ≤ capacity → Writable capacity (record_of c) (file_of c)
unfolding record_of
record-writable c r capacity h =
    let same = content-record c r in
    let size = data-end c r in
    record {
      few = r.entry-limit;
      payloads = rw used-entries (entries-within c.extensions (block_start c) (length (file_of c)) (omega (arith, start-after c)));
      data-range = omega arith;
      unused = rw (drop_at (entries_at (block_start c) c.extensions) _ (length c.extensions) (entries-length (block_start c) c.extensions)) (search padding-zero);
      rules = rw same r;
      holds = rw same h;
    }

pub record-written : (c : Content) → Rules c → (capacity : ℕ) → length (file_of c) ≤ capacity → write_outcome capacity (record_of c) (file_of c) ≡ ok (file_of c)
record-written c r capacity h =
    written-full capacity (record_of c) (file_of c) (record-writable c r capacity h) ∙ ap {B = Outcome (List ℕ)} (λ (d : Content). ok (file_of d)) (content-record c r)
