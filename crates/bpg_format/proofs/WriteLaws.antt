-- The writer's tests, in its order, pass exactly for contents that keep the rules.
use mathlib.Core.Path.{◌≡◌, refl, sym, ap, ◌∙◌, subst}
use mathlib.Core.Bool.{Bool, true, false, not, ◌&&◌, ◌||◌, or-true}
use mathlib.Core.List.{List, [], ◌∷◌}
use Prim.Native.Nat.{ℕ, ◌^◌, ◌<◌}
use lib.Dec.{T, eqb_refl, eqb}
use lib.ListN.{length}
use Rattle.bpg_codec.specs.Select.{select}
use Rattle.bpg_codec.specs.Outcome.{Outcome, ok, error}
use Rattle.bpg_codec.specs.Lawful.{All, Byte}
use Rattle.bpg_codec.specs.Bits.{all_zero}
use Rattle.bpg_codec.proofs.Select.{select-true, is_true, and_both, and_left, and_right}
use Rattle.bpg_codec.proofs.Outcome.{error-not-ok, unbind, unguard, guard-holds}
use Rattle.bpg_format.specs.declared.record.Header.{Header}
use Rattle.bpg_format.specs.Zero.{zero_header}
use Rattle.bpg_format.specs.Content.{Extension, AnimationControl}
use Rattle.bpg_format.specs.Rules.{NoPcm, NoSpsExtension, FieldRules, HeaderRules, AnimationPayload, is_animation, ExtensionRules, has_animation, OneAnimation}
use Rattle.bpg_format.specs.Tests.{no_forbidden_bit, hevc_allowed}
use Rattle.bpg_format.specs.Read.{read_animation}
use Rattle.bpg_format.specs.FileCodec.{header_from, fields_of}
use Rattle.bpg_format.specs.Write.{pcm_zero, absent_zero, header_zero, same_animation, at_zero, check_animation, check_entries, fields_coded, check_header}
use Rattle.bpg_format.proofs.HeaderRuleLaws.{passed, passes, by_flag, nine-zeros, forbidden-sound, forbidden-full, hevc-sound, hevc-full}
use Rattle.bpg_format.proofs.RuleLaws.{loop-reads, loop-read, none_seen, seen-head, seen-tail}

-- either flag, or a test
pub or-test : (a b : Bool) → T (a || b) → a ≡ false → T b
or-test a b t e = rw e at t

pub or-full : (a b : Bool) → (a ≡ false → T b) → T (a || b)
or-full true b f = tt
or-full false b f = f refl

-- either flag, or both of two tests: each of them by itself
or_left : (a b c : Bool) → T (a || (b && c)) → T (a || b)
or_left true b c t = tt
or_left false b c t = and_left b c t

or_right : (a b c : Bool) → T (a || (b && c)) → T (a || c)
or_right true b c t = tt
or_right false b c t = and_right b c t

-- ---- absent fields

module _ (h : Header) where
  pcm-full : NoPcm h → T (pcm_zero h)
  pcm-full r = search passes

  sps-full : NoSpsExtension h → T (not h.sps_range_extension_flag && eqb h.sps_extension_7bits 0)
  sps-full r = search passes

  pub record Absent : Type 0 where
    pub no-pcm : h.pcm_enabled_flag ≡ false → NoPcm h
    pub no-extension : h.sps_extension_present_flag ≡ false → NoSpsExtension h
    pub no-range : h.sps_range_extension_flag ≡ false → T (all_zero h.range_flags)

  pub absent-sound : T (absent_zero h) → Absent
  unfolding absent_zero
  absent-sound t = search (passed, or-test, or_left, or_right)

  pub absent-full : Absent → T (absent_zero h)
  unfolding absent_zero
  absent-full r = search (passes, or-full, pcm-full, sps-full, r.no-pcm, r.no-extension, r.no-range)

  -- ---- headers: 15, 17, 16

  fields-sound : T (fields_coded h) → Absent → length h.range_flags ≡ 9 → FieldRules h
  unfolding fields_coded
  fields-sound t r n = search (passed, or_left, or_right, nine-zeros, r.no-range)

  fields-full : FieldRules h → fields_coded h ≡ true
  unfolding fields_coded
  fields-full r = is_true _ (search (passes, r.min-pcm, r.diff-pcm) depth 9)

  pub absent-of : FieldRules h → Absent
  absent-of r = record { no-pcm = r.no-pcm; no-extension = r.no-extension; no-range = λ e. rw (r.no-range e) tt }

  pub header-checked : (depth : ℕ) → check_header depth h ≡ ok tt → Absent → length h.range_flags ≡ 9 → HeaderRules depth h
  unfolding check_header
  header-checked depth e r n =
      unguard (fields_coded h) 15 0 _ e λ t1 e1.
      unguard (no_forbidden_bit h) 17 0 _ e1 λ t2 e2.
      record { fields = fields-sound t1 r n; forbidden = forbidden-sound h t2; hevc = hevc-sound depth h (guard-holds (hevc_allowed depth h) 16 0 e2) }

  pub header-passes : (depth : ℕ) → HeaderRules depth h → check_header depth h ≡ ok tt
  unfolding check_header
  header-passes depth r = rw (fields-full r.fields, is_true (no_forbidden_bit h) (forbidden-full h r.forbidden), is_true (hevc_allowed depth h) (hevc-full depth h r.hevc))

-- ---- an absent alpha header

pub header-zero-sound : (h : Header) → T (header_zero h) → length h.range_flags ≡ 9 → h ≡ zero_header
unfolding header_zero
header-zero-sound h t n =
    let z : (h.log2_min_luma_coding_block_size_minus3 ≡ 0) × (h.log2_diff_max_min_luma_coding_block_size ≡ 0)
    × (h.log2_min_transform_block_size_minus2 ≡ 0) × (h.log2_diff_max_min_transform_block_size ≡ 0)
    × (h.max_transform_hierarchy_depth_intra ≡ 0) × (h.sample_adaptive_offset_enabled_flag ≡ false) × (h.pcm_enabled_flag ≡ false)
    × (h.strong_intra_smoothing_enabled_flag ≡ false) × (h.sps_extension_present_flag ≡ false) × T (absent_zero h) = search passed depth 12 in
    let a = absent-sound h z.9 in
    let pcm = a.no-pcm z.6 in
    let sps = a.no-extension z.8 in
    let nine = nine-zeros h.range_flags n (a.no-range sps.range-flag) in
    let fields : fields_of h ≡ fields_of zero_header = cc in
    ap header_from fields

pub zero-absent : T (absent_zero zero_header)
unfolding absent_zero
zero-absent = tt

pub header-zero-full : (h : Header) → h ≡ zero_header → T (header_zero h)
unfolding header_zero absent_zero
header-zero-full h e = subst (λ (x : Header). T (header_zero x)) (sym e) tt

-- ---- the entries: 13, a tag 5 payload's refusals, 19

at_zero-ok : {A : Type 0} (m : Outcome A) (a : A) → at_zero m ≡ ok a → m ≡ ok a
at_zero-ok (ok b) a e = e
at_zero-ok (error s o) a e = absurd (error-not-ok e)

pub same-loop : (p q : AnimationControl) → T (same_animation p q) → p ≡ q
same-loop p q t =
    let e : (p.count ≡ q.count) × (p.period_num ≡ q.period_num) × (p.period_den ≡ q.period_den) = search passed in
    λ z. record { count = e.0 z; period_num = e.1 z; period_den = e.2 z }

loop-same : (p : AnimationControl) → same_animation p p ≡ true
loop-same p = is_true _ (search (and_both, eqb_refl))

-- a payload that passes holds the loop numbers
loop-checked : (p : AnimationControl) (l : List ℕ) → All Byte l → check_animation p l ≡ ok tt → (dummy : List ℕ) × AnimationPayload l p dummy
unfolding check_animation
loop-checked p l h e =
    unbind (at_zero (read_animation 0 l)) _ e λ x e1 e2.
    rw (same-loop p x (guard-holds (same_animation p x) 19 0 e2)) (loop-read l h 0 x (at_zero-ok (read_animation 0 l) x e1))

loop-passes : (p : AnimationControl) (l dummy : List ℕ) → AnimationPayload l p dummy → check_animation p l ≡ ok tt
unfolding check_animation
loop-passes p l dummy r = rw (loop-reads l p dummy r 0, loop-same p)

pub record Checked (p : AnimationControl) (seen : Bool) (es : List Extension) : Type 0 where
  pub entries : All (ExtensionRules p) es
  pub one-animation : OneAnimation es
  pub no_more : seen ≡ true → has_animation es ≡ false

entry-checked : (p : AnimationControl) (e : Extension) → e.tag < 2 ^ 32 → All Byte e.payload → select (is_animation e) (check_animation p e.payload) (ok tt) ≡ ok tt → ExtensionRules p e
entry-checked p e t h k = record { tag = t; bytes = h; control = λ l. loop-checked p e.payload h (sym (select-true _ _ l) ∙ k) }

abbrev pub TypedExtension : Extension → Type 0
TypedExtension e = (e.tag < 2 ^ 32) × All Byte e.payload

pub entries-checked : (p : AnimationControl) (seen : Bool) (es : List Extension) → All TypedExtension es → check_entries p seen es ≡ ok tt → Checked p seen es
unfolding check_entries
entries-checked p seen [] h e = record { entries = tt; one-animation = tt; no_more = λ s. refl }
entries-checked p seen (x ∷ es) h e =
    unguard (not (seen && is_animation x)) 13 0 _ e λ t e1.
    unbind (select (is_animation x) (check_animation p x.payload) (ok tt)) _ e1 λ u e2 e3.
    let ih = entries-checked p (seen || is_animation x) es h.1 e3 in
    record {
      entries = (entry-checked p x h.0.0 h.0.1 e2, ih.entries);
      one-animation = ((λ l. ih.no_more (rw l (or-true seen))), ih.one-animation);
      no_more = λ s. let n = none_seen seen (is_animation x) t s in rw n (ih.no_more (rw s));
    }

pub entries-pass : (p : AnimationControl) (seen : Bool) (es : List Extension) → All (ExtensionRules p) es → OneAnimation es → (seen ≡ true → has_animation es ≡ false) → check_entries p seen es ≡ ok tt
unfolding check_entries
entries-pass p seen [] r o f = refl
entries-pass p seen (e ∷ es) r o f =
    let n = is_true (not (seen && is_animation e)) (seen-head seen (is_animation e) (has_animation es) f) in
    let l = by_flag (λ (o : Outcome Unit). o ≡ ok tt) (is_animation e) (check_animation p e.payload) (ok tt) (λ l. let d = r.0.control l in loop-passes p e.payload d.0 d.1) (λ _. refl) in
    rw (n, l)
    (entries-pass p (seen || is_animation e) es r.1 o.1 (seen-tail seen (is_animation e) (has_animation es) f o.0))
