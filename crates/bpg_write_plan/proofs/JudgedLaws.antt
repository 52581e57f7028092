-- What is known of a record that passed the judging.
use mathlib.Core.Path.{◌≡◌, sym, ◌∙◌}
use mathlib.Core.Bool.{true, false, not, ◌&&◌, ◌||◌}
use mathlib.Core.List.{List, [], map}
use Prim.Native.Nat.{ℕ, ◌+◌, ◌≤◌}
use lib.Dec.{leb, leb→le}
use lib.ListN.{length, get_or}
use Rattle.bpg_codec.specs.Select.{select}
use Rattle.bpg_codec.specs.Outcome.{ok}
use Rattle.bpg_codec.specs.Lawful.{All}
use Rattle.bpg_codec.proofs.Select.{select-true, and_left, and_right}
use Rattle.bpg_codec.proofs.Outcome.{unguard, unbind, guard-holds}
use Rattle.bpg_ue7.specs.Ue7.{not_zero}
use Rattle.bpg_format.specs.Limits.{max_entries}
use Rattle.bpg_format.specs.declared.record.Header.{Header}
use Rattle.bpg_format.specs.declared.record.Record.{Record}
use Rattle.bpg_format.specs.Zero.{zero_header}
use Rattle.bpg_format.specs.Content.{is_empty}
use Rattle.bpg_format.specs.Tests.{color_space_allowed, no_forbidden_bit, hevc_allowed}
use Rattle.bpg_format.specs.Rules.{HevcRules, has_animation}
use Rattle.bpg_format.specs.Records.{used_entries, extension_of, content_of}
use Rattle.bpg_format.specs.Write.{entries_in_source, in_source, ranges_in_source, unused_zero, consistent, fields_coded, check_header, check_entries, check_content, check_record}
use Rattle.bpg_format.proofs.HeaderRuleLaws.{hevc-sound}
use Rattle.bpg_format.proofs.WriteLaws.{or-test}
use Rattle.bpg_format.proofs.Writing.{empty-is, in-source-sound}
use Rattle.bpg_write_plan.specs.FileParts.{RangeInside}

pub record Judged (r : Record) (source : List ℕ) : Type 0 where
  pub few : r.entry_count ≤ max_entries
  pub payloads : All (RangeInside (length source)) (used_entries r)
  pub data-inside : r.«data».start + r.«data».length ≤ length source
  pub no_block : r.extension_present_flag ≡ false → map (extension_of source) (used_entries r) ≡ []
  pub format : r.pixel_format ≤ 5
  pub depth : r.bit_depth_minus_8 ≤ 6
  pub space : r.color_space ≤ 4
  pub alpha-rules : (r.alpha1_flag || r.alpha2_flag) ≡ true → HevcRules (r.bit_depth_minus_8 + 8) (get_or r.headers 0 zero_header)
  pub color-rules : HevcRules (r.bit_depth_minus_8 + 8) (get_or r.headers 1 zero_header)

header-keeps : (depth : ℕ) (h : Header) → check_header depth h ≡ ok tt → HevcRules depth h
unfolding check_header
header-keeps depth h e =
    unguard (fields_coded h) 15 0 _ e λ _ e1.
    unguard (no_forbidden_bit h) 17 0 _ e1 λ _ e2.
    hevc-sound depth h (guard-holds (hevc_allowed depth h) 16 0 e2)

module _ (r : Record) (source : List ℕ) where
  -- what the rules in file order say of the record
  record Kept : Type 0 where
    format : r.pixel_format ≤ 5
    depth : r.bit_depth_minus_8 ≤ 6
    space : r.color_space ≤ 4
    alpha : (r.alpha1_flag || r.alpha2_flag) ≡ true → HevcRules (r.bit_depth_minus_8 + 8) (get_or r.headers 0 zero_header)
    color : HevcRules (r.bit_depth_minus_8 + 8) (get_or r.headers 1 zero_header)

  kept : check_content (content_of r source) ≡ ok tt → Kept
  unfolding check_content content_of
  kept e =
      let c = content_of r source in
      unguard (leb r.pixel_format 5) 4 0 _ e λ a e1.
      unguard (leb r.bit_depth_minus_8 6) 5 0 _ e1 λ b e2.
      unguard (color_space_allowed c.flags) 6 0 _ e2 λ s e3.
      unguard (not_zero r.picture_width) 9 0 _ e3 λ _ e4.
      unguard (not_zero r.picture_height) 9 0 _ e4 λ _ e5.
      unbind (check_entries c.control false c.extensions) _ e5 λ _ _ e6.
      unguard (not r.animation_flag || has_animation c.extensions) 14 0 _ e6 λ _ e7.
      unbind (select (r.alpha1_flag || r.alpha2_flag) (check_header (r.bit_depth_minus_8 + 8) (get_or r.headers 0 zero_header)) (ok tt)) _ e7 λ _ e8 e9.
      unbind (check_header (r.bit_depth_minus_8 + 8) (get_or r.headers 1 zero_header)) _ e9 λ _ e10 _.
      record {
        format = leb→le _ 5 a;
        depth = leb→le _ 6 b;
        space = leb→le _ 4 (and_left (leb r.color_space 4) _ s);
        alpha = λ there. header-keeps _ _ (sym (select-true _ _ there) ∙ e8);
        color = header-keeps _ _ e10;
      }

  pub judged : check_record r source ≡ ok tt → Judged r source
  unfolding check_record ranges_in_source consistent content_of
  judged e =
      unguard (leb r.entry_count max_entries) 11 0 _ e λ a e1.
      unguard (entries_in_source source (used_entries r) && in_source source r.«data») 18 0 _ e1 λ b e2.
      unguard (unused_zero r && consistent (content_of r source)) 19 0 _ e2 λ c e3.
      let block = and_left (r.extension_present_flag || is_empty (map (extension_of source) (used_entries r))) _ (and_right (unused_zero r) _ c) in
      record {
        few = leb→le _ max_entries a;
        payloads = in-source-sound source (used_entries r) (and_left (entries_in_source source (used_entries r)) _ b);
        data-inside = leb→le _ (length source) (and_right (entries_in_source source (used_entries r)) _ b);
        no_block = λ n. empty-is _ (or-test r.extension_present_flag _ block n);
        format = (kept e3).format;
        depth = (kept e3).depth;
        space = (kept e3).space;
        alpha-rules = (kept e3).alpha;
        color-rules = (kept e3).color;
      }
