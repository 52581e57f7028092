-- Writing refuses at offset 0, with no other number than document 01's for writing, and not with 20 before the buffer is looked at.
use mathlib.Core.Path.{◌≡◌, refl}
use mathlib.Core.Bool.{Bool, true, false, not, ◌&&◌, ◌||◌}
use mathlib.Core.List.{List, [], ◌∷◌}
use Prim.Native.Nat.{ℕ}
use lib.Dec.{leb}
use lib.ListN.{length}
use Rattle.bpg_codec.specs.Select.{select}
use Rattle.bpg_codec.specs.Outcome.{Outcome, ok, error, ◌>>=◌, guard}
use Rattle.bpg_codec.proofs.Lists.{member-later}
use Rattle.bpg_codec.proofs.Refusals.{Refuses, refuses-ok, refuses-error, refuses-bind, refuses-guard, refuses-select}
use Rattle.bpg_ue7.specs.Ue7.{not_zero}
use Rattle.bpg_format.specs.declared.record.Header.{Header}
use Rattle.bpg_format.specs.declared.record.Record.{Record}
use Rattle.bpg_format.specs.Limits.{max_entries, max_file}
use Rattle.bpg_format.specs.Content.{Extension, AnimationControl, Content, has_alpha, bit_depth}
use Rattle.bpg_format.specs.Syntax.{file_of}
use Rattle.bpg_format.specs.Rules.{is_animation, has_animation}
use Rattle.bpg_format.specs.Tests.{color_space_allowed, no_forbidden_bit, hevc_allowed, data_allowed}
use Rattle.bpg_format.specs.Read.{read_animation}
use Rattle.bpg_format.specs.Records.{content_of}
use Rattle.bpg_format.specs.Write.{ranges_in_source, unused_zero, consistent, same_animation, at_zero, check_animation, check_entries, fields_coded, check_header}
use Rattle.bpg_format.specs.Write.{check_content, check_record, sized_file, write_outcome, sizing_statuses, SizingStatus, WritingStatus}
use Rattle.bpg_format.proofs.ReadingRefusals.{loop-refuses}

abbrev pub AtZero : (status offset : ℕ) → Type 0
AtZero s o = SizingStatus s × (o ≡ 0)

abbrev pub R : {A : Type 0} → Outcome A → Type 0
R m = Refuses AtZero m

pub rule : {B : Type 0} (t : Bool) (s : ℕ) (k : Outcome B) → AtZero s 0 → R k → R (guard t s 0 >>= λ _. k)
rule t s k h g = refuses-guard AtZero t s 0 k h g

pub last-rule : (t : Bool) (s : ℕ) → AtZero s 0 → R (guard t s 0)
last-rule true s h = refuses-ok AtZero tt
last-rule false s h = refuses-error AtZero s 0 h

at-zero-refuses : {A : Type 0} (m : Outcome A) → Refuses (λ s o. SizingStatus s) m → R (at_zero m)
at-zero-refuses (ok a) h = refuses-ok AtZero a
at-zero-refuses (error s o) h = refuses-error AtZero s 0 (h s o refl, refl)

pub loop-check : (p : AnimationControl) (l : List ℕ) → R (check_animation p l)
unfolding check_animation
loop-check p l =
    let own = loop-refuses (λ s o. SizingStatus s) (λ _. tt) (λ _. tt) (λ _. tt) (λ _. tt) in
    refuses-bind AtZero (at_zero (read_animation 0 l)) _ (at-zero-refuses (read_animation 0 l) (own 0 l)) λ x.
    last-rule (same_animation p x) 19 (tt, refl)

pub entries-check : (p : AnimationControl) (seen : Bool) (es : List Extension) → R (check_entries p seen es)
unfolding check_entries
entries-check p seen [] = refuses-ok AtZero tt
entries-check p seen (e ∷ es) =
    rule (not (seen && is_animation e)) 13 _ (tt, refl)
    (refuses-bind AtZero (select (is_animation e) (check_animation p e.payload) (ok tt)) _
    (refuses-select AtZero (is_animation e) _ _ (loop-check p e.payload) (refuses-ok AtZero tt)) λ _.
    entries-check p (seen || is_animation e) es)

pub header-check : (depth : ℕ) (h : Header) → R (check_header depth h)
unfolding check_header
header-check depth h =
    rule (fields_coded h) 15 _ (tt, refl) (rule (no_forbidden_bit h) 17 _ (tt, refl) (last-rule (hevc_allowed depth h) 16 (tt, refl)))

pub content-check : (c : Content) → R (check_content c)
unfolding check_content
content-check c =
    rule (leb c.flags.pixel_format 5) 4 _ (tt, refl)
    (rule (leb c.flags.bit_depth_minus8 6) 5 _ (tt, refl)
    (rule (color_space_allowed c.flags) 6 _ (tt, refl)
    (rule (not_zero c.width) 9 _ (tt, refl)
    (rule (not_zero c.height) 9 _ (tt, refl)
    (refuses-bind AtZero (check_entries c.control false c.extensions) _ (entries-check c.control false c.extensions) λ _.
    rule (not c.flags.animation || has_animation c.extensions) 14 _ (tt, refl)
    (refuses-bind AtZero (select (has_alpha c.flags) (check_header (bit_depth c.flags) c.alpha_header) (ok tt)) _
    (refuses-select AtZero (has_alpha c.flags) _ _ (header-check (bit_depth c.flags) c.alpha_header) (refuses-ok AtZero tt)) λ _.
    refuses-bind AtZero (check_header (bit_depth c.flags) c.color_header) _ (header-check (bit_depth c.flags) c.color_header) λ _.
    last-rule (data_allowed c.hevc_data) 26 (tt, refl)))))))

pub record-check : (r : Record) (source : List ℕ) → R (check_record r source)
unfolding check_record
record-check r source =
    let c = content_of r source in
    rule (leb r.entry_count max_entries) 11 _ (tt, refl)
    (rule (ranges_in_source source r) 18 _ (tt, refl) (rule (unused_zero r && consistent c) 19 _ (tt, refl) (content-check c)))

-- all that is refused before the buffer is looked at
pub size-check : (r : Record) (source : List ℕ) → R (check_record r source >>= λ _. guard (leb (length (file_of (content_of r source))) max_file) 1 0)
size-check r source = refuses-bind AtZero (check_record r source) _ (record-check r source) λ _. last-rule (leb (length (file_of (content_of r source))) max_file) 1 (tt, refl)

abbrev pub Writing : (status offset : ℕ) → Type 0
Writing s o = WritingStatus s × (o ≡ 0)

pub write-refuses : (capacity : ℕ) (r : Record) (source : List ℕ) → Refuses Writing (write_outcome capacity r source)
unfolding write_outcome sized_file
write-refuses capacity r source =
    let c = content_of r source in
    refuses-bind Writing (check_record r source) _ (λ s o e. let h = record-check r source s o e in (member-later s 20 sizing_statuses h.0, h.1)) λ _.
    refuses-guard Writing (leb (length (file_of c)) max_file) 1 0 _ (tt, refl)
    (refuses-guard Writing (leb (length (file_of c)) capacity) 20 0 _ (tt, refl) (refuses-ok Writing (file_of c)))
