-- The entries of a record, one at a time.
use mathlib.Core.Path.{◌≡◌, refl, ap, ◌∙◌}
use mathlib.Core.Bool.{Bool, true, false, ◌&&◌, ◌||◌, and-false}
use mathlib.Core.Logic.{◌≢◌}
use mathlib.Core.List.{List, [], ◌∷◌, map}
use Prim.Native.Nat.{ℕ, zero, suc, ◌+◌, ◌-◌, ◌≤◌, ◌<◌}
use native.Mathlib.Omega.{arith}
use lib.ListN.{length, take, drop, get_or, drop_of_length-le}
use borrow.Author.Tests.{eq-eqb, ne_eqb}
use Rattle.bpg_codec.specs.Outcome.{Outcome, ok, error, ◌>>=◌, guard}
use Rattle.bpg_codec.proofs.Lists.{drop-next}
use Rattle.bpg_codec.proofs.Select.{select-true, select-false}
use Rattle.bpg_codec.proofs.Outcome.{bind_assoc}
use Rattle.bpg_format.specs.declared.record.Entry.{Entry}
use Rattle.bpg_format.specs.declared.record.Range.{Range}
use Rattle.bpg_format.specs.declared.record.Record.{Record}
use Rattle.bpg_format.specs.Content.{Extension, AnimationControl}
use Rattle.bpg_format.specs.Rules.{is_animation}
use Rattle.bpg_format.specs.Read.{read_animation}
use Rattle.bpg_format.specs.Records.{bytes_in, extension_of, used_entries}
use Rattle.bpg_format.specs.Write.{in_source, entries_in_source, ranges_in_source, same_animation, at_zero, check_animation, check_entries}
use Rattle.bpg_format.proofs.RuleLaws.{bool-apart}
use Rattle.bpg_write_check.specs.Check.{check_entry}

-- ---- refusal 18

both : (a b : Bool) → (a && b) ≡ true → (a ≡ true) × (b ≡ true)
both true b e = (refl, e)
both false b e = bool-apart e refl

-- each entry of those that lie in the source
pub at-inside : (source : List ℕ) (es : List Entry) (k : ℕ) (d : Entry) → entries_in_source source es ≡ true → k < length es → in_source source (get_or es k d).payload ≡ true
at-inside source [] k d e h = absurd (omega arith)
at-inside source (x ∷ es) zero d e h = (both (in_source source x.payload) (entries_in_source source es) e).0
at-inside source (x ∷ es) (suc k) d e h = at-inside source es k d (both (in_source source x.payload) (entries_in_source source es) e).1 (omega arith)

pub payloads-held : (source : List ℕ) (r : Record) → ranges_in_source source r ≡ true → entries_in_source source (used_entries r) ≡ true
unfolding ranges_in_source
payloads-held source r e = (both (entries_in_source source (used_entries r)) (in_source source r.«data») e).0

pub data-held : (source : List ℕ) (r : Record) → ranges_in_source source r ≡ true → in_source source r.«data» ≡ true
unfolding ranges_in_source
data-held source r e = (both (entries_in_source source (used_entries r)) (in_source source r.«data») e).1

-- ---- the loop numbers

-- a payload of tag 5, by what is read of the bytes from its start to its end
pub control-is : (p : AnimationControl) (source : List ℕ) (r : Range) (m : Outcome AnimationControl) → m ≡ read_animation 0 (take (r.start + r.length - r.start) (drop r.start source))
    → (at_zero m >>= λ x. guard (same_animation p x) 19 0) ≡ check_animation p (bytes_in source r)
unfolding check_animation
control-is p source r m e =
    let n : r.start + r.length - r.start ≡ r.length = omega arith in
    ap (λ (o : Outcome AnimationControl). at_zero o >>= λ x. guard (same_animation p x) 19 0) (e ∙ ap (λ (k : ℕ). read_animation 0 (take k (drop r.start source))) n)

-- ---- one entry

module _ (p : AnimationControl) (seen : Bool) (e : Extension) where
  pub other_tag : e.tag ≢ 5 → ok tt ≡ check_entry p seen e
  unfolding check_entry
  other_tag n = rw (ne_eqb e.tag 5 n, select-false, and-false)

  module _ (tag : e.tag ≡ 5) where
    pub second-control : seen ≡ true → error 13 0 ≡ check_entry p seen e
    unfolding check_entry
    second-control s = rw (eq-eqb _ _ tag, s)

    pub first-control : seen ≡ false → check_animation p e.payload ≡ check_entry p seen e
    unfolding check_entry
    first-control s = rw (eq-eqb _ _ tag, s, select-true)

-- ---- one after another

one_more : (p : AnimationControl) (seen : Bool) (e : Extension) (es : List Extension)
    → check_entries p seen (e ∷ es) ≡ (check_entry p seen e >>= λ _. check_entries p (seen || is_animation e) es)
unfolding check_entries check_entry
one_more p seen e es = simp bind_assoc

module _ (p : AnimationControl) (source : List ℕ) (es : List Entry) (seen : Bool) (k : ℕ) where
  -- the next entry, whatever stands for one past the end, and what is left after it
  pub next-entry : (d : Entry) → k < length es → let e = extension_of source (get_or es k d) in
      check_entries p seen (map (extension_of source) (drop k es))
      ≡ (check_entry p seen e >>= λ _. check_entries p (seen || is_animation e) (map (extension_of source) (drop (k + 1) es)))
  next-entry d h =
      ap (λ (l : List Entry). check_entries p seen (map (extension_of source) l)) (drop-next es k d h)
      ∙ one_more p seen (extension_of source (get_or es k d)) (map (extension_of source) (drop (k + 1) es))

  pub entries-done : length es ≤ k → check_entries p seen (map (extension_of source) (drop k es)) ≡ ok tt
  unfolding check_entries
  entries-done h = rw (drop_of_length-le es {i = k} h)
