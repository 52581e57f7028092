-- The entries of a record: those in use, and the tests over all of them. `es` has those in use first, which are n.
use mathlib.Core.Path.{◌≡◌, refl, sym, ap, ◌∙◌}
use mathlib.Core.Bool.{Bool, ◌&&◌, ◌||◌}
use mathlib.Core.List.{List, [], ◌∷◌, map}
use Prim.Native.Nat.{ℕ, min, ◌+◌, ◌≤◌, ◌<◌}
use native.Mathlib.Omega.{arith}
use lib.Dec.{eqb}
use lib.ListN.{length, take, drop, get_or, length-take, drop_of_length-le}
use lib.Seq.{get_or-take, length-take-le, take_all}
use Rattle.std.specs.List.{list_all, list_any}
use Rattle.bpg_codec.proofs.Lists.{either_way, drop-next}
use Rattle.bpg_format.specs.Limits.{max_entries}
use Rattle.bpg_format.specs.declared.record.Entry.{Entry}
use Rattle.bpg_format.specs.Rules.{has_animation}
use Rattle.bpg_format.specs.Records.{extension_of}
use Rattle.bpg_format.specs.Write.{in_source, entries_in_source, is_zero, zero_entries}

-- ---- the tests over the entries, as one test over a list

pub all_in_source : (source : List ℕ) (es : List Entry) → list_all (λ (e : Entry). in_source source e.payload) es ≡ entries_in_source source es
all_in_source source [] = refl
all_in_source source (e ∷ es) = ap (λ (b : Bool). in_source source e.payload && b) (all_in_source source es)

pub all_zero_entries : (es : List Entry) → list_all is_zero es ≡ zero_entries es
all_zero_entries [] = refl
all_zero_entries (e ∷ es) = ap (λ (b : Bool). is_zero e && b) (all_zero_entries es)

pub any_control : (source : List ℕ) (es : List Entry) → list_any (λ (e : Entry). eqb e.tag 5) es ≡ has_animation (map (extension_of source) es)
any_control source [] = refl
any_control source (e ∷ es) = ap (λ (b : Bool). eqb e.tag 5 || b) (any_control source es)

-- ---- how many are in use

module _ (es : List Entry) (n m : ℕ) (whole : length es ≡ max_entries) (e : n ≡ min m max_entries) where
  pub used-most : n ≤ length es
  used-most = omega arith

  pub used_all : take n es ≡ take m es
  used_all =
      either_way m max_entries
      (λ h. let k : n ≡ m = omega arith in ap (λ (i : ℕ). take i es) k)
      (λ h. take_all n es (omega arith) ∙ sym (take_all m es (omega arith)))

-- ---- the next entry

module _ (es : List Entry) (n k : ℕ) where
  -- whatever stands for an entry past the end
  pub used-next : (d : Entry) → k < n → n ≤ length es → drop k (take n es) ≡ get_or es k d ∷ drop (k + 1) (take n es)
  used-next d h m =
      drop-next (take n es) k d (omega (arith, length-take-le n es m))
      ∙ ap (λ (e : Entry). e ∷ drop (k + 1) (take n es)) (get_or-take n es k d h)

  pub used-end : n ≤ k → drop k (take n es) ≡ []
  used-end h = drop_of_length-le (take n es) {i = k} (omega (arith, length-take n es))
