use Rattle.std.proofs.Common.{◌≡◌, ℕ, ◌+◌, false, List, map, refl, ◌∙◌, arith}
use Rattle.std.specs.List.{range_with_len}
use Rattle.std.proofs.lemmas.List.FromFn.{fill_by_all}
use Rattle.bpg_import_list.specs.Fields.{flag_at, range_flags_at}
use Rattle.bpg_import_list.proofs.record.range_flags.Goals as goal

written-out : (l : List ℕ) (k : ℕ) → map (λ i. flag_at l (k + i)) (range_with_len 0 9) ≡ range_flags_at l k
unfolding range_flags_at
written-out l k = let z : k + 0 ≡ k = omega arith in rw z refl

pub returns : goal.returns
returns c =
    let l = c.loop-i in
    fill_by_all (λ i. flag_at c.args.numbers.now (c.args.k + i)) l.set-items 9 false l.invariant.nine (λ j h. l.invariant.same j (omega arith))
    ∙ written-out c.args.numbers.now c.args.k
