use Rattle.bpg_canonical.proofs.ComparisonLaws.{fits, compared}
use Rattle.bpg_canonical.proofs.comparison.same_picture.Goals as goal

pub same_forms-same-requires : goal.same_forms-same-requires
same_forms-same-requires c =
    let one = c.canonicalize-one in
    let other = c.canonicalize-other in
    record { count_in_bounds = fits _ _ _ _ one.ensures.value one.ensures.out_after; count_in_bounds_2 = fits _ _ _ _ other.ensures.value other.ensures.out_after }

pub returns : goal.returns
returns c =
    let one = c.canonicalize-one in
    let other = c.canonicalize-other in
    let x = compared _ _ _ _ _ _ _ _ _ one.ensures.value one.ensures.out_after other.ensures.value other.ensures.out_after c.same_forms-same.ensures in
    record { value = x.0; first_out_after = x.1; second_out_after = x.2; compares = x.3 }
