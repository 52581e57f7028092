use Rattle.bpg_format.specs.Write.{check_header}
use Rattle.bpg_write_check.proofs.header.check.Goals as goal

pub returns-then-not-fields_coded : goal.returns-then-not-fields_coded
unfolding check_header
returns-then-not-fields_coded c = rw (← c.if-not-fields_coded.ensures)

pub returns-then-not-no_forbidden_bit : goal.returns-then-not-no_forbidden_bit
unfolding check_header
returns-then-not-no_forbidden_bit c = rw (← c.if-not-fields_coded.ensures, ← c.if-not-no_forbidden_bit.ensures)

pub returns-then-not-allowed : goal.returns-then-not-allowed
unfolding check_header
returns-then-not-allowed c = rw (← c.if-not-fields_coded.ensures, ← c.if-not-no_forbidden_bit.ensures, ← c.if-not-allowed.ensures)

pub returns : goal.returns
unfolding check_header
returns c = rw (← c.if-not-fields_coded.ensures, ← c.if-not-no_forbidden_bit.ensures, ← c.if-not-allowed.ensures)
