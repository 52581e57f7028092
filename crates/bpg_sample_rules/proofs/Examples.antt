-- The worked examples hold, by computation.
use mathlib.Core.Path.{refl}
use Rattle.bpg_codec.specs.Select.{select}
use Rattle.bpg_sample_rules.specs.Nearest.{nearest}
use Rattle.bpg_sample_rules.specs.Rules.{max_sample, unpremultiplied, complement, times_white, clip, green_of, blue_of, red_of, full_luma}
use Rattle.bpg_sample_rules.specs.Examples.{Examples}

pub examples-hold : Examples
unfolding select nearest max_sample unpremultiplied complement times_white clip green_of blue_of red_of full_luma
examples-hold = record { hold = refl }
