-- The worked example holds, by computation.
use mathlib.Core.Path.{refl}
use Rattle.bpg_codec.specs.Select.{select}
use Rattle.bpg_segment_rules.specs.Segments.{segment, part, field, opens, inside, after, holds, payload, take_part}
use Rattle.bpg_segment_rules.specs.Runs.{chunk_count, chunks, export_run, chunks_in, icc_in, import_run}
use Rattle.bpg_segment_rules.specs.Examples.{Examples}

pub examples-hold : Examples
unfolding select segment part field opens inside after holds payload take_part chunk_count chunks export_run chunks_in icc_in import_run
examples-hold =
    record {
      run = refl;
      back = refl;
      some = refl;
      nothing = refl;
      icc-first = refl;
      xmp-first = refl;
      empty = refl;
      from_zero = refl;
      wrong-count = refl;
      longer = refl;
      shorter = refl;
    }
