-- The table's rule is one test that is computed; and what was judged is what the loop requires.
use Rattle.std.proofs.Common.{refl, arith}
use Rattle.bpg_codec.specs.Select.{select}
use Rattle.bpg_sample_rules.specs.Nearest.{nearest}
use Rattle.bpg_sample_rules.specs.Rules.{max_sample, full_luma}
use Rattle.bpg_sample_check.proofs.CallLaws.{kept, stored, accepted}
use Rattle.bpg_limited_luma.proofs.Tables.{tested}
use Rattle.bpg_limited_luma.proofs.call.limited_luma.Goals as goal

pub returns-in-Err-clause-out_after : goal.returns-in-Err-clause-out_after
returns-in-Err-clause-out_after c = kept _ _ _ c.in-Err.ensures c.refused.ensures _ _

pub look_up-requires : goal.look_up-requires
unfolding max_sample full_luma select nearest
look_up-requires c =
    let a = accepted _ _ _ c.in-Ok.ensures in
    record {
      table_of = tested 256 full_luma _ refl tt;
      out_len = (omega arith, omega arith);
    }

pub returns-clause-out_after : goal.returns-clause-out_after
returns-clause-out_after c = stored c.of.ensures c.look_up.ensures _
