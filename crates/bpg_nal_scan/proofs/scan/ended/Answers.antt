use Rattle.std.proofs.Common.{arith}
use Rattle.bpg_nal_scan.proofs.EndedLaws.{ended-last, ended-code, ended-other}
use Rattle.bpg_nal_scan.proofs.scan.ended.Goals as goal

pub returns-in-None : goal.returns-in-None
returns-in-None c = ended-last _ _ c.requires c.in-None.ensures.value

pub returns-in-Some : goal.returns-in-Some
returns-in-Some c = ended-code _ _ c.requires _ c.in-Some.ensures.value (omega arith)

pub returns-in-Some-2 : goal.returns-in-Some-2
returns-in-Some-2 c = ended-other _ _ c.requires _ c.in-Some.ensures.value (λ e. omega arith)
