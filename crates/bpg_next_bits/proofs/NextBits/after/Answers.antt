-- `NextBits::after` meets its contract.
use Rattle.bpg_next_bits.proofs.NextBitsLaws.{in-word-left}
use Rattle.bpg_next_bits.proofs.NextBits.after.Goals as goal

pub returns : goal.returns
returns c = λ region p i. rw c.saturating_sub.ensures (in-word-left region p c.args.self.word c.args.self.count i c.args.size)
