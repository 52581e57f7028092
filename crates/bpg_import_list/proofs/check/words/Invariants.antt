-- What fitted so far, and what is left, decide.
use Rattle.std.proofs.Common.{◌≡◌, ◌&&◌, drop}
use Rattle.bpg_import_list.specs.Calls.{words as all_words}
use Rattle.bpg_import_list.proofs.check.words.Given as goal

abbrev pub invariant-loop-number : goal.invariant-loop-number
invariant-loop-number l = all_words l.numbers ≡ (l.fit && all_words (drop l.number-index l.numbers))
