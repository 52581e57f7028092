-- What reading answers, with a head that was given and without.
use mathlib.Core.Path.{◌≡◌, refl, sym, ap, ◌∙◌}
use mathlib.Core.List.{List}
use Prim.Native.Nat.{ℕ}
use Rattle.std.specs.Prelude.{Option, Some, None}
use Rattle.bpg_codec.specs.Outcome.{error}
use Rattle.bpg_format.specs.Read.{read_content}
use Rattle.bpg_format.specs.Records.{answer_of, read_file}
use Rattle.bpg_read_survey.specs.Given.{read_given}
use Rattle.bpg_read_survey.specs.Bodies.{asked}
use Rattle.bpg_read_survey.proofs.GivenLaws.{none-given}
use Rattle.bpg_reader.specs.Calls.{body_list, either_reading}

pub either : (given : Option (List ℕ)) (file : List ℕ) → answer_of (read_given (asked given) file) ≡ either_reading given file
unfolding body_list read_file
either (Some l) file = refl
either None file = ap answer_of (none-given file)

-- a file that was read on from the head that it has is read
pub answered : (given : Option (List ℕ)) (file : List ℕ) → read_given (asked given) file ≡ read_content file → read_file file ≡ either_reading given file
unfolding read_file
answered given file e = ap answer_of (sym e) ∙ either given file

-- a refusal
pub refused : (given : Option (List ℕ)) (file : List ℕ) (s o : ℕ) → read_given (asked given) file ≡ error s o → answer_of (error s o) ≡ either_reading given file
refused given file s o e = ap answer_of (sym e) ∙ either given file
