-- What the check of a unit answers: how long it is undone, if it keeps the rules.
use Rattle.std.specs.Prelude.{List, ℕ, Option, Some, None, length}
use Rattle.bpg_codec.specs.Select.{select}
use Rattle.bpg_nal_emulation.specs.Emulation.{unescape, keeps_rules}

abbrev pub check_of : List ℕ → Option ℕ
check_of u = select (keeps_rules u) (Some (length (unescape u))) None
