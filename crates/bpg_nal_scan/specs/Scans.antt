-- What the scan of a unit answers: the cut, if the unit keeps the emulation rules.
use Rattle.std.specs.Prelude.{Bool, not, Option, Some, None, List, ℕ, ◌+◌, ◌-◌, eqb, leb, length, get_or}
use Rattle.bpg_codec.specs.Select.{select}
use Rattle.bpg_nal_units.specs.declared.cut.Cut.{Cut}
use Rattle.bpg_nal_units.specs.Search.{offset_from}
use Rattle.bpg_nal_units.specs.Units.{bytes_at, cut_at}
use Rattle.bpg_nal_emulation.specs.Emulation.{keeps_rules}

-- the unit that starts at i
abbrev pub scan_at : List ℕ → (i : ℕ) → Option Cut
scan_at region i = select (keeps_rules (bytes_at region i)) (Some (cut_at region i)) None

-- ---- where two zero bytes stand, with no 03 after them

abbrev pub not_zero : List ℕ → Bool
not_zero l = not (eqb (get_or l 0 0) 0)

abbrev pub kept_cut : (end code : ℕ) → Option Cut
kept_cut end code = Some (record { end = record { 0 = end }; code = record { 0 = code } })

-- the zero bytes go up to a start code or to the end, or a rule is broken
abbrev pub ended_at : List ℕ → (i : ℕ) → Option Cut
ended_at region i =
    let past = offset_from not_zero region (i + 2) in
    select (leb (length region) past) (kept_cut i past) (select (eqb (get_or region past 0) 1) (kept_cut i (past - 2)) None)
