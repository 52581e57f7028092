-- Worked examples, by computation.
use Rattle.std.specs.Prelude.{◌≡◌, refl, true, false, [], ◌∷◌}
use Rattle.bpg_codec.specs.Select.{select}
use Rattle.bpg_nal_emulation.specs.Emulation.{zeros_after, unescape_from, escape_from, unescape, escape, keeps_rules}

undone : unescape (1 ∷ 0 ∷ 0 ∷ 3 ∷ 0 ∷ 0 ∷ 3 ∷ 1 ∷ 3 ∷ 0 ∷ 0 ∷ 3 ∷ []) ≡ 1 ∷ 0 ∷ 0 ∷ 0 ∷ 0 ∷ 1 ∷ 3 ∷ 0 ∷ 0 ∷ []
unfolding select zeros_after unescape_from
undone = refl

redone : escape (1 ∷ 0 ∷ 0 ∷ 0 ∷ 0 ∷ 1 ∷ 3 ∷ 0 ∷ 0 ∷ []) ≡ 1 ∷ 0 ∷ 0 ∷ 3 ∷ 0 ∷ 0 ∷ 3 ∷ 1 ∷ 3 ∷ 0 ∷ 0 ∷ 3 ∷ []
unfolding select zeros_after escape_from
redone = refl

-- the zeros are counted since the last 03
six-zeros : escape (0 ∷ 0 ∷ 0 ∷ 0 ∷ 0 ∷ 0 ∷ []) ≡ 0 ∷ 0 ∷ 3 ∷ 0 ∷ 0 ∷ 3 ∷ 0 ∷ 0 ∷ 3 ∷ []
unfolding select zeros_after escape_from
six-zeros = refl

kept : keeps_rules (1 ∷ 0 ∷ 0 ∷ 3 ∷ 0 ∷ 0 ∷ 3 ∷ 1 ∷ 0 ∷ 0 ∷ 4 ∷ 0 ∷ 0 ∷ 3 ∷ []) ≡ true
unfolding keeps_rules
kept = refl

three-zeros : keeps_rules (1 ∷ 0 ∷ 0 ∷ 0 ∷ []) ≡ false
unfolding keeps_rules
three-zeros = refl

needless : keeps_rules (0 ∷ 0 ∷ 3 ∷ 4 ∷ []) ≡ false
unfolding keeps_rules
needless = refl
