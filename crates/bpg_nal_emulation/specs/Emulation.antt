-- Emulation prevention (request 1/13; H.265, 7.3.1.1 and 7.4.2): a 03 that stands after 00 00 in a unit is no part of its content.
-- Undoing and redoing walk the bytes with z, the zeros in a row before them, of which two count.
use Rattle.std.specs.Prelude.{Bool, true, not, ◌&&◌, ◌||◌, List, [], ◌∷◌, ℕ, eqb, ltb, drop, get_or}
use Rattle.bpg_codec.specs.Select.{select}

unfoldable pub zeros_after : (z b : ℕ) → ℕ
zeros_after z b = select (eqb b 0) (select (eqb z 0) 1 2) 0

-- ---- undone: without the 03 after each 00 00

-- b is an emulation prevention byte
abbrev pub is_mark : (z b : ℕ) → Bool
is_mark z b = eqb z 2 && eqb b 3

unfoldable pub unescape_from : List ℕ → (z : ℕ) → List ℕ
unescape_from [] z = []
unescape_from (b ∷ l) z = select (is_mark z b) (unescape_from l 0) (b ∷ unescape_from l (zeros_after z b))

abbrev pub unescape : List ℕ → List ℕ
unescape u = unescape_from u 0

-- what is left of a unit's content at offset i of the unit, after z zeros
unfoldable pub content_at : List ℕ → (i z : ℕ) → List ℕ
content_at u i z = unescape_from (drop i u) z

-- ---- redone: a 03 before a byte of 00 to 03 that follows 00 00, counted since the last 03; and after a final 00 00

unfoldable pub escape_from : List ℕ → (z : ℕ) → List ℕ
escape_from [] z = select (eqb z 2) (3 ∷ []) []
escape_from (b ∷ l) z = select (eqb z 2 && ltb b 4) (3 ∷ b ∷ escape_from l (zeros_after 0 b)) (b ∷ escape_from l (zeros_after z b))

abbrev pub escape : List ℕ → List ℕ
escape l = escape_from l 0

-- ---- the rules: 00 00 00, 00 00 01 and 00 00 02 may not occur in a unit; 00 00 03 is followed by 00 to 03 or ends it

-- the bytes begin with 00 00 and a byte of 00 to 03 (4 stands for a third byte that is not there)
abbrev pub starts_pattern : List ℕ → Bool
starts_pattern l = ltb (get_or l 2 4) 4 && (eqb (get_or l 1 0) 0 && eqb (get_or l 0 0) 0)

abbrev pub keeps_rule : List ℕ → Bool
keeps_rule l = not (starts_pattern l) || (eqb (get_or l 2 4) 3 && ltb (get_or l 3 0) 4)

-- at each of its bytes
unfoldable pub keeps_rules : List ℕ → Bool
keeps_rules [] = true
keeps_rules (b ∷ l) = keeps_rule (b ∷ l) && keeps_rules l
