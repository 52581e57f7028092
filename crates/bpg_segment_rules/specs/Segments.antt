-- One application segment (request 10/13): "marker FF E1 (ICC FF E2), two length bytes that count themselves, high byte first", and what is inside.
use Rattle.std.specs.Prelude.{Bool, ◌&&◌, List, [], ◌∷◌, ◌++◌, ℕ, ◌+◌, ◌-◌, ◌*◌, ◌/◌, ◌%◌, leb, eqb, length, take, drop, get_or}
use Rattle.bpg_codec.specs.Select.{select}
use Rattle.bpg_codec.specs.Lists.{same}

-- the markers' second bytes, E1 and E2 (JPEG calls the markers APP1 and APP2)
abbrev pub app1 : ℕ
app1 = 225

abbrev pub app2 : ℕ
app2 = 226

-- the four bytes before what is inside
abbrev pub header : (marker size : ℕ) → List ℕ
header marker size = 255 ∷ marker ∷ ((size + 2) / 256) ∷ ((size + 2) % 256) ∷ []

unfoldable pub segment : (marker : ℕ) (inside : List ℕ) → List ℕ
segment marker inside = header marker (length inside) ++ inside

-- a payload in one segment, after its prefix; "An empty payload counts as absent."
unfoldable pub part : (marker : ℕ) (prefix payload : List ℕ) → List ℕ
part marker prefix [] = []
part marker prefix (x ∷ p) = segment marker (prefix ++ (x ∷ p))

-- ---- and back: what begins with a segment

-- its length field
unfoldable pub field : List ℕ → ℕ
field l = get_or l 2 0 * 256 + get_or l 3 0

-- a segment with this marker stands at the front, whole
unfoldable pub opens : (marker : ℕ) → List ℕ → Bool
opens marker l = eqb (get_or l 0 0) 255 && (eqb (get_or l 1 0) marker && (leb 2 (field l) && leb (field l + 2) (length l)))

-- what is inside it, and what is left after it
unfoldable pub inside : List ℕ → List ℕ
inside l = take (field l - 2) (drop 4 l)

unfoldable pub after : List ℕ → List ℕ
after l = drop (field l - 2) (drop 4 l)

-- inside stand this prefix and a payload that is not empty
unfoldable pub holds : (marker : ℕ) (prefix : List ℕ) → List ℕ → Bool
holds marker prefix l = opens marker l && (same (take (length prefix) (inside l)) prefix && leb (length prefix + 1) (length (inside l)))

unfoldable pub payload : (prefix : List ℕ) → List ℕ → List ℕ
payload prefix l = drop (length prefix) (inside l)

-- the payload at the front, if there is one, and what is left
unfoldable pub take_part : (marker : ℕ) (prefix : List ℕ) → List ℕ → List ℕ × List ℕ
take_part marker prefix l = select (holds marker prefix l) (payload prefix l, after l) ([], l)
