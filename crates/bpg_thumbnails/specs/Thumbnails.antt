-- The deep check (request 4/13): "a file's check enters its thumbnails, and each thumbnail is again a file with entries of its own".
use Rattle.std.specs.Prelude.{Bool, not, ◌&&◌, List, [], ◌∷◌, ℕ, zero, suc, ◌+◌, eqb, leb}
use Rattle.bpg_codec.specs.Select.{select}
use Rattle.bpg_codec.specs.Outcome.{Outcome, ok, error, ◌>>=◌, guard}
use Rattle.bpg_format.specs.declared.record.Entry.{Entry}
use Rattle.bpg_format.specs.declared.record.Record.{Record}
use Rattle.bpg_format.specs.Records.{bytes_in, used_entries, read_file}
use Rattle.bpg_format.specs.Parts.{record_in}
use Rattle.bpg_thumbnails.specs.declared.levels.Size.{Size}

-- "The outer file is level 1; level 5 is not entered": levels 2, 3 and 4 are
abbrev pub levels_below : ℕ
levels_below = 3

-- "accepted by the plain reading"
abbrev pub is_accepted : List ℕ → Bool
is_accepted f = eqb (read_file f).status 0

abbrev pub size_of : Record → Size
size_of r = record { width = r.picture_width; height = r.picture_height }

-- "neither wider nor taller than its parent, and differ from it in width or height"
abbrev pub is_smaller : Size → (parent : Size) → Bool
is_smaller s p = leb s.width p.width && (leb s.height p.height && not (eqb s.width p.width && eqb s.height p.height))

-- the entries of a file with tag 4, its thumbnails (source document 001, "4: Thumbnail"), in file order
unfoldable pub with_tag4 : List Entry → List Entry
with_tag4 [] = []
with_tag4 (e ∷ es) = select (eqb e.tag 4) (e ∷ with_tag4 es) (with_tag4 es)

abbrev pub thumbnails : List ℕ → List Entry
thumbnails f = with_tag4 (used_entries (record_in f))

-- one after the other, up to the first refusal
unfoldable pub each : {A : Type 0} → (A → Outcome (Unit {0})) → List A → Outcome (Unit {0})
each check [] = ok tt
each check (x ∷ xs) = check x >>= λ _. each check xs

-- a thumbnail, an entry of the file f, which stands at `start` in the outer file; `left` levels may be entered, its own among them: "27 level 5
-- reached, 28 thumbnail itself refused, 29 not smaller, at the payload's place in the outer file"
unfoldable pub check_thumbnail : (left : ℕ) (f : List ℕ) (start : ℕ) → Entry → Outcome (Unit {0})
check_thumbnail zero f start e = error 27 (start + e.payload.start)
check_thumbnail (suc left) f start e =
    let thumbnail = bytes_in f e.payload in
    let offset = start + e.payload.start in
    guard (is_accepted thumbnail) 28 offset >>= λ _.
    guard (is_smaller (size_of (record_in thumbnail)) (size_of (record_in f))) 29 offset >>= λ _.
    each (check_thumbnail left thumbnail offset) (thumbnails thumbnail)

-- the thumbnails of a file
abbrev pub check_entries : (left : ℕ) (f : List ℕ) (start : ℕ) → Outcome (Unit {0})
check_entries left f start = each (check_thumbnail left f start) (thumbnails f)

-- "the outer file's own first"
unfoldable pub check_file : List ℕ → Outcome (Unit {0})
check_file f = guard (is_accepted f) (read_file f).status (read_file f).offset >>= λ _. check_entries levels_below f 0
