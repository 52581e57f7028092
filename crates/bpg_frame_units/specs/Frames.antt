-- The frames of units: how long each one is shown, or the first refusal (request 1/13): "The first unit in data order decides, lower number
-- first, at that unit's first byte, or where it would stand if empty".
use Rattle.std.specs.Prelude.{Bool, true, not, ◌&&◌, List, [], ◌∷◌, ◌++◌, ℕ, eqb, leb}
use Rattle.bpg_codec.specs.Select.{select}
use Rattle.bpg_codec.specs.Outcome.{Outcome, ok, error, ◌>>=◌, guard}
use Rattle.bpg_nal_units.specs.Units.{Nal}
use Rattle.bpg_frame_units.specs.declared.wait.Waiting.{Waiting}
use Rattle.bpg_frame_units.specs.Units.{Said, unit_says}

-- 24: "duration 0, two with no frame start between". `pending` waits for its frame, 0 for none
abbrev pub settles : (pending : ℕ) → (durations : List ℕ) → Bool
settles w [] = true
settles w (d ∷ ds) = not (eqb d 0) && (eqb w 0 && settles d ds)

unfoldable pub judged : (alpha : Bool) (pending : ℕ) → List ℕ → Outcome Said
judged alpha w u = unit_says alpha u >>= λ x. guard (settles w x.durations) 24 0 >>= λ _. ok x

-- a refusal in a unit is one at the unit's offset
abbrev pub refused_at : {A : Type 0} → (p : ℕ) → Outcome A → Outcome A
refused_at p (ok a) = ok a
refused_at p (error s o) = error s p

-- ---- a duration waits for the next frame

abbrev pub nothing : Waiting
nothing = record { duration = 0; unit = record { 0 = 0 } }

-- set by the SEI unit at p
abbrev pub set_by : Waiting → (p : ℕ) → (durations : List ℕ) → Waiting
set_by w p [] = w
set_by w p (d ∷ ds) = set_by (record { duration = d; unit = record { 0 = p } }) p ds

-- what waits after the unit at p: a frame that starts takes it
unfoldable pub wait_after : Waiting → (p : ℕ) → Said → Waiting
wait_after w p x = select x.starts nothing (set_by w p x.durations)

-- "Without SEI it lasts 1"
abbrev pub lasting : ℕ → ℕ
lasting d = select (eqb d 0) 1 d

-- the durations so far, with that of a frame that starts
unfoldable pub timed : Waiting → Said → List ℕ → List ℕ
timed w x ds = select x.starts (ds ++ (lasting w.duration ∷ [])) ds

-- ---- unit by unit

-- 24: a duration "with no frame after it: at its SEI unit, after all units are read"
unfoldable pub frames_from : (alpha : Bool) → List Nal → Waiting → (ds : List ℕ) → Outcome (List ℕ)
frames_from alpha [] w ds = guard (eqb w.duration 0) 24 w.unit.0 >>= λ _. ok ds
frames_from alpha (u ∷ us) w ds =
    refused_at u.start (judged alpha w.duration u.bytes) >>= λ x. frames_from alpha us (wait_after w u.start x) (timed w x ds)

-- 25: "still file without exactly one frame, animated file with fewer than two"
abbrev pub enough : (animated : Bool) → (count : ℕ) → Bool
enough animated n = select animated (leb 2 n) (eqb n 1)
