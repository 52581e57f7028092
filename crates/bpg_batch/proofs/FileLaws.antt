-- The files that lengths cut out of a buffer.
use mathlib.Core.Path.{◌≡◌, refl, ap, ◌∙◌}
use mathlib.Core.List.{List, [], ◌∷◌, ◌++◌, map}
use Prim.Native.Nat.{ℕ, zero, suc, ◌<◌}
use native.Mathlib.Omega.{arith}
use lib.ListN.{length, take, drop, get_or, length-take, length-drop, length-append, take-append-drop}
use lib.Seq.{drop-drop, take-append_seam, drop-append_seam}
use Rattle.bpg_batch.specs.Batches.{files, sum}
use Rattle.bpg_batch.specs.Requirements.{joined, file_at}

-- ---- end to end

pub files-joined : (ns b : List ℕ) → sum ns ≡ length b → joined (files ns b) ≡ b
unfolding files sum joined
files-joined [] [] e = refl
files-joined [] (x ∷ b) e = absurd (omega arith)
files-joined (n ∷ ns) b e = ap (λ (r : List ℕ). take n b ++ r) (files-joined ns (drop n b) (omega (arith, length-drop n b))) ∙ take-append-drop n b

pub files-lengths : (ns b : List ℕ) → sum ns ≡ length b → map length (files ns b) ≡ ns
unfolding files sum
files-lengths [] b e = refl
files-lengths (n ∷ ns) b e =
    let m : length (take n b) ≡ n = omega (arith, length-take n b) in
    rw (m, files-lengths ns (drop n b) (omega (arith, length-drop n b)))

pub files-only : (fs : List (List ℕ)) → files (map length fs) (joined fs) ≡ fs
unfolding files joined
files-only [] = refl
files-only (f ∷ fs) = rw (take-append_seam f (joined fs), drop-append_seam f (joined fs), files-only fs)

pub sum-joined : (fs : List (List ℕ)) → sum (map length fs) ≡ length (joined fs)
unfolding sum joined
sum-joined [] = refl
sum-joined (f ∷ fs) = omega (arith, length-append f (joined fs), sum-joined fs)

-- ---- the file with an index

pub file-at : (ns b : List ℕ) (k : ℕ) → k < length ns → get_or (files ns b) k [] ≡ file_at ns b k
unfolding files sum
file-at [] b k h = absurd (omega arith)
file-at (n ∷ ns) b zero h = refl
file-at (n ∷ ns) b (suc k) h = file-at ns (drop n b) k (omega arith) ∙ ap (take (get_or ns k 0)) (drop-drop (sum (take k ns)) n b)
