-- What the rounds of a loop show, and its end.
use mathlib.Core.Path.{◌≡◌, refl, sym, ap, ◌∙◌}
use mathlib.Core.Logic.{◌⊎◌, inl, inr}
use mathlib.Core.Bool.{Bool, true, false, false≢true}
use mathlib.Core.List.{List}
use Prim.Native.Nat.{ℕ, suc, ◌+◌, ◌-◌, ◌*◌, ◌%◌, ◌≤◌, ◌<◌}
use native.Mathlib.Nat.{add-mod_right, mod-eq_of_lt, mul-le-mul_right, mul-add-mod_self_right, suc-mul}
use native.Mathlib.Omega.{arith}
use borrow.Author.Tests.{ltb-true, leb-true, lt-ltb, le-leb, lt-leb}
use lib.Dec.{eqb, ltb, leb}
use lib.ListN.{length, get_or}
use Rattle.loop_player.specs.Player.{total, frame_in, ended_at, frame_at}
use Rattle.loop_player.specs.Requirements.{count_below}
use Rattle.loop_player.proofs.Laws.{and_left, and_right, and_no}
use Rattle.loop_player.proofs.Counting.{count_same}
use Rattle.loop_player.proofs.Spans.{shown-times}

-- ended is said exactly from L-as-T on, and never where L is 0
pub ended-from : (loops : ℕ) (ds : List ℕ) (n : ℕ) → 0 < loops → loops * total ds ≤ n → ended_at loops ds n ≡ true
unfolding ended_at
ended-from loops ds n h k = rw (lt-ltb 0 loops h, le-leb (loops * total ds) n k)

pub not-before : (loops : ℕ) (ds : List ℕ) (n : ℕ) → n < loops * total ds → ended_at loops ds n ≡ false
unfolding ended_at
not-before loops ds n h = and_no (ltb 0 loops) (lt-leb (loops * total ds) n h)

pub never-ended : (ds : List ℕ) (n : ℕ) → ended_at 0 ds n ≡ false
unfolding ended_at
never-ended ds n = refl

pub ended-says : (loops : ℕ) (ds : List ℕ) (n : ℕ) → ended_at loops ds n ≡ true → (0 < loops) × (loops * total ds ≤ n)
unfolding ended_at
ended-says loops ds n e =
    (ltb-true 0 loops (and_left _ (leb (loops * total ds) n) e), leb-true (loops * total ds) n (and_right (ltb 0 loops) _ e))

-- at the end the last frame stays
pub last-stays : (loops : ℕ) (ds : List ℕ) (n : ℕ) → ended_at loops ds n ≡ true → frame_at loops ds n ≡ length ds - 1
unfolding frame_at
last-stays loops ds n e = rw e

pub while-playing : (loops : ℕ) (ds : List ℕ) (n : ℕ) → ended_at loops ds n ≡ false → frame_at loops ds n ≡ frame_in ds (n % total ds)
unfolding frame_at
while-playing loops ds n e = rw e

-- ended is never taken back
ended-stays : (loops : ℕ) (ds : List ℕ) (m n : ℕ) → n ≤ m → ended_at loops ds n ≡ true → ended_at loops ds m ≡ true
ended-stays loops ds m n h e = let f = ended-says loops ds n e in ended-from loops ds m f.0 (omega arith)

sooner : (loops : ℕ) (ds : List ℕ) (m n : ℕ) (b : Bool) → ended_at loops ds n ≡ b → n ≤ m → ended_at loops ds m ≡ false → b ≡ false
sooner loops ds m n true e h f = absurd (false≢true (sym f ∙ ended-stays loops ds m n h e))
sooner loops ds m n false e h f = refl

-- one round later the same frame stands
pub round-later : (loops : ℕ) (ds : List ℕ) (n : ℕ) → ended_at loops ds (n + total ds) ≡ false → frame_at loops ds (n + total ds) ≡ frame_at loops ds n
round-later loops ds n e =
    let f = sooner loops ds (n + total ds) n (ended_at loops ds n) refl (omega arith) e in
    while-playing loops ds (n + total ds) e ∙ ap (frame_in ds) (add-mod_right n (total ds)) ∙ sym (while-playing loops ds n f)

-- no tick of the round j ends it
round-plays : (loops : ℕ) (ds : List ℕ) (j t : ℕ) → ((loops ≡ 0) ⊎ (j < loops)) → t < total ds → ended_at loops ds (j * total ds + t) ≡ false
round-plays loops ds j t (inl z) h = rw z (never-ended ds _)
round-plays loops ds j t (inr k) h =
    let a : suc j * total ds ≤ loops * total ds = mul-le-mul_right (total ds) k in
    let b = suc-mul j (total ds) in
    not-before loops ds (j * total ds + t) (omega arith)

-- the tick t of each round shows the frame whose span holds t
pub round-shows : (loops : ℕ) (ds : List ℕ) (j t : ℕ) → ((loops ≡ 0) ⊎ (j < loops)) → t < total ds → frame_at loops ds (j * total ds + t) ≡ frame_in ds t
round-shows loops ds j t p h =
    while-playing loops ds (j * total ds + t) (round-plays loops ds j t p h)
    ∙ ap (frame_in ds) (mul-add-mod_self_right j (total ds) t ∙ mod-eq_of_lt h)

-- in each round that is played, each frame stands for exactly its duration
pub round-times : (loops : ℕ) (ds : List ℕ) (j k : ℕ) → ((loops ≡ 0) ⊎ (j < loops))
    → count_below (total ds) (λ t. eqb (frame_at loops ds (j * total ds + t)) k) ≡ get_or ds k 0
round-times loops ds j k p =
    count_same (total ds) (λ t. eqb (frame_at loops ds (j * total ds + t)) k) (λ t. eqb (frame_in ds t) k)
    (λ t h. ap (λ (f : ℕ). eqb f k) (round-shows loops ds j t p h))
    ∙ shown-times ds k
