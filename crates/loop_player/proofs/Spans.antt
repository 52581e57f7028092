-- What a round shows: the spans of its frames.
use mathlib.Core.Path.{◌≡◌, refl, ap, ◌∙◌}
use mathlib.Core.Logic.{◌⊎◌, ⊎_elim, inl, inr}
use mathlib.Core.Bool.{true}
use mathlib.Core.List.{List, [], ◌∷◌}
use Prim.Native.Nat.{ℕ, zero, suc, ◌+◌, ◌-◌, ◌≤◌, ◌<◌, zero-le, suc-le-suc}
use native.Mathlib.Omega.{arith}
use borrow.Author.Tests.{eq-eqb, ne_eqb, ltb-true}
use lib.Dec.{eqb, ltb, eqb-suc-suc}
use lib.ListN.{length, get_or, take}
use Rattle.loop_player.specs.Player.{total, all_positive, frame_in}
use Rattle.loop_player.specs.Requirements.{count_below}
use Rattle.loop_player.proofs.Laws.{frame_here, frame_past, frame-none, and_left, and_right}
use Rattle.loop_player.proofs.Counting.{count_same, count-all, count_none, count_add}

-- two numbers by their order
pub lt-or-le : (a b : ℕ) → (a < b) ⊎ (b ≤ a)
lt-or-le a zero = inr zero-le
lt-or-le zero (suc b) = inl (suc-le-suc zero-le)
lt-or-le (suc a) (suc b) = ⊎_elim (λ p. inl (suc-le-suc p)) (λ q. inr (suc-le-suc q)) (lt-or-le a b)

-- past the first span the rest of the frames count
past : (d : ℕ) (ds : List ℕ) (t : ℕ) → frame_in (d ∷ ds) (d + t) ≡ suc (frame_in ds t)
past d ds t =
    let e : (d + t) - d ≡ t = omega arith in
    frame_past d ds (d + t) (omega arith) ∙ ap (λ (r : ℕ). suc (frame_in ds r)) e

-- in one round each frame stands for exactly its duration; a frame that is not there, never
pub shown-times : (ds : List ℕ) (k : ℕ) → count_below (total ds) (λ t. eqb (frame_in ds t) k) ≡ get_or ds k 0
unfolding total count_below
shown-times [] k = refl
shown-times (d ∷ ds) zero =
    let a = count_add d (total ds) (λ t. eqb (frame_in (d ∷ ds) t) 0) in
    let b = count-all d (λ t. eqb (frame_in (d ∷ ds) t) 0) (λ t h. eq-eqb _ _ (frame_here d ds t h)) in
    let e = count_none (total ds) (λ t. eqb (frame_in (d ∷ ds) (d + t)) 0) (λ t h. let q = past d ds t in ne_eqb (frame_in (d ∷ ds) (d + t)) 0 (λ z. omega arith)) in
    omega arith
shown-times (d ∷ ds) (suc k) =
    let a = count_add d (total ds) (λ t. eqb (frame_in (d ∷ ds) t) (suc k)) in
    let b = count_none d (λ t. eqb (frame_in (d ∷ ds) t) (suc k)) (λ t h. let q = frame_here d ds t h in ne_eqb (frame_in (d ∷ ds) t) (suc k) (λ z. omega arith)) in
    let e =
    count_same (total ds) (λ t. eqb (frame_in (d ∷ ds) (d + t)) (suc k)) (λ t. eqb (frame_in ds t) k)
    (λ t h. ap (λ (f : ℕ). eqb f (suc k)) (past d ds t) ∙ eqb-suc-suc (frame_in ds t) k) in
    let i = shown-times ds k in
    omega arith

-- frames come in order
pub in_order : (ds : List ℕ) (r s : ℕ) → r ≤ s → frame_in ds r ≤ frame_in ds s
in_order [] r s h = let a = frame-none r in omega arith
in_order (d ∷ ds) r s h =
    ⊎_elim
    (λ k. let a = frame_here d ds r k in omega arith)
    (λ k. let a = frame_past d ds r k in let b = frame_past d ds s (omega arith) in let i = in_order ds (r - d) (s - d) (omega arith) in omega arith)
    (lt-or-le r d)

first-positive : (d : ℕ) (ds : List ℕ) → all_positive (d ∷ ds) ≡ true → 0 < d
unfolding all_positive
first-positive d ds e = ltb-true 0 d (and_left _ (all_positive ds) e)

rest-positive : (d : ℕ) (ds : List ℕ) → all_positive (d ∷ ds) ≡ true → all_positive ds ≡ true
unfolding all_positive
rest-positive d ds e = and_right (ltb 0 d) (all_positive ds) e

-- a round starts with frame 0
pub at_first : (ds : List ℕ) → all_positive ds ≡ true → frame_in ds 0 ≡ 0
at_first [] e = frame-none 0
at_first (d ∷ ds) e = frame_here d ds 0 (first-positive d ds e)

-- the next tick shows the same frame or the next: none is passed over
pub one_by_one : (ds : List ℕ) (r : ℕ) → all_positive ds ≡ true → frame_in ds (suc r) ≤ suc (frame_in ds r)
one_by_one [] r e = let a = frame-none (suc r) in omega arith
one_by_one (d ∷ ds) r e =
    ⊎_elim
    (λ k. let a = frame_here d ds (suc r) k in omega arith)
    (λ k.
    let a = frame_past d ds (suc r) k in
    ⊎_elim
    (λ m.
    let z : suc r - d ≡ 0 = omega arith in
    let f = ap (frame_in ds) z ∙ at_first ds (rest-positive d ds e) in
    omega arith)
    (λ m.
    let z : suc r - d ≡ suc (r - d) = omega arith in
    let f = ap (frame_in ds) z in
    let b = frame_past d ds r m in
    let i = one_by_one ds (r - d) (rest-positive d ds e) in
    omega arith)
    (lt-or-le r d))
    (lt-or-le (suc r) d)

-- a tick of a round shows a frame that is there
pub in-range : (ds : List ℕ) (r : ℕ) → r < total ds → frame_in ds r < length ds
unfolding total
in-range [] r h = omega arith
in-range (d ∷ ds) r h =
    ⊎_elim
    (λ k. let a = frame_here d ds r k in omega arith)
    (λ k. let a = frame_past d ds r k in let i = in-range ds (r - d) (omega arith) in omega arith)
    (lt-or-le r d)

-- the frame's span holds the tick: the frames before it end by r, and it ends after r
pub span-starts : (ds : List ℕ) (r : ℕ) → total (take (frame_in ds r) ds) ≤ r
unfolding total
span-starts [] r = let e = frame-none r in rw e (omega arith)
span-starts (d ∷ ds) r =
    ⊎_elim
    (λ k. rw (frame_here d ds r k) (omega arith))
    (λ k. let i = span-starts ds (r - d) in rw (frame_past d ds r k) (omega arith))
    (lt-or-le r d)

put_back : (d r n : ℕ) → d ≤ r → r - d < n → r < d + n
put_back d r n h k = omega arith

taken-off : (d r n : ℕ) → r < d + n → d ≤ r → r - d < n
taken-off d r n h k = omega arith

pub span-ends : (ds : List ℕ) (r : ℕ) → r < total ds → r < total (take (suc (frame_in ds r)) ds)
unfolding total
span-ends [] r h = omega arith
span-ends (d ∷ ds) r h =
    ⊎_elim
    (λ k. rw (frame_here d ds r k) (omega arith))
    (λ k. rw (frame_past d ds r k) (put_back d r (total (take (suc (frame_in ds (r - d))) ds)) k (span-ends ds (r - d) (taken-off d r (total ds) h k))))
    (lt-or-le r d)

-- and no other frame's span does: so each tick shows one frame
pub span-only : (ds : List ℕ) (k r : ℕ) → total (take k ds) ≤ r → r < total (take (suc k) ds) → frame_in ds r ≡ k
unfolding total
span-only [] k r h e = omega arith
span-only (d ∷ ds) zero r h e = frame_here d ds r (omega arith)
span-only (d ∷ ds) (suc k) r h e =
    frame_past d ds r (omega arith) ∙ ap suc (span-only ds k (r - d) (omega arith) (omega arith))

-- a round ends with the last frame
pub at_last : (ds : List ℕ) → all_positive ds ≡ true → 0 < length ds → frame_in ds (total ds - 1) ≡ length ds - 1
unfolding total
at_last [] e h = omega arith
at_last (d ∷ []) e h = let k = first-positive d [] e in let a = frame_here d [] (d + 0 - 1) (omega arith) in omega arith
at_last (d ∷ (x ∷ ds)) e h =
    let k = first-positive x ds (rest-positive d (x ∷ ds) e) in
    let i = at_last (x ∷ ds) (rest-positive d (x ∷ ds) e) (omega arith) in
    let z : d + (x + total ds) - 1 ≡ d + (x + total ds - 1) = omega arith in
    let a = ap (frame_in (d ∷ (x ∷ ds))) z ∙ past d (x ∷ ds) (x + total ds - 1) in
    omega arith
