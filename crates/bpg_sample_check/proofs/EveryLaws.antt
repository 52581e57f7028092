-- What a test of every element says of the elements.
use mathlib.Core.Path.{◌≡◌, refl}
use mathlib.Core.Bool.{Bool, true, false, ◌&&◌, false≢true}
use mathlib.Core.List.{List, [], ◌∷◌}
use Rattle.std.specs.List.{list_all}
use Rattle.bpg_codec.specs.Lawful.{All}

pub and_left : (a b : Bool) → a && b ≡ true → a ≡ true
and_left true b e = refl
and_left false b e = e

pub and_right : (a b : Bool) → a && b ≡ true → b ≡ true
and_right true b e = e
and_right false b e = absurd (false≢true e)

module _ {X : Type 0} (f : X → Bool) (P : X → Type 0) where
  pub every-all : ((x : X) → f x ≡ true → P x) → (l : List X) → list_all f l ≡ true → All P l
  every-all h [] e = tt
  every-all h (x ∷ l) e = (h x (and_left (f x) (list_all f l) e), every-all h l (and_right (f x) (list_all f l) e))

  pub all-every : ((x : X) → P x → f x ≡ true) → (l : List X) → All P l → list_all f l ≡ true
  all-every h [] p = refl
  all-every h (x ∷ l) p = let e = h x p.0 in let k = all-every h l p.1 in rw (e, k)
