-- The nine range flags, searched for one that is set.
use Rattle.std.proofs.Common.{◌≡◌, Bool, true, false, not, List, [], ◌∷◌, refl}
use Rattle.std.specs.List.{list_any}
use Rattle.bpg_codec.specs.Bits.{all_zero}

pub none-set : (is_set : Bool → Bool) → is_set true ≡ true → is_set false ≡ false → (l : List Bool) → not (list_any is_set l) ≡ all_zero l
none-set f t n [] = refl
none-set f t n (true ∷ l) = rw t refl
none-set f t n (false ∷ l) = rw n (none-set f t n l)
