-- Lists that agree at offsets.
use mathlib.Core.Path.{◌≡◌, refl, sym, ap, ◌∙◌}
use mathlib.Core.List.{List, ◌++◌}
use Prim.Native.Nat.{ℕ, ◌+◌, ◌-◌, ◌≤◌, ◌<◌}
use native.Mathlib.Omega.{arith}
use lib.ListN.{length, take, drop, get_or, length-take, length-drop, get_or-append}
use lib.Seq.{ext_get_or, get_or-take, get_or-drop, get_or-append-add}
use Rattle.bpg_codec.proofs.Lists.{either_way}

-- a part at which they agree
pub same-part : (x y : List ℕ) (a n : ℕ) → a + n ≤ length x → length y ≡ length x
    → ((i : ℕ) → a ≤ i → i < a + n → get_or y i 0 ≡ get_or x i 0) → take n (drop a y) ≡ take n (drop a x)
same-part x y a n within as_long agree =
    ext_get_or 0 (take n (drop a y)) (take n (drop a x)) (simp (length-take, length-drop) (omega arith)) λ i h.
    let k : i < n = omega (arith, simp (length-take, length-drop) at h) in
    get_or-take n (drop a y) i 0 k ∙ get_or-drop a y i 0 ∙ agree (a + i) (omega arith) (omega arith) ∙ sym (get_or-take n (drop a x) i 0 k ∙ get_or-drop a x i 0)

-- past a front of n tokens
pub past-front : (front rest : List ℕ) (n i : ℕ) → length front ≡ n → n ≤ i → get_or (front ++ rest) i 0 ≡ get_or rest (i - n) 0
past-front front rest n i e h =
    let k : i ≡ length front + (i - n) = omega arith in
    ap (λ (j : ℕ). get_or (front ++ rest) j 0) k ∙ get_or-append-add front rest (i - n) 0

-- fronts of one length
pub same-seam : (a b r s : List ℕ) (i : ℕ) → length a ≡ length b → (i < length b → get_or a i 0 ≡ get_or b i 0)
    → (length b ≤ i → get_or r (i - length b) 0 ≡ get_or s (i - length b) 0) → get_or (a ++ r) i 0 ≡ get_or (b ++ s) i 0
same-seam a b r s i e before after =
    either_way (length b) i
    (λ h. past-front a r (length b) i e h ∙ after h ∙ sym (past-front b s (length b) i refl h))
    (λ h. get_or-append a r 0 i (omega arith) ∙ before h ∙ sym (get_or-append b s 0 i h))
