-- What passes, thumbnail by thumbnail: a check that passes has passed every one, and the other way round.
use mathlib.Core.Path.{◌≡◌, refl}
use mathlib.Core.Bool.{Bool, true, false, not, ◌&&◌}
use mathlib.Core.List.{List}
use mathlib.Core.Logic.{◌⊎◌, inl, inr, ◌≢◌}
use Prim.Native.Nat.{ℕ, zero, suc, ◌+◌}
use lib.Dec.{T, eqb, leb, leb→le, le→leb}
use borrow.Author.Tests.{eq-eqb, ne_eqb, eqb-true, eqb-false}
use Rattle.bpg_codec.proofs.Outcome.{error-not-ok, unguard}
use Rattle.bpg_codec.proofs.Select.{is_true, and_left, and_right, and_both}
use Rattle.bpg_format.specs.Records.{used_entries, read_file}
use Rattle.bpg_format.specs.Parts.{record_in, entry_of, payload_of}
use Rattle.bpg_thumbnails.specs.Thumbnails.{is_accepted, size_of, is_smaller, check_thumbnail, check_entries}
use Rattle.bpg_thumbnails.specs.Nested.{width_of, height_of, Smaller}
use Rattle.bpg_thumbnails.proofs.EachLaws.{Passes, each-sound, each-full, tagged-sound, tagged-full}

-- ---- a thumbnail is smaller

module _ (a b c d : ℕ) where
  differs : T (not (eqb a b && eqb c d)) → (a ≢ b) ⊎ (c ≢ d)
  differs t = by (eqb a b) refl
    where
      by : (x : Bool) → eqb a b ≡ x → (a ≢ b) ⊎ (c ≢ d)
      by true e = inr (λ w. rw (e, eq-eqb c d w) at t)
      by false e = inl (eqb-false a b e)

  differing : (a ≢ b) ⊎ (c ≢ d) → T (not (eqb a b && eqb c d))
  differing (inl n) = rw (ne_eqb a b n) tt
  differing (inr n) = rw (ne_eqb c d n) (by (eqb a b))
    where
      by : (x : Bool) → T (not (x && false))
      by true = tt
      by false = tt

module _ (h g : List ℕ) where
  abbrev unequal : Bool
  unequal = not (eqb (width_of h) (width_of g) && eqb (height_of h) (height_of g))

  pub smaller-sound : T (is_smaller (size_of (record_in h)) (size_of (record_in g))) → Smaller h g
  smaller-sound s =
      let r = and_right (leb (width_of h) (width_of g)) (leb (height_of h) (height_of g) && unequal) s in
      record {
        width = leb→le (width_of h) (width_of g) (and_left (leb (width_of h) (width_of g)) (leb (height_of h) (height_of g) && unequal) s);
        height = leb→le (height_of h) (height_of g) (and_left (leb (height_of h) (height_of g)) unequal r);
        differs = differs (width_of h) (width_of g) (height_of h) (height_of g) (and_right (leb (height_of h) (height_of g)) unequal r);
      }

  pub smaller-full : Smaller h g → T (is_smaller (size_of (record_in h)) (size_of (record_in g)))
  smaller-full s =
      and_both (leb (width_of h) (width_of g)) _ (le→leb (width_of h) (width_of g) s.width)
      (and_both (leb (height_of h) (height_of g)) unequal (le→leb (height_of h) (height_of g) s.height)
      (differing (width_of h) (width_of g) (height_of h) (height_of g) s.differs))

-- ---- the thumbnails of g, which stands at o; `left` levels may be entered

module _ (left : ℕ) (g : List ℕ) (o : ℕ) where
  -- entry k is a thumbnail that passes
  pub record Entered (k : ℕ) : Type 0 where
    pub below : ℕ
    pub level : left ≡ suc below
    pub accepted : (read_file (payload_of g k)).status ≡ 0
    pub smaller : Smaller (payload_of g k) g
    pub passes : Passes (check_entries below (payload_of g k) (o + (entry_of g k).payload.start))

entered-sound : (left : ℕ) (g : List ℕ) (o k : ℕ) → Passes (check_thumbnail left g o (entry_of g k)) → Entered left g o k
unfolding check_thumbnail payload_of
entered-sound zero g o k e = absurd (error-not-ok e)
entered-sound (suc left) g o k e =
    unguard (is_accepted (payload_of g k)) 28 _ _ e λ a b.
    unguard (is_smaller (size_of (record_in (payload_of g k))) (size_of (record_in g))) 29 _ _ b λ c d.
    record {
      below = left;
      level = refl;
      accepted = eqb-true (read_file (payload_of g k)).status 0 (is_true _ a);
      smaller = smaller-sound (payload_of g k) g c;
      passes = d;
    }

entered-full : (left : ℕ) (g : List ℕ) (o k : ℕ) → Entered left g o k → Passes (check_thumbnail left g o (entry_of g k))
unfolding check_thumbnail payload_of
entered-full left g o k p =
    let s = is_true (is_smaller (size_of (record_in (payload_of g k))) (size_of (record_in g))) (smaller-full (payload_of g k) g p.smaller) in
    rw (p.level, eq-eqb (read_file (payload_of g k)).status 0 p.accepted, s) p.passes

module _ (left : ℕ) (g : List ℕ) (o : ℕ) where
  pub entries-sound : Passes (check_entries left g o) → (k : ℕ) → (entry_of g k).tag ≡ 4 → Entered left g o k
  unfolding entry_of
  entries-sound e k t = entered-sound left g o k (tagged-sound _ (used_entries (record_in g)) (each-sound (check_thumbnail left g o) _ e) k t)

  pub entries-full : ((k : ℕ) → (entry_of g k).tag ≡ 4 → Entered left g o k) → Passes (check_entries left g o)
  unfolding entry_of
  entries-full h = each-full (check_thumbnail left g o) _ (tagged-full _ (used_entries (record_in g)) λ k t. entered-full left g o k (h k t))
