-- The chunks of a profile in a run, one after the other.
use mathlib.Core.Path.{◌≡◌, refl, sym, ap, ap₂, ◌∙◌}
use mathlib.Core.List.{List, [], ◌++◌}
use Prim.Native.Nat.{ℕ, zero, suc, ◌+◌, ◌-◌, ◌≤◌, min}
use native.Mathlib.Omega.{arith}
use lib.ListN.{length, take, drop, length-append, length-take, length-drop}
use lib.Seq.{take_at, drop_at, drop-drop}
use Rattle.bpg_segment_rules.specs.Segments.{segment}
use Rattle.bpg_segment_rules.specs.Runs.{icc_prefix, chunks}
use Rattle.bpg_segment_rules.proofs.SegmentLaws.{length-segment}
use Rattle.bpg_segment_rules.proofs.ChunkLaws.{Takes, chunks-none, chunks-more}

-- ---- the chunk at p, and what follows it

-- m chunks stand from p to the end of the run, with this profile in them
pub record ChunksAt (run : List ℕ) (p m number count : ℕ) (profile : List ℕ) : Type 0 where
  pub are : drop p run ≡ chunks m number count profile
  pub takes : Takes m profile

-- 18 bytes, the payload, and the other chunks
after-header : (m k n : ℕ) (i : List ℕ) → drop 18 (chunks (suc m) k n i) ≡ take 65519 i ++ chunks m (suc k) n (drop 65519 i)
unfolding segment
after-header m k n i = rw chunks-more refl

pub length-first : (m k n : ℕ) (i : List ℕ) → length (chunks (suc m) k n i) ≡ 18 + length (take 65519 i) + length (chunks m (suc k) n (drop 65519 i))
length-first m k n i =
    let p = icc_prefix k n ++ take 65519 i in
    rw (chunks-more, length-append) (omega (arith, length-segment 226 p [], length-append (icc_prefix k n) (take 65519 i)))

module _ (run : List ℕ) (p m k n : ℕ) (i : List ℕ) (c : ChunksAt run p (suc m) k n i) where
  abbrev size : ℕ
  size = length (take 65519 i)

  abbrev rest : List ℕ
  rest = chunks m (suc k) n (drop 65519 i)

  whole : length run - p ≡ 18 + size + length rest
  whole = sym (length-drop p run) ∙ ap length c.are ∙ length-first m k n i

  there : drop (p + 18) run ≡ take 65519 i ++ rest
  there = sym (drop-drop 18 p run) ∙ ap (drop 18) c.are ∙ after-header m k n i

  -- the code's end of the payload
  end_is : (m : ℕ) → Takes (suc m) i → length run - p ≡ 18 + size + length (chunks m (suc k) n (drop 65519 i)) → min (p + 18 + 65519) (length run) ≡ p + 18 + size
  end_is zero t w = omega (arith, t.0, w, length-take 65519 i, ap length (chunks-none (suc k) n (drop 65519 i)))
  end_is (suc m) t w = omega (arith, t.1, w, length-take 65519 i)

  pub record Next (end : ℕ) : Type 0 where
    pub inside : p + 18 ≤ end
    pub within : end ≤ length run
    pub payload : take (end - (p + 18)) (drop (p + 18) run) ≡ take 65519 i
    pub others : ChunksAt run end m (suc k) n (drop 65519 i)

  pub next : (end : ℕ) → end ≡ min (p + 18 + 65519) (length run) → Next end
  next end e =
      let f : end ≡ p + 18 + size = e ∙ end_is m c.takes whole in
      let s : end - (p + 18) ≡ size = omega (arith, f) in
      let d = length-drop 65519 i in
      record {
        inside = omega (arith, f);
        within = omega (arith, f, whole);
        payload = ap₂ (λ (a : ℕ) (l : List ℕ). take a l) s there ∙ take_at (take 65519 i) rest size refl;
        others =
            record {
              are = ap (λ (a : ℕ). drop a run) f ∙ sym (drop-drop size (p + 18) run) ∙ ap (drop size) there ∙ drop_at (take 65519 i) rest size refl;
              takes = (omega (arith, c.takes.0, d), omega (arith, c.takes.1, d));
            };
      }
