-- Judging the chunks of a profile.
use mathlib.Core.Path.{◌≡◌, refl, sym, ap, ap₂, ◌∙◌}
use mathlib.Core.Bool.{true, false, ◌||◌}
use mathlib.Core.List.{List, [], ◌∷◌, ◌++◌}
use Prim.Native.Nat.{ℕ, zero, suc, ◌+◌, ◌-◌, ◌≤◌, ◌<◌}
use native.Mathlib.Omega.{arith}
use native.Mathlib.Numerals.{add-one}
use lib.Dec.{eqb}
use lib.ListN.{length, take, drop, get_or, length-append, length-drop, drop_of_length-le}
use lib.Seq.{length-take-le}
use borrow.Author.Tests.{leb-true, ne_eqb}
use Rattle.bpg_codec.specs.Outcome.{Outcome, ok, error, ◌>>=◌, guard}
use Rattle.bpg_codec.specs.Lists.{same}
use Rattle.bpg_segment_rules.specs.Segments.{opens, inside, after, holds, payload, take_part}
use Rattle.bpg_segment_rules.specs.Runs.{icc_prefix, full, is_empty, chunks_in, icc_in}
use Rattle.bpg_segment_reader.specs.declared.segment.Part.{Part}
use Rattle.bpg_segment_reader.specs.Places.{PartAt, full_size, judged_length}
use Rattle.bpg_segment_rules.proofs.TestLaws.{and_split, by_cases}
use Rattle.bpg_segment_rules.proofs.SegmentLaws.{taken, passed}
use Rattle.bpg_segment_rules.proofs.ChunkLaws.{in-none, in-more}

full_size-length : (m : ℕ) (p : List ℕ) → full m p ≡ full_size m (length p)
full_size-length zero p = refl
full_size-length (suc m) p = refl

pub full-is : (m n : ℕ) → (eqb m 0 || eqb n 65519) ≡ full_size m n
full-is zero n = refl
full-is (suc m) n = rw (ne_eqb (suc m) 0 λ z. omega (arith, z))

-- what a part that was taken says
module _ (marker : ℕ) (prefix l a r : List ℕ) (e : take_part marker prefix l ≡ (a, r)) where
  some-payload : holds marker prefix l ≡ true → 0 < length (payload prefix l)
  unfolding holds payload
  some-payload t =
      let x = and_split (opens marker l) _ t in
      let y = and_split (same (take (length prefix) (inside l)) prefix) _ x.1 in
      let n : length prefix + 1 ≤ length (inside l) = leb-true _ _ y.1 in
      omega (arith, n, length-drop (length prefix) (inside l))

  took-none : length a ≡ 0 → holds marker prefix l ≡ false
  took-none z =
      by_cases (holds marker prefix l)
      (λ t.
      let p : payload prefix l ≡ a = ap (λ (y : List ℕ × List ℕ). y.0) (sym (taken marker prefix l t) ∙ e) in
      absurd (omega (arith, some-payload t, ap length p, z)))
      (λ t. t)

  took-some : (length a ≡ 0 → ⊥) → (holds marker prefix l ≡ true) × (payload prefix l ≡ a) × (after l ≡ r)
  took-some z =
      by_cases (holds marker prefix l)
      (λ t.
      let p = sym (taken marker prefix l t) ∙ e in
      (t, ap (λ (y : List ℕ × List ℕ). y.0) p, ap (λ (y : List ℕ × List ℕ). y.1) p))
      (λ t.
      let p : [] ≡ a = ap (λ (y : List ℕ × List ℕ). y.0) (sym (passed marker prefix l t) ∙ e) in
      absurd (z (sym (ap length p))))

-- one turn
module _ (m k n : ℕ) (l a r : List ℕ) (e : take_part 226 (icc_prefix k n) l ≡ (a, r)) where
  stops-none : length a ≡ 0 → chunks_in (suc m) k n l ≡ error 36 0
  stops-none z = in-more m k n l ∙ rw (took-none 226 (icc_prefix k n) l a r e z)

  stops-short : (length a ≡ 0 → ⊥) → full_size m (length a) ≡ false → chunks_in (suc m) k n l ≡ error 36 0
  stops-short z f =
      let t = took-some 226 (icc_prefix k n) l a r e z in
      in-more m k n l ∙ rw (t.0, t.1, full_size-length m a, f)

  goes_on : (length a ≡ 0 → ⊥) → full_size m (length a) ≡ true → chunks_in (suc m) k n l ≡ (chunks_in m (suc k) n r >>= λ q. ok (a ++ q))
  goes_on z f =
      let t = took-some 226 (icc_prefix k n) l a r e z in
      in-more m k n l ∙ rw (t.0, t.1, t.2, full_size-length m a, f)

length-error : (n : ℕ) → judged_length n (error 36 0) ≡ error 36 0
unfolding judged_length
length-error n = refl

length-bind : (n : ℕ) (a : List ℕ) (o : Outcome (List ℕ)) → judged_length n (o >>= λ q. ok (a ++ q)) ≡ judged_length (n + length a) o
unfolding judged_length
length-bind n a (ok q) = ap ok (rw length-append (omega arith))
length-bind n a (error s o) = refl

left_over : (l : List ℕ) → 0 < length l → ◌≡◌ {A = Outcome (List ℕ)} (guard (is_empty l) 36 0 >>= λ _. ok []) (error 36 0)
left_over [] h = absurd (omega arith)
left_over (x ∷ l) h = refl

-- the loop: all of it is what is left, after what was passed
abbrev pub Walked : (run : List ℕ) (total at p len k : ℕ) → Type 0
Walked run total at p len k = judged_length 0 (chunks_in total 1 total (drop at run)) ≡ judged_length len (chunks_in (total - k) (k + 1) total (drop p run))

module _ (run : List ℕ) (total at : ℕ) where
  pub walked_none : Walked run total at at 0 0
  walked_none = ap (λ (m : ℕ). judged_length 0 (chunks_in m 1 total (drop at run))) (omega arith)

  module _ (p len k : ℕ) (w : Walked run total at p len k) where
    at_end : k ≡ total → judged_length 0 (chunks_in total 1 total (drop at run)) ≡ judged_length len (guard (is_empty (drop p run)) 36 0 >>= λ _. ok [])
    at_end e =
        let z : total - k ≡ 0 = omega arith in
        w ∙ ap (λ (m : ℕ). judged_length len (chunks_in m (k + 1) total (drop p run))) z ∙ ap (judged_length len) (in-none (k + 1) total (drop p run))

    pub walked_end : k ≡ total → p ≡ length run → judged_length 0 (chunks_in total 1 total (drop at run)) ≡ ok len
    unfolding judged_length
    walked_end e h = at_end e ∙ rw (drop_of_length-le run {i = p} (omega arith)) (ap ok (omega arith))

    pub walked_over : k ≡ total → p ≤ length run → (p ≡ length run → ⊥) → judged_length 0 (chunks_in total 1 total (drop at run)) ≡ error 36 0
    unfolding judged_length
    walked_over e h n = at_end e ∙ ap (judged_length len) (left_over (drop p run) (omega (arith, length-drop p run)))

    module _ (r : Part) (found : PartAt run p 226 (icc_prefix (k + 1) total) r) (more : k < total) where
      abbrev s : ℕ
      s = r.start

      abbrev e : ℕ
      e = r.end

      abbrev a : List ℕ
      a = take (e - s) (drop s run)

      size_is : length a ≡ e - s
      size_is = length-take-le (e - s) (drop s run) (omega (arith, length-drop s run, found.inside, found.ordered))

      next_one : total - k ≡ suc (total - k - 1)
      next_one = omega arith

      stop : chunks_in (suc (total - k - 1)) (k + 1) total (drop p run) ≡ error 36 0 → judged_length 0 (chunks_in total 1 total (drop at run)) ≡ error 36 0
      stop f = w ∙ ap (judged_length len) (ap (λ (m : ℕ). chunks_in m (k + 1) total (drop p run)) next_one ∙ f) ∙ length-error len

      pub walked-none-there : e - s ≡ 0 → judged_length 0 (chunks_in total 1 total (drop at run)) ≡ error 36 0
      walked-none-there z = stop (stops-none (total - k - 1) (k + 1) total (drop p run) a (drop e run) found.is (size_is ∙ z))

      pub walked-short : (e - s ≡ 0 → ⊥) → full_size (total - k - 1) (e - s) ≡ false → judged_length 0 (chunks_in total 1 total (drop at run)) ≡ error 36 0
      walked-short z f =
          stop (stops-short (total - k - 1) (k + 1) total (drop p run) a (drop e run) found.is (λ y. z (sym size_is ∙ y)) (ap (full_size (total - k - 1)) size_is ∙ f))

      pub walked_more : (e - s ≡ 0 → ⊥) → full_size (total - k - 1) (e - s) ≡ true → Walked run total at e (len + (e - s)) (k + 1)
      walked_more z f =
          let y : total - k - 1 ≡ total - (k + 1) = omega arith in
          w ∙ ap (judged_length len) (ap (λ (m : ℕ). chunks_in m (k + 1) total (drop p run)) next_one
          ∙ goes_on (total - k - 1) (k + 1) total (drop p run) a (drop e run) found.is (λ y. z (sym size_is ∙ y)) (ap (full_size (total - k - 1)) size_is ∙ f))
          ∙ length-bind len a (chunks_in (total - k - 1) (suc (k + 1)) total (drop e run))
          ∙ ap₂ (λ (c : ℕ) (m : ℕ). judged_length (len + c) (chunks_in m (suc (k + 1)) total (drop e run))) size_is y
          ∙ ap (λ (c : ℕ). judged_length (len + (e - s)) (chunks_in (total - (k + 1)) c total (drop e run))) (sym (add-one (k + 1)))

pub icc-is : (l : List ℕ) (n : ℕ) → n ≡ get_or l 17 0 → judged_length 0 (icc_in l) ≡ judged_length 0 (chunks_in n 1 n l)
unfolding icc_in
icc-is l n e = ap (λ (m : ℕ). judged_length 0 (chunks_in m 1 m l)) (sym e)
