-- A refusal names a thumbnail that has the fault, at its place in the outer file.
use mathlib.Core.Path.{◌≡◌, refl, sym, ap, ◌∙◌}
use mathlib.Core.List.{List}
use mathlib.Core.Logic.{◌≢◌}
use Prim.Native.Nat.{ℕ, zero, suc, ◌+◌, ◌≤◌}
use native.Mathlib.Omega.{arith}
use lib.ListN.{length, take, drop, length-take, length-drop, drop_of_length-le}
use lib.Seq.{take-length, take-take, take_all, drop-drop}
use borrow.Author.Tests.{eq-eqb, eqb-true, eqb-false}
use Rattle.bpg_codec.proofs.Answers.{refused-error}
use Rattle.bpg_codec.proofs.Lists.{either_way, take-drop}
use Rattle.bpg_codec.proofs.Refusals.{Refuses, refuses-error}
use Rattle.bpg_codec.proofs.Select.{is_true}
use Rattle.bpg_format.specs.Records.{used_entries, read_file}
use Rattle.bpg_format.specs.Parts.{record_in, entry_of, payload_of}
use Rattle.bpg_format.proofs.RuleLaws.{bool-apart}
use Rattle.bpg_thumbnails.specs.Thumbnails.{levels_below, is_accepted, size_of, is_smaller, thumbnails, check_thumbnail, check_entries, check_file}
use Rattle.bpg_thumbnails.specs.Nested.{entry, Within, outer, inner}
use Rattle.bpg_thumbnails.specs.Calls.{checked_of, check_thumbnails}
use Rattle.bpg_thumbnails.specs.Requirements.{Fault, too-deep, refused-itself, not-smaller, Faulty}
use Rattle.bpg_thumbnails.proofs.EachLaws.{refuses-test, each-refuses, tagged-full}
use Rattle.bpg_thumbnails.proofs.Passing.{smaller-full}

module _ (f : List ℕ) where
  module _ (l : ℕ) (g : List ℕ) (o : ℕ) (w : Within f l g o) (k : ℕ) (t : (entry_of g k).tag ≡ 4) where
    faulty : (s : ℕ) → Fault (suc l) g (payload_of g k) s → Faulty f s (o + (entry_of g k).payload.start)
    faulty s x =
        record { level = l; parent = g; start = o; within = w; thumbnail = payload_of g k; own-offset = (entry_of g k).payload.start; has = entry k t; fault = x; at = refl }

  faults : (left l : ℕ) (g : List ℕ) (o : ℕ) → l + left ≡ 4 → Within f l g o → (k : ℕ) → (entry_of g k).tag ≡ 4
      → Refuses (Faulty f) (check_thumbnail left g o (entry_of g k))
  unfolding check_thumbnail payload_of entry_of
  faults zero l g o s w k t = refuses-error (Faulty f) 27 _ (faulty l g o w k t 27 (too-deep (omega arith)))
  faults (suc left) l g o s w k t =
      let h = payload_of g k in
      refuses-test (Faulty f) (is_accepted h) 28 _ _
      (λ e. faulty l g o w k t 28 (refused-itself (omega arith) (eqb-false (read_file h).status 0 e))) λ a.
      refuses-test (Faulty f) (is_smaller (size_of (record_in h)) (size_of (record_in g))) 29 _ _
      (λ e. faulty l g o w k t 29 (not-smaller (omega arith) (eqb-true (read_file h).status 0 a) (λ c. bool-apart (is_true _ (smaller-full h g c)) e))) λ b.
      each-refuses (check_thumbnail left h _) (Faulty f) (thumbnails h) (tagged-full _ (used_entries (record_in h)) λ j u.
      faults left (suc l) h _ (omega arith) (inner l g o _ _ w (entry k t)) j u)

  entries-fault : Refuses (Faulty f) (check_entries levels_below f 0)
  unfolding entry_of
  entries-fault =
      each-refuses (check_thumbnail levels_below f 0) (Faulty f) (thumbnails f) (tagged-full _ (used_entries (record_in f)) λ k t. faults levels_below 1 f 0 refl outer k t)

  pub refused-at : (read_file f).status ≡ 0 → (check_thumbnails f).status ≢ 0 → Faulty f (check_thumbnails f).status (check_thumbnails f).offset
  unfolding check_thumbnails check_file
  refused-at z n =
      refused-error checked_of (λ r. r.status) (λ _. refl) (λ _ _. refl) (check_file f) (checked_of (check_file f)) refl n λ s o e.
      rw e (entries-fault s o (sym (rw (eq-eqb (read_file f).status 0 z)) ∙ e))

-- ---- in place

abbrev StartOf : List ℕ → List ℕ → Type 0
StartOf a b = a ≡ take (length a) b

start-take : (n : ℕ) (b : List ℕ) → StartOf (take n b) b
start-take n b =
    either_way (length b) n
    (λ h. let e = take_all n b h in rw e (sym (take-length b)))
    (λ h. let e : length (take n b) ≡ n = omega (arith, length-take n b) in rw e)

start-trans : (a b c : List ℕ) → StartOf a b → StartOf b c → StartOf a c
start-trans a b c x y =
    let n : length a ≤ length b = omega (arith, ap length x, length-take (length a) b) in
    x ∙ ap (take (length a)) y ∙ take-take (length a) (length b) c n

start-drop : (p : ℕ) (b c : List ℕ) → StartOf b c → StartOf (drop p b) (drop p c)
start-drop p b c x =
    either_way (length b) p
    (λ h. let e = drop_of_length-le b {i = p} h in rw e)
    (λ h.
    let n : p + length (drop p b) ≡ length b = omega (arith, length-drop p b) in
    ap (drop p) x ∙ ap (λ (m : ℕ). drop p (take m c)) (sym n) ∙ sym (take-drop (length (drop p b)) p c))

pub in_place : {f : List ℕ} {l : ℕ} {g : List ℕ} {o : ℕ} → Within f l g o → g ≡ take (length g) (drop o f)
unfolding payload_of
in_place {f} outer = sym (take-length f)
in_place {f} (inner l g o h p w (entry k t)) =
    let q = (entry_of g k).payload.start in
    let n = (entry_of g k).payload.length in
    rw (← drop-drop q o f) (start-trans (take n (drop q g)) (drop q g) (drop q (drop o f)) (start-take n (drop q g)) (start-drop q g (drop o f) (in_place w)))
