-- Request 4/13 holds.
use mathlib.Core.Path.{◌≡◌, refl, ap, subst}
use mathlib.Core.Bool.{Bool, true, false}
use mathlib.Core.List.{List}
use mathlib.Core.Logic.{◌≢◌}
use Prim.Native.Nat.{ℕ, zero, suc, ◌+◌}
use native.Mathlib.Omega.{arith}
use borrow.Author.Tests.{eq-eqb, ne_eqb, eqb-true, eqb-false}
use Rattle.bpg_codec.specs.Outcome.{Outcome, ok, error, ◌>>=◌, guard}
use Rattle.bpg_codec.proofs.Outcome.{unguard}
use Rattle.bpg_codec.proofs.Refusals.{Refuses, refuses-error}
use Rattle.bpg_codec.proofs.Select.{is_true}
use Rattle.bpg_format.specs.Records.{read_file}
use Rattle.bpg_format.specs.Parts.{entry_of, payload_of}
use Rattle.bpg_thumbnails.specs.declared.answer.Checked.{Checked}
use Rattle.bpg_thumbnails.specs.Thumbnails.{levels_below, is_accepted, check_entries, check_file}
use Rattle.bpg_thumbnails.specs.Nested.{HasThumbnail, entry, Within, outer, inner, Smaller}
use Rattle.bpg_thumbnails.specs.Calls.{passed, refused, checked_of, check_thumbnails}
use Rattle.bpg_thumbnails.specs.Requirements.{Complies, Exactly, Refusals}
use Rattle.bpg_thumbnails.proofs.LevelLaws.{entries-refuse}
use Rattle.bpg_thumbnails.proofs.EachLaws.{Passes}
use Rattle.bpg_thumbnails.proofs.Passing.{entries-sound, entries-full}
use Rattle.bpg_thumbnails.proofs.Faults.{refused-at, in_place}
use Rattle.bpg_thumbnails.proofs.Order.{first}

-- ---- a status of 0

module _ (f : List ℕ) where
  not-zero : Refuses (λ s o. s ≢ 0) (check_file f)
  unfolding check_file
  not-zero = by (is_accepted f) refl
    where
      by : (b : Bool) → is_accepted f ≡ b → Refuses (λ s o. s ≢ 0) (guard b (read_file f).status (read_file f).offset >>= λ _. check_entries levels_below f 0)
      by true e = λ s o w z. let k = entries-refuse levels_below f 0 s o w in omega arith
      by false e = refuses-error (λ s o. s ≢ 0) (read_file f).status (read_file f).offset (eqb-false (read_file f).status 0 e)

  file-passes : (check_thumbnails f).status ≡ 0 → Passes (check_file f)
  unfolding check_thumbnails
  file-passes z = by (check_file f) refl z
    where
      by : (m : Outcome (Unit {0})) → check_file f ≡ m → (checked_of m).status ≡ 0 → Passes (check_file f)
      by (ok u) e y = e
      by (error s o) e y = absurd (not-zero s o e y)

  success : (check_thumbnails f).status ≡ 0 → check_thumbnails f ≡ passed
  unfolding check_thumbnails
  success z = ap checked_of (file-passes z)

  unread : (read_file f).status ≢ 0 → check_thumbnails f ≡ refused (read_file f).status (read_file f).offset
  unfolding check_thumbnails check_file
  unread n = rw (ne_eqb (read_file f).status 0 n)

-- ---- a file that passes

-- at every level, what is left passes
reached : {f : List ℕ} {l : ℕ} {g : List ℕ} {o : ℕ} → Within f l g o → Passes (check_entries levels_below f 0)
    → (left : ℕ) × (l + left ≡ 4) × Passes (check_entries left g o)
reached outer e = (levels_below, refl, e)
reached (inner l g o h p w (entry k t)) e =
    let r = reached w e in
    let n = entries-sound r.0 g o r.2 k t in
    (n.below, omega (arith, r.1, n.level), n.passes)

complying : (left : ℕ) (g : List ℕ) (o : ℕ) {h : List ℕ} {p : ℕ} → Passes (check_entries left g o) → HasThumbnail g h p → ((read_file h).status ≡ 0) × Smaller h g
complying left g o e (entry k t) = let n = entries-sound left g o e k t in (n.accepted, n.smaller)

sound : (f : List ℕ) → (check_thumbnails f).status ≡ 0 → Complies f
unfolding check_file
sound f z =
    unguard (is_accepted f) (read_file f).status (read_file f).offset _ (file-passes f z) λ a e.
    record {
      accepted = eqb-true (read_file f).status 0 (is_true _ a);
      thumbnails = λ l g o h p w t. let r = reached w e in complying r.0 g o r.2 t;
      no-level-5 = λ g o w. let r = reached w e in omega (arith, r.1);
    }

-- ---- a file that complies

module _ (f : List ℕ) (c : Complies f) where
  complies-at : (left l : ℕ) (g : List ℕ) (o : ℕ) → l + left ≡ 4 → Within f l g o → Passes (check_entries left g o)
  complies-at zero l g o s w =
      entries-full zero g o λ k t.
      let five : suc l ≡ 5 = omega arith in
      absurd (c.no-level-5 _ _ (subst (λ (n : ℕ). Within f n (payload_of g k) (o + (entry_of g k).payload.start)) five (inner l g o _ _ w (entry k t))))
  complies-at (suc left) l g o s w =
      entries-full (suc left) g o λ k t.
      let a = c.thumbnails l g o _ _ w (entry k t) in
      record {
        below = left;
        level = refl;
        accepted = a.0;
        smaller = a.1;
        passes = complies-at left (suc l) _ _ (omega arith) (inner l g o _ _ w (entry k t));
      }

module _ (f : List ℕ) (z : (read_file f).status ≡ 0) where
  from_entries : Passes (check_entries levels_below f 0) → check_thumbnails f ≡ passed
  unfolding check_thumbnails check_file
  from_entries e = rw (eq-eqb (read_file f).status 0 z, e)

  without : ((k : ℕ) → (entry_of f k).tag ≢ 4) → check_thumbnails f ≡ passed
  without n = from_entries (entries-full levels_below f 0 λ k t. absurd (n k t))

full : (f : List ℕ) → Complies f → (check_thumbnails f).status ≡ 0
full f c = ap (λ (x : Checked). x.status) (from_entries f c.accepted (complies-at f c levels_below 1 f 0 refl outer))

pub exactly : Exactly
exactly = record { complies = λ f. (sound f, full f); success = success; without = without }

pub refusals : Refusals
refusals = record { outer = unread; inner = refused-at; first = first; in_place = λ f l g o w. in_place w }
