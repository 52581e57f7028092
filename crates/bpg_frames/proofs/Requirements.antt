-- Request 1/13 holds.
use mathlib.Core.Path.{◌≡◌, refl, sym, ap, ◌∙◌, subst}
use mathlib.Core.Bool.{Bool, true, false}
use mathlib.Core.List.{List, [], ◌++◌}
use mathlib.Core.Logic.{◌⊎◌, inl, inr, ⊎_elim, ◌≢◌}
use Prim.Native.Nat.{ℕ, ◌≤◌, ◌<◌}
use native.Mathlib.Omega.{arith}
use lib.Dec.{leb}
use lib.ListN.{length, drop, get_or}
use lib.Seq.{take-append_seam, drop-append_seam}
use borrow.Author.Tests.{eq-eqb, ne_eqb, le-leb, lt-leb, leb-true, eqb-true}
use Rattle.bpg_codec.specs.Outcome.{Outcome, ok, error, ◌>>=◌, guard}
use Rattle.bpg_codec.specs.Lawful.{All}
use Rattle.bpg_codec.proofs.Select.{select-true, select-false}
use Rattle.bpg_format.specs.Records.{read_file}
use Rattle.bpg_format.specs.Parts.{record_in, data_of}
use Rattle.bpg_format.specs.Write.{written_buffer}
use Rattle.bpg_nal_units.proofs.Whole.{whole}
use Rattle.bpg_frame_units.specs.declared.count.Frames.{Frames}
use Rattle.bpg_frame_units.specs.Frames.{nothing, frames_from, enough}
use Rattle.bpg_frames.specs.Calls.{data_at, alpha_in, units_in, frames_of, frame_count, list_outcome, frames_call, frames_list}
use Rattle.bpg_frame_units.specs.Answers.{frames_answer, refused_frames}
use Rattle.bpg_frames.specs.Requirements.{frame_starts, Units, Count, durations, Durations, FirstRefused, Refusals}
use Rattle.bpg_frames.proofs.AllFrames.{count-is, starts_is, all-in-range, all_ones, next-lasts, alone-lasts, enough-is}
use Rattle.bpg_frames.proofs.RefusedAt.{refused-at}
use Rattle.bpg_frame_units.proofs.Refusals.{frames-refuse}
use Rattle.bpg_frames.proofs.CallLaws.{data_is, not-zero, answer-zero, frames-parts}

pub units : Units
units = record { whole = λ f. whole (data_at f) (data_of f); «data» = data_is }

pub count : Count
count =
    record {
      starts = λ f z. let d = answer-zero f z in count-is f d.0 d.1 ∙ starts_is f d.0 d.1;
      accepted = λ f z. let d = answer-zero f z in (frames-parts f d.0 d.1).0;
      still = λ f z a.
          let d = answer-zero f z in
          count-is f d.0 d.1 ∙ eqb-true (length d.0) 1 (sym (select-false _ _ a) ∙ enough-is f d.0 d.1);
      animated = λ f z a.
          let d = answer-zero f z in
          let k = count-is f d.0 d.1 in
          let m = leb-true 2 (length d.0) (sym (select-true _ _ a) ∙ enough-is f d.0 d.1) in
          omega arith;
    }

-- ---- the list

-- the answer of `frames` from that of `frame_count`
abbrev listed : (capacity : ℕ) → Outcome (List ℕ) → Outcome (List ℕ)
listed n o = o >>= λ ds. guard (leb (length ds) n) 20 0 >>= λ _. ok ds

list-zero : (f list : List ℕ) → (frames_call f list).status ≡ 0 → (ds : List ℕ) × (frames_of f ≡ ok ds) × (length ds ≤ length list)
unfolding frames_call
list-zero f list z = by (frames_of f) refl z
  where
    sized : (ds : List ℕ) → frames_of f ≡ ok ds → (b : Bool) → leb (length ds) (length list) ≡ b → (frames_answer (guard b 20 0 >>= λ _. ok ds)).status ≡ 0
        → (es : List ℕ) × (frames_of f ≡ ok es) × (length es ≤ length list)
    sized ds e true h k = (ds, e, leb-true (length ds) (length list) h)
    sized ds e false h k = absurd (omega arith)

    by : (o : Outcome (List ℕ)) → frames_of f ≡ o → (frames_answer (listed (length list) o)).status ≡ 0
        → (es : List ℕ) × (frames_of f ≡ ok es) × (length es ≤ length list)
    by (ok ds) e k = sized ds e (leb (length ds) (length list)) refl k
    by (error s p) e k =
        absurd (not-zero f s p e k)

module _ (f list ds : List ℕ) (o : frames_of f ≡ ok ds) (h : length ds ≤ length list) where
  call-is : frames_call f list ≡ record { status = 0; offset = 0; count = length ds }
  unfolding frames_call
  call-is = rw (o, le-leb (length ds) (length list) h)

  list-is : frames_list f list ≡ ds ++ drop (length ds) list
  unfolding frames_list
  list-is = rw (o, le-leb (length ds) (length list) h)

  durations-are : durations f list ≡ ds
  durations-are = rw (call-is, list-is) (take-append_seam ds (drop (length ds) list))

  rest-is : drop (frames_call f list).count (frames_list f list) ≡ drop (frames_call f list).count list
  rest-is = rw (call-is, list-is) (drop-append_seam ds (drop (length ds) list))

pub durations-hold : Durations
durations-hold =
    record {
      many = λ f list z.
          let d = list-zero f list z in
          let c = ap (λ (x : Frames). x.count) (call-is f list d.0 d.1 d.2) in (
            c ∙ sym (count-is f d.0 d.1),
            ap length (durations-are f list d.0 d.1 d.2) ∙ sym (count-is f d.0 d.1),
            rest-is f list d.0 d.1 d.2,
          );
      range = λ f list b z.
          let d = list-zero f list z in
          subst (All (λ x. (1 ≤ x) × (x ≤ 65535))) (sym (durations-are f list d.0 d.1 d.2)) (all-in-range f d.0 d.1 b);
      next = λ f list z before u between v after e n b t s.
          let d = list-zero f list z in
          ap (λ (l : List ℕ). get_or l (frame_starts before) 0) (durations-are f list d.0 d.1 d.2)
          ∙ next-lasts f d.0 d.1 before v after b u between e n t s;
      alone = λ f list z before between v after e n b t s.
          let d = list-zero f list z in
          ap (λ (l : List ℕ). get_or l (frame_starts before) 0) (durations-are f list d.0 d.1 d.2)
          ∙ alone-lasts f d.0 d.1 before v after b between e n t s;
      without-sei = λ f list z h.
          let d = list-zero f list z in
          subst (All (λ x. x ≡ 1)) (sym (durations-are f list d.0 d.1 d.2)) (all_ones f d.0 d.1 h);
    }

-- ---- refusals

refused-count : (o : Outcome (List ℕ)) → (frames_answer o).status ≢ 0 → frames_answer o ≡ refused_frames (frames_answer o).status (frames_answer o).offset
refused-count (ok ds) n = absurd (n refl)
refused-count (error s p) n = refl

refused-list : (o : Outcome (List ℕ)) (list : List ℕ) → (frames_answer o).status ≢ 0 → written_buffer o list ≡ list
refused-list (ok ds) list n = absurd (n refl)
refused-list (error s p) list n = refl

same-list : (n : ℕ) (o : Outcome (List ℕ)) → (frames_answer o).status ≢ 0 → frames_answer (listed n o) ≡ frames_answer o
same-list n (ok ds) k = absurd (k refl)
same-list n (error s p) k = refl

unread : (f : List ℕ) → (read_file f).status ≢ 0 → frame_count f ≡ refused_frames (read_file f).status (read_file f).offset
unfolding frame_count frames_of
unread f n = rw (ne_eqb (read_file f).status 0 n)

abbrev Later : (f : List ℕ) → Frames → Type 0
Later f x = x.status ≢ 0 → ((22 ≤ x.status) × (x.status ≤ 24)) ⊎ ((x.status ≡ 25) × (x.offset ≡ data_at f))

later : (f : List ℕ) → (read_file f).status ≡ 0 → Later f (frame_count f)
unfolding frame_count frames_of
later f z = rw (eq-eqb (read_file f).status 0 z) (by (frames_from (alpha_in f) (units_in f) nothing []) refl)
  where
    counted : (ds : List ℕ) (b : Bool) → Later f (frames_answer (guard b 25 (data_at f) >>= λ _. ok ds))
    counted ds true n = absurd (n refl)
    counted ds false n = inr (refl, refl)

    by : (o : Outcome (List ℕ)) → frames_from (alpha_in f) (units_in f) nothing [] ≡ o
        → Later f (frames_answer (o >>= λ ds. guard (enough (record_in f).animation_flag (length ds)) 25 (data_at f) >>= λ _. ok ds))
    by (ok ds) e = counted ds (enough (record_in f).animation_flag (length ds))
    by (error s p) e = λ n. inl (frames-refuse (units_in f) (alpha_in f) nothing [] s p e)

at_unit : (f : List ℕ) → (read_file f).status ≡ 0 → 22 ≤ (frame_count f).status → (frame_count f).status ≤ 24
    → FirstRefused (alpha_in f) (units_in f) (frame_count f).status (frame_count f).offset
unfolding frame_count frames_of
at_unit f z = rw (eq-eqb (read_file f).status 0 z) (by (frames_from (alpha_in f) (units_in f) nothing []) refl)
  where
    counted : (ds : List ℕ) (b : Bool) → let x = frames_answer (guard b 25 (data_at f) >>= λ _. ok ds) in
        22 ≤ x.status → x.status ≤ 24 → FirstRefused (alpha_in f) (units_in f) x.status x.offset
    counted ds true h k = absurd (omega arith)
    counted ds false h k = absurd (omega arith)

    by : (o : Outcome (List ℕ)) → frames_from (alpha_in f) (units_in f) nothing [] ≡ o
        → let x = frames_answer (o >>= λ ds. guard (enough (record_in f).animation_flag (length ds)) 25 (data_at f) >>= λ _. ok ds) in
        22 ≤ x.status → x.status ≤ 24 → FirstRefused (alpha_in f) (units_in f) x.status x.offset
    by (ok ds) e = counted ds (enough (record_in f).animation_flag (length ds))
    by (error s p) e = λ h k. ⊎_elim (λ a. a) (λ a. absurd (a.0 refl)) (refused-at (alpha_in f) (units_in f) nothing [] s p e)

-- a list that holds the durations, and one that does not
module _ (f list ds : List ℕ) (o : frames_of f ≡ ok ds) where
  held : (frame_count f).count ≤ length list → frames_call f list ≡ frame_count f
  unfolding frame_count frames_call
  held h = let c = count-is f ds o in rw (o, le-leb (length ds) (length list) (omega arith))

  too_short : length list < (frame_count f).count → frames_call f list ≡ refused_frames 20 0
  unfolding frames_call
  too_short h = let c = count-is f ds o in rw (o, lt-leb (length ds) (length list) (omega arith))

pub refusals : Refusals
unfolding frame_count frames_call frames_list
refusals =
    record {
      count = λ f n. refused-count (frames_of f) n;
      list = λ f list n. (refused-count (list_outcome (length list) f) n, refused-list (list_outcome (length list) f) list n);
      read = unread;
      then = later;
      at_unit = at_unit;
      same = λ f list n. same-list (length list) (frames_of f) n;
      holds = λ f list z. let d = answer-zero f z in held f list d.0 d.1;
      short = λ f list z. let d = answer-zero f z in too_short f list d.0 d.1;
    }
