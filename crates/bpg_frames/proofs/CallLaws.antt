-- The calls, from the reading to the answer.
use mathlib.Core.Path.{◌≡◌, refl, sym, ap, ◌∙◌}
use mathlib.Core.Bool.{Bool, true, false, ◌||◌}
use mathlib.Core.List.{List, [], ◌++◌}
use mathlib.Core.Logic.{◌≢◌}
use Prim.Native.Nat.{ℕ, ◌≤◌, ◌<◌, ◌^◌}
use native.Mathlib.Omega.{arith}
use lib.Dec.{eqb}
use lib.ListN.{length, drop, length-drop}
use lib.Seq.{take_all}
use borrow.Author.Tests.{eq-eqb, ne_eqb, le-leb, lt-leb, eqb-true}
use Rattle.bpg_codec.specs.Outcome.{Outcome, ok, error, ◌>>=◌, guard}
use Rattle.bpg_codec.specs.Lawful.{All, Byte}
use Rattle.bpg_codec.proofs.Outcome.{unbind, unguard, error-not-ok, ok-injective}
use Rattle.bpg_codec.proofs.Refusals.{Refuses, refuses-ok, refuses-error, refuses-bind, refuses-guard}
use Rattle.bpg_codec.proofs.Select.{is_true}
use Rattle.bpg_format.specs.declared.answer.Reading.{Reading}
use Rattle.bpg_format.specs.Records.{read_file}
use Rattle.bpg_format.specs.Parts.{record_in, data_of, range_end}
use Rattle.bpg_format.proofs.Requirements.{reading, ranges}
use Rattle.bpg_nal_units.proofs.Cases.{by_equal}
use Rattle.bpg_frame_units.specs.declared.count.Frames.{Frames}
use Rattle.bpg_frames.specs.declared.calls.Survey.{Survey}
use Rattle.bpg_frame_units.specs.Frames.{nothing, frames_from, enough}
use Rattle.bpg_frames.specs.Calls.{data_at, alpha_in, units_in, frames_of, frame_count, frames_call, frames_list}
use Rattle.bpg_frame_units.specs.Answers.{counted, frames_answer, refused_frames, frames_at}
use Rattle.bpg_frames.specs.Surveys.{durations_at, Storable, Surveyed, Refused}
use Rattle.bpg_frame_units.proofs.Refusals.{frames-refuse}

-- ---- an accepted file: its data goes to its end

module _ (f : List ℕ) (bytes : All Byte f) (z : (read_file f).status ≡ 0) where
  data-end : range_end (record_in f).«data» ≡ length f
  data-end = (ranges f (reading.only-accepted f bytes z)).data-last

  pub data-start : data_at f ≤ length f
  data-start = let e = data-end in omega arith

  pub data-small : length f < 2 ^ 32
  data-small = let a = reading.only-accepted f bytes z in let s = a.1.size in omega (arith, ap length a.2)

  pub data_is : data_of f ≡ drop (data_at f) f
  unfolding data_of
  data_is = let e = data-end in take_all (record_in f).«data».length (drop (data_at f) f) (rw length-drop (omega arith))

  abbrev checked : Outcome (List ℕ) → Outcome (List ℕ)
  checked o = o >>= λ ds. guard (enough (record_in f).animation_flag (length ds)) 25 (data_at f) >>= λ _. ok ds

  pub frames-of : frames_of f ≡ checked (frames_at f (data_at f) (alpha_in f))
  unfolding frames_of
  frames-of = rw (eq-eqb (read_file f).status 0 z, data_is)

-- ---- an answer of 0

pub not-zero : (f : List ℕ) → Refuses (λ s o. s ≢ 0) (frames_of f)
unfolding frames_of
not-zero f =
    by_equal (read_file f).status 0
    (λ z.
    rw (eq-eqb (read_file f).status 0 z)
    (refuses-bind (λ s o. s ≢ 0) (frames_from (alpha_in f) (units_in f) nothing []) _
    (λ s o e n. let k = (frames-refuse (units_in f) (alpha_in f) nothing [] s o e).0 in omega arith) λ ds.
    refuses-guard (λ s o. s ≢ 0) (enough (record_in f).animation_flag (length ds)) 25 (data_at f) _ (λ n. omega arith) (refuses-ok (λ s o. s ≢ 0) ds)))
    (λ n. rw (ne_eqb (read_file f).status 0 n) (refuses-error (λ s o. s ≢ 0) (read_file f).status (read_file f).offset n))

-- a count of 0 status is that of durations
pub answer-zero : (f : List ℕ) → (frame_count f).status ≡ 0 → (ds : List ℕ) × (frames_of f ≡ ok ds)
unfolding frame_count
answer-zero f e = by (frames_of f) refl e
  where
    by : (o : Outcome (List ℕ)) → frames_of f ≡ o → (frames_answer o).status ≡ 0 → (ds : List ℕ) × (frames_of f ≡ ok ds)
    by (ok ds) g h = (ds, g)
    by (error s o) g h = absurd (not-zero f s o g h)

-- what makes up a success
pub frames-parts : (f ds : List ℕ) → frames_of f ≡ ok ds
    → ((read_file f).status ≡ 0) × (frames_from (alpha_in f) (units_in f) nothing [] ≡ ok ds) × (enough (record_in f).animation_flag (length ds) ≡ true)
unfolding frames_of
frames-parts f ds e =
    unguard (eqb (read_file f).status 0) (read_file f).status (read_file f).offset _ e λ a b.
    unbind (frames_from (alpha_in f) (units_in f) nothing []) _ b λ es c d.
    unguard (enough (record_in f).animation_flag (length es)) 25 (data_at f) _ d λ g h.
    let same : es ≡ ds = (let q = h in cc) in
    (eqb-true (read_file f).status 0 (is_true _ a), c ∙ ap ok same, ap (λ (l : List ℕ). enough (record_in f).animation_flag (length l)) (sym same) ∙ is_true _ g)

-- ---- the survey

module _ (f : List ℕ) (r : Reading) (e : r ≡ read_file f) where
  pub survey-unread : r.status ≢ 0 → Refused f (record { status = r.status; offset = r.offset; count = 0 })
  unfolding frames_of
  survey-unread n = record { same = rw (← e, ne_eqb r.status 0 n); none = refl }

  module _ (bytes : All Byte f) (z : r.status ≡ 0) (alpha : Bool) (a : alpha ≡ (r.«record».alpha1_flag || r.«record».alpha2_flag)) where
    read-zero : (read_file f).status ≡ 0
    read-zero = rw e at z

    alpha-is : alpha ≡ alpha_in f
    alpha-is = rw e at a

    start_is : r.«record».«data».start ≡ data_at f
    start_is = ap (λ (x : Reading). x.«record».«data».start) e

    abbrev found : Outcome (List ℕ)
    found = frames_at f (data_at f) (alpha_in f)

    -- what was counted, for a proof by cases of it
    by_found : {Q : Type 0} (o : Outcome ℕ) → o ≡ counted (frames_at f r.«record».«data».start alpha)
        → ((x : Outcome (List ℕ)) → found ≡ x → o ≡ counted x → Q) → Q
    by_found o d use-it = use-it found refl (d ∙ rw (start_is, alpha-is))

    pub survey-refused : (s p : ℕ) → error s p ≡ counted (frames_at f r.«record».«data».start alpha) → (x : Frames) → x ≡ refused_frames s p → Refused f x
    survey-refused s p d x g = by_found (error s p) d by
      where
        by : (o : Outcome (List ℕ)) → found ≡ o → error s p ≡ counted o → Refused f x
        by (ok ds) k h = absurd (error-not-ok h)
        by (error t q) k h =
            let t-is : t ≡ s = cc in
            let q-is : q ≡ p = cc in
            rw g (record { same = frames-of f bytes read-zero ∙ rw (k, t-is, q-is); none = refl })

    module _ (n : ℕ) (d : ok n ≡ counted (frames_at f r.«record».«data».start alpha)) (b : Bool) (m : b ≡ enough r.«record».animation_flag n) where
      enough-is : (ds : List ℕ) → ok n ≡ counted (ok ds) → enough (record_in f).animation_flag (length ds) ≡ b
      enough-is ds h = sym (m ∙ rw (e, ok-injective h))

      pub survey-few : b ≡ false → (x : Frames) → x ≡ refused_frames 25 r.«record».«data».start → Refused f x
      survey-few t x g = by_found (ok n) d by
        where
          by : (o : Outcome (List ℕ)) → found ≡ o → ok n ≡ counted o → Refused f x
          by (ok ds) k h = rw g (record { same = frames-of f bytes read-zero ∙ rw (k, enough-is ds h, t, start_is); none = refl })
          by (error t q) k h = absurd (error-not-ok (sym h))

      pub survey-done : b ≡ true → Surveyed f (record { count = n; start = record { 0 = r.«record».«data».start }; alpha = alpha })
      survey-done t = record { count = by_found (ok n) d by; start = start_is; alpha = alpha-is }
        where
          by : (o : Outcome (List ℕ)) → found ≡ o → ok n ≡ counted o → counted (frames_of f) ≡ ok n
          by (ok ds) k h = rw (frames-of f bytes read-zero, k, enough-is ds h, t) (sym h)
          by (error t q) k h = absurd (error-not-ok (sym h))

-- ---- the answers

module _ (f list : List ℕ) (r : Frames) (w : Refused f r) where
  refused-is : r ≡ refused_frames r.status r.offset
  refused-is = ap (λ (n : ℕ). record { status = r.status; offset = r.offset; count = n }) w.none

  pub count-refused : r ≡ frame_count f
  unfolding frame_count
  count-refused = refused-is ∙ rw w.same

  pub list-refused : (r ≡ frames_call f list) × (list ≡ frames_list f list)
  unfolding frames_call frames_list
  list-refused = (refused-is ∙ rw w.same, rw w.same)

module _ (f list : List ℕ) (s : Survey) (w : Surveyed f s) where
  pub listed : (ds : List ℕ) × (frames_of f ≡ ok ds) × (s.count ≡ length ds)
  listed = by (frames_of f) refl w.count
    where
      by : (o : Outcome (List ℕ)) → frames_of f ≡ o → counted o ≡ ok s.count → (ds : List ℕ) × (frames_of f ≡ ok ds) × (s.count ≡ length ds)
      by (ok ds) e h = (ds, e, sym (ok-injective h))
      by (error t o) e h = absurd (error-not-ok h)

  abbrev ds : List ℕ
  ds = listed.0

  o : frames_of f ≡ ok ds
  o = listed.1

  count-is : s.count ≡ length ds
  count-is = listed.2

  pub count-surveyed : ◌≡◌ {A = Frames} (record { status = 0; offset = 0; count = s.count }) (frame_count f)
  unfolding frame_count
  count-surveyed = ap (λ (n : ℕ). record { status = 0; offset = 0; count = n }) count-is ∙ rw o

  pub list-small : length list < s.count → (refused_frames 20 0 ≡ frames_call f list) × (list ≡ frames_list f list)
  unfolding frames_call frames_list
  list-small h = rw (o, lt-leb (length ds) (length list) (omega (arith, count-is))) (refl, refl)

  module _ (h : s.count ≤ length list) (bytes : All Byte f) where
    at-data : (p : ℕ) (a : Bool) → p ≡ data_at f → a ≡ alpha_in f → frames_at f p a ≡ ok ds
    at-data p a e g = let q = frames-parts f ds o in rw (e, g, ← data_is f bytes q.0) q.1

    start-at : frames_at f s.start.0 s.alpha ≡ ok ds
    start-at = at-data s.start.0 s.alpha w.start w.alpha

    pub list-storable : Storable f s.start.0 s.alpha s.count list
    list-storable =
        let q = frames-parts f ds o in
        record {
          small = data-small f bytes q.0;
          start = omega (arith, w.start, data-start f bytes q.0);
          all = rw start-at;
          counted = rw start-at count-is;
          room = h;
        }

    pub list-stored : (after : List ℕ) → after ≡ durations_at f s.start.0 s.alpha ++ drop (length (durations_at f s.start.0 s.alpha)) list
        → (◌≡◌ {A = Frames} (record { status = 0; offset = 0; count = s.count }) (frames_call f list)) × (after ≡ frames_list f list)
    unfolding frames_call frames_list
    list-stored after g =
        rw (o, le-leb (length ds) (length list) (omega (arith, count-is))) (
          ap (λ (n : ℕ). record { status = 0; offset = 0; count = n }) count-is,
          g ∙ rw start-at,
        )
