-- Request 5/13 holds.
use mathlib.Core.Path.{◌≡◌, refl, sym, ap, ◌∙◌}
use mathlib.Core.List.{List, [], ◌∷◌, ◌++◌, map, map-append}
use mathlib.Core.Logic.{◌≢◌}
use Prim.Native.Nat.{ℕ, zero, suc, ◌<◌}
use native.Mathlib.Omega.{arith}
use lib.ListN.{length, get_or, length-map}
use Rattle.bpg_format.specs.declared.answer.Written.{Written}
use Rattle.bpg_format.specs.Zero.{refused_written}
use Rattle.bpg_format.specs.Records.{read_file}
use Rattle.bpg_batch.specs.Batches.{files, sum, statuses_of, offsets_of, batch_answer, batch_statuses, batch_offsets, Complete}
use Rattle.bpg_batch.specs.Requirements.{answered, joined, file_at, EndToEnd, Refusals, EachAlone, NoneSpoilt}
use Rattle.bpg_batch.proofs.OffsetLaws.{offset-inside}
use Rattle.bpg_batch.proofs.CallLaws.{files-count, complete-or-refused, refused-answers, complete-answers}
use Rattle.bpg_batch.proofs.FileLaws.{files-joined, files-lengths, files-only, sum-joined, file-at}

pub end_to_end : EndToEnd
end_to_end = record { whole = λ ns b e. (files-joined ns b e, files-lengths ns b e); no_other = files-only }

-- ---- complete or refused

module _ (b ns ss os : List ℕ) where
  full : Complete b ns ss os → batch_answer b ns ss os ≡ answered (length ns)
  full c = sym (complete-answers b ns ss os c).0

  sound : (batch_answer b ns ss os).status ≡ 0 → Complete b ns ss os
  sound z =
      complete-or-refused b ns ss os (λ c. c) λ e.
      absurd (omega (arith, ap (λ (x : Written). x.status) (refused-answers b ns ss os e).0))

  refused : (batch_answer b ns ss os).status ≢ 0
      → (batch_answer b ns ss os ≡ refused_written 30 0) × (batch_statuses b ns ss os ≡ ss) × (batch_offsets b ns ss os ≡ os)
  refused n =
      complete-or-refused b ns ss os (λ c. absurd (n (ap (λ (x : Written). x.status) (full c)))) λ e.
      let a = refused-answers b ns ss os e in (sym a.0, sym a.1.0, sym a.1.1)

empty : (batch_answer [] [] [] [] ≡ answered 0) × (batch_statuses [] [] [] [] ≡ []) × (batch_offsets [] [] [] [] ≡ [])
unfolding files sum
empty =
    let a = complete-answers [] [] [] [] (record { as-many-statuses = refl; as-many-offsets = refl; adds-up = refl }) in
    (sym a.0, sym a.1.0, sym a.1.1)

pub refusals : Refusals
refusals =
    record { exactly = λ b ns ss os. (sound b ns ss os, λ c. ap (λ (x : Written). x.status) (full b ns ss os c)); refused = refused; empty = empty }

-- ---- each alone

map_at : (g : List ℕ → ℕ) (fs : List (List ℕ)) (k : ℕ) → k < length fs → get_or (map g fs) k 0 ≡ g (get_or fs k [])
map_at g [] k h = absurd (omega arith)
map_at g (f ∷ fs) zero h = refl
map_at g (f ∷ fs) (suc k) h = map_at g fs k (omega arith)

-- the answers for the file with index k
abbrev AnswersAt : (b ns ss os : List ℕ) (k : ℕ) (f : List ℕ) → Type 0
AnswersAt b ns ss os k f = (get_or (batch_statuses b ns ss os) k 0 ≡ (read_file f).status) × (get_or (batch_offsets b ns ss os) k 0 ≡ (read_file f).offset)

module _ (b ns ss os : List ℕ) (c : Complete b ns ss os) (k : ℕ) (h : k < length ns) where
  answer_at : (g : List ℕ → ℕ) → get_or (map g (files ns b)) k 0 ≡ g (file_at ns b k)
  answer_at g = map_at g (files ns b) k (omega (arith, files-count ns b)) ∙ ap g (file-at ns b k h)

  each : AnswersAt b ns ss os k (file_at ns b k)
  each =
      let a = complete-answers b ns ss os c in (
        ap (λ (l : List ℕ). get_or l k 0) (sym a.1.0) ∙ answer_at (λ f. (read_file f).status),
        ap (λ (l : List ℕ). get_or l k 0) (sym a.1.1) ∙ answer_at (λ f. (read_file f).offset),
      )

module _ (fs : List (List ℕ)) (ss os : List ℕ) (e : length ss ≡ length fs) (f : length os ≡ length fs) where
  all-complete : Complete (joined fs) (map length fs) ss os
  all-complete = record { as-many-statuses = e ∙ sym (length-map fs length); as-many-offsets = f ∙ sym (length-map fs length); adds-up = sum-joined fs }

  any : (batch_answer (joined fs) (map length fs) ss os ≡ answered (length fs)) × (batch_statuses (joined fs) (map length fs) ss os ≡ statuses_of fs)
      × (batch_offsets (joined fs) (map length fs) ss os ≡ offsets_of fs)
  any =
      let a = complete-answers (joined fs) (map length fs) ss os all-complete in
      (sym a.0 ∙ ap answered (length-map fs length), sym a.1.0 ∙ ap statuses_of (files-only fs), sym a.1.1 ∙ ap offsets_of (files-only fs))

pub each-alone : EachAlone
each-alone =
    record {
      success = λ b ns ss os z. full b ns ss os (sound b ns ss os z);
      each = λ b ns ss os z k h. each b ns ss os (sound b ns ss os z) k h;
      any = any;
      within = offset-inside;
    }

-- ---- none spoilt

moved : (b c ns ss os : List ℕ) → length b ≡ length c → Complete b ns ss os → Complete c ns ss os
moved b c ns ss os e p = record { as-many-statuses = p.as-many-statuses; as-many-offsets = p.as-many-offsets; adds-up = p.adds-up ∙ e }

module _ (b c ns ss os : List ℕ) (k : ℕ) (h : k < length ns) (e : length b ≡ length c) (f : file_at ns b k ≡ file_at ns c k) where
  abbrev Agree : Type 0
  Agree = (get_or (batch_statuses b ns ss os) k 0 ≡ get_or (batch_statuses c ns ss os) k 0) × (get_or (batch_offsets b ns ss os) k 0 ≡ get_or (batch_offsets c ns ss os) k 0)

  both-answered : Complete b ns ss os → Complete c ns ss os → Agree
  both-answered p q =
      let x = each b ns ss os p k h in
      let y = each c ns ss os q k h in
      (x.0 ∙ ap (λ (g : List ℕ). (read_file g).status) f ∙ sym y.0, x.1 ∙ ap (λ (g : List ℕ). (read_file g).offset) f ∙ sym y.1)

  agree : Agree
  agree =
      complete-or-refused b ns ss os (λ p. both-answered p (moved b c ns ss os e p)) λ x.
      complete-or-refused c ns ss os (λ q. both-answered (moved c b ns ss os (sym e) q) q) λ y.
      let m = (refused-answers b ns ss os x).1 in
      let n = (refused-answers c ns ss os y).1 in
      (ap (λ (l : List ℕ). get_or l k 0) (sym m.0 ∙ n.0), ap (λ (l : List ℕ). get_or l k 0) (sym m.1 ∙ n.1))

pub none-spoilt : NoneSpoilt
none-spoilt =
    record {
      agree = agree;
      between = λ before after f ss os d e.
          let a = any (before ++ (f ∷ after)) ss os d e in
          (a.1 ∙ map-append (λ g. (read_file g).status) before (f ∷ after), a.2 ∙ map-append (λ g. (read_file g).offset) before (f ∷ after));
    }
