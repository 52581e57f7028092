-- The size before the buffer: the buffer is looked at last, and one of `max_file` bytes holds every file that is written.
use mathlib.Core.Path.{◌≡◌, refl, subst}
use mathlib.Core.List.{List}
use mathlib.Core.Logic.{◌≢◌}
use Prim.Native.Nat.{ℕ, ◌≤◌}
use native.Mathlib.Omega.{arith}
use lib.Dec.{leb, leb→le}
use lib.ListN.{length}
use borrow.Author.Tests.{le-leb, lt-leb}
use Rattle.bpg_codec.specs.Outcome.{Outcome, ok, error, ◌>>=◌, guard}
use Rattle.bpg_codec.specs.Lawful.{All, Byte}
use Rattle.bpg_codec.proofs.Lists.{either_way}
use Rattle.bpg_codec.proofs.Outcome.{unbind, bind_assoc, guard-holds}
use Rattle.bpg_codec.proofs.Refusals.{Refuses}
use Rattle.bpg_format.specs.Limits.{max_file}
use Rattle.bpg_format.specs.declared.record.Record.{Record}
use Rattle.bpg_format.specs.Syntax.{file_of}
use Rattle.bpg_format.specs.Read.{read_content, ReadingStatus}
use Rattle.bpg_format.specs.Records.{content_of}
use Rattle.bpg_format.specs.Write.{check_record, sized_file, write_outcome, written_answer, write_file, write_size, SizingStatus}
use Rattle.bpg_format.specs.Pictures.{canonical_bytes, canonical_outcome, canonical_file, canonical_size}
use Rattle.bpg_format.specs.Requirements.{SizeBefore, Sizes}
use Rattle.bpg_format.proofs.ReadingLaws.{read_is}
use Rattle.bpg_format.proofs.ReadingRefusals.{content-refuses}
use Rattle.bpg_format.proofs.WritingRefusals.{size-check}
use Rattle.bpg_format.proofs.CanonicalLaws.{canonical-rules}

-- ---- any call that looks at its buffer last

abbrev into : {A : Type 0} → Outcome A → (bytes : A → List ℕ) → (capacity : ℕ) → Outcome (List ℕ)
into m bytes capacity = m >>= λ a. guard (leb (length (bytes a)) capacity) 20 0 >>= λ _. ok (bytes a)

sized : {A : Type 0} (m : Outcome A) (bytes : A → List ℕ) → Refuses (λ s o. s ≢ 20) m → ((a : A) → m ≡ ok a → length (bytes a) ≤ max_file)
    → SizeBefore (written_answer (into m bytes max_file)) (λ out. written_answer (into m bytes (length out)))
sized (ok a) bytes h short =
    let n = length (bytes a) in
    let e = le-leb n max_file (short a refl) in
    record {
      same = λ out k. either_way n (length out) (λ l. rw (e, le-leb n (length out) l)) (λ l. absurd (k (rw (lt-leb n (length out) l))));
      never-small = rw e (λ z. omega arith);
      enough = rw e (λ out z k. rw (le-leb n (length out) k));
    }
sized (error s o) bytes h short = record { same = λ out n. refl; never-small = h s o refl; enough = λ out z k. refl }

-- ---- writing

module _ (r : Record) (source : List ℕ) where
  abbrev file : List ℕ
  file = file_of (content_of r source)

  -- all but the buffer
  abbrev judged : Outcome Unit
  judged = check_record r source >>= λ _. guard (leb (length file) max_file) 1 0

  into-buffer : (capacity : ℕ) → into judged (λ _. file) capacity ≡ write_outcome capacity r source
  unfolding write_outcome sized_file
  into-buffer capacity = bind_assoc (check_record r source) _ _

  short : (u : Unit) → judged ≡ ok u → length file ≤ max_file
  short u e = unbind (check_record r source) _ e λ _ _ g. leb→le (length file) max_file (guard-holds (leb (length file) max_file) 1 0 g)

  writing : SizeBefore (write_size r source) (write_file r source)
  unfolding write_size write_file
  writing =
      subst (λ (w : ℕ → Outcome (List ℕ)). SizeBefore (written_answer (w max_file)) (λ out. written_answer (w (length out)))) (λ i capacity. into-buffer capacity i)
      (sized judged (λ _. file) (λ s o e z. subst SizingStatus z (size-check r source s o e).0) short)

-- ---- canonicalizing

canonicalizing : (f : List ℕ) → All Byte f → SizeBefore (canonical_size f) (canonical_file f)
unfolding canonical_size canonical_file canonical_outcome canonical_bytes
canonicalizing f b =
    sized (read_content f) canonical_bytes (λ s o e z. subst ReadingStatus z (content-refuses f s o e)) (λ c e. (canonical-rules c (read_is f b c e).0).size)

pub sizes : Sizes
sizes = record { writing = writing; canonicalizing = canonicalizing }
