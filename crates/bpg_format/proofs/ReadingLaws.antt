-- A file is read as a content exactly when it is the syntax's file of that content and the content keeps the rules.
use mathlib.Core.Path.{◌≡◌, refl, sym, ap, ◌∙◌, subst}
use mathlib.Core.List.{List}
use mathlib.Core.Logic.{◌≢◌}
use Prim.Native.Nat.{ℕ}
use Rattle.bpg_codec.specs.Outcome.{Outcome, ok, error}
use Rattle.bpg_codec.specs.Lawful.{All, Byte}
use Rattle.bpg_codec.proofs.Outcome.{ok-injective}
use Rattle.bpg_format.specs.declared.answer.Reading.{Reading}
use Rattle.bpg_format.specs.Zero.{refused_reading}
use Rattle.bpg_format.specs.Content.{Content}
use Rattle.bpg_format.specs.Syntax.{file_of}
use Rattle.bpg_format.specs.Rules.{Rules, Accepted}
use Rattle.bpg_format.specs.FileCodec.{file}
use Rattle.bpg_format.specs.Read.{read_content, ReadingStatus}
use Rattle.bpg_format.specs.Records.{answer_of, read_file}
use Rattle.bpg_format.proofs.FileLaws.{file-lawful}
use Rattle.bpg_format.proofs.Chain.{content-chain}
use Rattle.bpg_format.proofs.SyntaxLaws.{file-encode}
use Rattle.bpg_format.proofs.ReadingRefusals.{content-refuses}
use Rattle.bpg_format.proofs.RuleLaws.{file-sound, file-full}

pub reads : (c : Content) → Rules c → read_content (file_of c) ≡ ok c
reads c r = sym (content-chain (file_of c)) ∙ ap (file.decode 0 0) (sym (file-encode c)) ∙ file-lawful.decodes c (file-full c r) 0 0

pub read_is : (f : List ℕ) → All Byte f → (c : Content) → read_content f ≡ ok c → Rules c × (f ≡ file_of c)
read_is f h c e =
    let s = file-lawful.encodes 0 0 f h c (content-chain f ∙ e) in
    (file-sound c s.0, s.1 ∙ file-encode c)

-- one content a file
pub content-unique : (c d : Content) → Rules c → Rules d → file_of c ≡ file_of d → c ≡ d
content-unique c d r s e = ok-injective (sym (reads c r) ∙ ap read_content e ∙ reads d s)

-- ---- what reading answers

pub answer : (c : Content) → Rules c → read_file (file_of c) ≡ answer_of (ok c)
unfolding read_file
answer c r = ap answer_of (reads c r)

pub accepted-status : (f : List ℕ) → Accepted f → (read_file f).status ≡ 0
accepted-status f a = ap (λ (g : List ℕ). (read_file g).status) a.2 ∙ ap (λ (x : Reading). x.status) (answer a.0 a.1)

pub status-accepted : (f : List ℕ) → All Byte f → (read_file f).status ≡ 0 → Accepted f
unfolding read_file
status-accepted f h e = by (read_content f) refl e
  where
    by : (o : Outcome Content) → read_content f ≡ o → (answer_of o).status ≡ 0 → Accepted f
    by (ok c) k z = let r = read_is f h c k in (c, r.0, r.1)
    by (error s o) k z = absurd (subst ReadingStatus z (content-refuses f s o k))

-- a refusal gives the zero record, and sizes of 0
pub refusal : (f : List ℕ) → (read_file f).status ≢ 0 → read_file f ≡ refused_reading (read_file f).status (read_file f).offset
unfolding read_file
refusal f n = by (read_content f) n
  where
    by : (o : Outcome Content) → (answer_of o).status ≢ 0 → answer_of o ≡ refused_reading (answer_of o).status (answer_of o).offset
    by (ok c) n = absurd (n refl)
    by (error s o) n = refl

-- the status is 0 or one of reading's refusals
pub statuses : (f : List ℕ) → (read_file f).status ≢ 0 → ReadingStatus (read_file f).status
unfolding read_file
statuses f n = by (read_content f) refl n
  where
    by : (o : Outcome Content) → read_content f ≡ o → (answer_of o).status ≢ 0 → ReadingStatus (answer_of o).status
    by (ok c) k n = absurd (n refl)
    by (error s o) k n = content-refuses f s o k
