-- The programs that document 01 wants shut out ("What each call binds itself to"): no answers of that kind are the definitions' answers.
use mathlib.Core.Path.{◌≡◌, sym, ap, ◌∙◌}
use mathlib.Core.Logic.{◌≢◌}
use mathlib.Core.List.{List}
use Prim.Native.Nat.{ℕ, ◌<◌}
use native.Mathlib.Omega.{arith}
use lib.ListN.{get_or, set, replicate}
use Rattle.bpg_format.specs.declared.record.Entry.{Entry}
use Rattle.bpg_format.specs.declared.record.Record.{Record}
use Rattle.bpg_format.specs.declared.answer.Reading.{Reading}
use Rattle.bpg_format.specs.Records.{read_file}
use Rattle.bpg_format.specs.Parts.{entry_of}
use Rattle.bpg_format.specs.Write.{write_file, write_buffer}
use Rattle.bpg_format.specs.Pictures.{canonical_file, canonical_buffer}
use Rattle.bpg_format.specs.Requirements.{bytes}
use Rattle.bpg_format.specs.Examples.{file_a, file_b, file_c, file_d, reading_a}
use Rattle.bpg_format.proofs.Examples.{answers}

-- the number at place k of a list that is two lists
differ : (k : ℕ) (l m : List ℕ) → l ≡ m → get_or l k 0 ≡ get_or m k 0
differ k l m e = ap (λ (x : List ℕ). get_or x k 0) e

-- ---- requirement 2

-- a reader that refuses all files
refuses-all : (reader : List ℕ → Reading) → ((f : List ℕ) → (reader f).status ≢ 0) → ¬ ((f : List ℕ) → reader f ≡ read_file f)
refuses-all reader refuses is = refuses file_a (ap (λ (r : Reading). r.status) (is file_a ∙ answers.a-reads))

-- a reader with one record for all files that it accepts, be it A's
one-record : (r : Record) → ¬ ((f : List ℕ) → (read_file f).status ≡ 0 → (read_file f).«record» ≡ r)
one-record r is =
    let a = is file_a (ap (λ (x : Reading). x.status) answers.a-reads) in
    let c = is file_c answers.c-status in
    absurd (omega (arith, ap (λ (x : Record). x.entry_count) (sym a ∙ ap (λ (x : Reading). x.«record») answers.a-reads), ap (λ (x : Record). x.entry_count) c, answers.c-entries))

-- a reader that counts the data length from after the headers, and so accepts A with a data length of 2
counts-data-alone : (reader : List ℕ → Reading) → (reader (set file_a 9 2)).status ≡ 0 → ¬ ((f : List ℕ) → reader f ≡ read_file f)
counts-data-alone reader accepts is =
    absurd (omega (arith, accepts, ap (λ (r : Reading). r.status) (is (set file_a 9 2)), answers.a-data-length))

-- a cursor that yields entry 0 and then repeats it
repeats-first : ¬ ((f : List ℕ) (k : ℕ) → k < (read_file f).«record».entry_count → entry_of f k ≡ entry_of f 0)
repeats-first is =
    absurd (omega (arith, ap (λ (e : Entry). e.tag) (is file_d 1 (omega (arith, answers.d-entries))), answers.d-first, answers.d-second))

-- a writer that stores nothing
writes_nothing : ¬ ((r : Record) (source out : List ℕ) → (write_file r source out).status ≡ 0 → write_buffer r source out ≡ out)
writes_nothing is =
    absurd (omega (arith, differ 0 _ _ (sym answers.a-bytes ∙ is reading_a.«record» file_a (replicate 16 0) answers.a-written)))

-- ---- requirement 3

-- a canonicalizer that stores nothing
canonicalizes-nothing : ¬ ((f out : List ℕ) → (canonical_file f out).status ≡ 0 → canonical_buffer f out ≡ out)
canonicalizes-nothing is = absurd (omega (arith, differ 0 _ _ (sym answers.b-bytes ∙ is file_b (replicate 16 0) answers.b-canonical)))

-- one that copies its input: B against A
copies-input : ¬ ((f out : List ℕ) → (canonical_file f out).status ≡ 0 → bytes (canonical_file f out) (canonical_buffer f out) ≡ f)
copies-input is = absurd (omega (arith, differ 9 _ _ (sym answers.b-written ∙ is file_b (replicate 16 0) answers.b-canonical)))

-- one with a count of its own for all files
one-count : (n : ℕ) → ¬ ((f out : List ℕ) → (canonical_file f out).status ≡ 0 → (canonical_file f out).count ≡ n)
one-count n is =
    absurd (omega (arith, answers.a-count, answers.c-count, is file_a (replicate 16 0) answers.a-canonical, is file_c (replicate 22 0) answers.c-canonical))
