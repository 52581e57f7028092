-- The list of an accepted file: its fixed numbers, and its entries, read again and written one by one.
use mathlib.Core.Path.{◌≡◌, refl, sym, ap, ap₂, ◌∙◌, subst}
use mathlib.Core.List.{List, [], ◌∷◌, ◌++◌}
use Prim.Native.Nat.{ℕ, ◌+◌, ◌-◌, ◌≤◌, ◌<◌}
use native.Mathlib.Omega.{arith}
use lib.ListN.{length, take, replicate}
use lib.Seq.{take-append_seam}
use Rattle.bpg_codec.specs.Outcome.{ok, error}
use Rattle.bpg_codec.specs.Buffer.{written}
use Rattle.bpg_codec.proofs.Buffer.{stored-none}
use Rattle.bpg_format.specs.Limits.{max_entries}
use Rattle.bpg_format.specs.declared.record.Entry.{Entry}
use Rattle.bpg_format.specs.declared.answer.Reading.{Reading}
use Rattle.bpg_format.specs.Zero.{zero_entry, refused_reading, refused_written}
use Rattle.bpg_format.specs.Content.{Content}
use Rattle.bpg_format.specs.Read.{read_content}
use Rattle.bpg_format.specs.Records.{entries_at, pad_entries, used_entries, read_file}
use Rattle.bpg_format.proofs.RecordLaws.{entries-length}
use Rattle.std.specs.Prelude.{Option, Result, Ok}
use Rattle.bpg_bytes.specs.declared.position.BytePos.{BytePos}
use Rattle.bpg_bytes.specs.declared.position.Located.{Located}
use Rattle.bpg_refusal.specs.declared.Refusal.{Refusal}
use Rattle.bpg_refusal.specs.Outcomes.{outcome}
use Rattle.bpg_read_entries.specs.Entries.{entry_head_answer, entry_in}
use Rattle.bpg_read_survey.specs.declared.given.FileSurvey.{FileSurvey}
use Rattle.bpg_read_survey.proofs.FileRead.{FileRead, counted}
use Rattle.bpg_read_survey.proofs.Walking.{Walking, passed, passed-next, walks, walked, start_is, tag-offset-is}
use Rattle.bpg_read_survey.specs.Given.{read_given}
use Rattle.bpg_read_survey.specs.Bodies.{asked}
use Rattle.bpg_read_survey.proofs.GivenLaws.{given-not-zero}
use Rattle.bpg_reader.specs.Calls.{either_reading}
use Rattle.bpg_reader.proofs.GivenLaws.{refused}
use Rattle.bpg_reader.specs.Assembled.{assembled_reading}
use Rattle.bpg_reader.proofs.AssembledLaws.{assembled-file}
use Rattle.bpg_export_list.specs.Numbers.{fixed_length, list_length, fixed_numbers, entry_numbers, entries_numbers}
use Rattle.bpg_export_list.proofs.NumberLaws.{Filled, filled_next, entries-append}
use Rattle.bpg_export_list.proofs.WriteLaws.{Answers, file-refused, list-short, list_written}
use Rattle.bpg_read_list.specs.Surveyed.{survey_numbers}

-- k entries of the file stand in the list `out`, after what `first` has there
pub record Listing (file : List ℕ) (count end p : ℕ) (first out : List ℕ) (next k : ℕ) : Type 0 where
  pub walking : Walking file count end p next k
  pub long : list_length count ≤ length first
  pub filled : Filled first fixed_length (list_length k) (entries_numbers (passed walking)) out

pub none-listed : {file : List ℕ} {count end p next : ℕ} (first : List ℕ) → list_length count ≤ length first → Walking file count end p next 0
    → Listing file count end p first first next 0
unfolding entries_numbers
none-listed first h w = record { walking = w; long = h; filled = record { is = (stored-none first fixed_length (omega arith)).0; ends = refl } }

one_more : (es : List Entry) (e : Entry) → entries_numbers (es ++ (e ∷ [])) ≡ entries_numbers es ++ entry_numbers e
unfolding entries_numbers
one_more es e = entries-append es (e ∷ [])

module _ {file : List ℕ} {count end p : ℕ} {first out : List ℕ} {next k : ℕ} (v : Listing file count end p first out next k) where
  abbrev w : Walking file count end p next k
  w = v.walking

  module _ (h : k < count) (x : Result (Located Entry BytePos) Refusal) (e : outcome (λ y. y) x ≡ entry_head_answer next (entry_in (take end file) next))
      (t : Located Entry BytePos) (is : x ≡ Ok t) where
    abbrev numbers : (start offset : ℕ) → List ℕ
    numbers start offset = t.value.tag ∷ start ∷ t.value.payload.length ∷ offset ∷ []

    pub lists : (o : List ℕ) → o ≡ written out (list_length k) (numbers (t.next.0 - t.value.payload.length) next) → Listing file count end p first o t.next.0 (k + 1)
    lists o q =
        let n : list_length k + 4 ≡ list_length (k + 1) = omega arith in
        let r = q ∙ ap (written out (list_length k)) (ap₂ numbers (sym (start_is w h x e t is)) (sym (tag-offset-is w h x e t is))) in
        record {
          walking = walks w h x e t is;
          long = v.long;
          filled =
              subst (λ (l : List ℕ). Filled first fixed_length (list_length (k + 1)) l o) (sym (ap entries_numbers (passed-next w h x e t is) ∙ one_more (passed w) t.value))
              (subst (λ (m : ℕ). Filled first fixed_length m (entries_numbers (passed w) ++ entry_numbers t.value) o) n
              (filled_next v.filled (entry_numbers t.value) (r, refl) (omega (arith, v.long))));
        }

  pub all_listed : count ≤ k → (c : Content) → read_content file ≡ ok c → out ≡ written first fixed_length (entries_numbers (entries_at p c.extensions))
  all_listed h c e = v.filled.is ∙ ap (λ (l : List Entry). written first fixed_length (entries_numbers l)) (walked w h c e)

-- ---- what the list answers

module _ (numbers file : List ℕ) (s : FileSurvey) (f : FileRead file s.head s.rest) where
  abbrev es : List Entry
  es = entries_at s.head.end.0 f.content.extensions

  abbrev reading : Reading
  reading = assembled_reading (length file) s (pad_entries es)

  used-are : used_entries reading.«record» ≡ es
  used-are =
      let n : s.rest.block.entry_count ≡ length es = counted f ∙ sym (entries-length s.head.end.0 f.content.extensions) in
      ap (λ (m : ℕ). take m (pad_entries es)) n ∙ take-append_seam es (replicate (max_entries - length es) zero_entry)

  used-count : s.rest.block.entry_count ≡ length (used_entries reading.«record»)
  used-count = counted f ∙ sym (entries-length s.head.end.0 f.content.extensions) ∙ ap length (sym used-are)

  pub too_short : length numbers < list_length s.rest.block.entry_count → Answers numbers (read_file file) (refused_written 20 0) numbers
  too_short h = subst (λ (r : Reading). Answers numbers r (refused_written 20 0) numbers) (assembled-file f) (list-short numbers reading refl _ used-count h)

  fixed_same : survey_numbers (length file) s ≡ fixed_numbers reading.«record» reading.coded_width reading.coded_height
  unfolding fixed_numbers
  fixed_same = refl

  pub listed-file : (o p : List ℕ) → list_length s.rest.block.entry_count ≤ length numbers → length (survey_numbers (length file) s) ≡ fixed_length
      → o ≡ written numbers 0 (survey_numbers (length file) s) → p ≡ written o fixed_length (entries_numbers es)
      → Answers numbers (read_file file) (record { status = 0; offset = 0; count = list_length s.rest.block.entry_count }) p
  listed-file o p h n a b =
      subst (λ (r : Reading). Answers numbers r (record { status = 0; offset = 0; count = list_length s.rest.block.entry_count }) p) (assembled-file f)
      (list_written numbers reading refl _ used-count h (ap length (sym fixed_same) ∙ n) o p (a ∙ ap (written numbers 0) fixed_same)
      (b ∙ ap (λ (l : List Entry). written o fixed_length (entries_numbers l)) (sym used-are)))

-- of a refused file
pub listed-refused : (numbers : List ℕ) (given : Option (List ℕ)) (file : List ℕ) (s o : ℕ) → read_given (asked given) file ≡ error s o
    → Answers numbers (either_reading given file) (refused_written s o) numbers
listed-refused numbers given file s o e =
    subst (λ (r : Reading). Answers numbers r (refused_written s o) numbers) (refused given file s o e)
    (file-refused numbers (refused_reading s o) (given-not-zero (asked given) file s o e))
