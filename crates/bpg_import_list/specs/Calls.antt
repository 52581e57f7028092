-- What writing from a list of numbers answers.
use Rattle.std.specs.Prelude.{Bool, true, ◌&&◌, List, [], ◌∷◌, ℕ, ◌*◌, ◌-◌, ◌^◌, leb, length, take, drop, get_or}
use Rattle.bpg_codec.specs.Outcome.{Outcome, ok, ◌>>=◌, guard}
use Rattle.bpg_format.specs.Limits.{max_entries, max_file}
use Rattle.bpg_format.specs.declared.record.Record.{Record}
use Rattle.bpg_format.specs.declared.answer.Written.{Written}
use Rattle.bpg_format.specs.Write.{write_outcome, written_answer, written_buffer}
use Rattle.bpg_export_list.specs.Numbers.{alpha_start, color_start, data_start, count_place, fixed_length, list_length}
use Rattle.bpg_import_list.specs.Fields.{count_of, list_record}

-- ---- whether each number fits its field: it is at most this

abbrev pub flag : ℕ
flag = 1

abbrev pub byte : ℕ
byte = 2 ^ 8 - 1

abbrev pub short : ℕ
short = 2 ^ 16 - 1

abbrev pub word : ℕ
word = 2 ^ 32 - 1

-- 0 to 13: bytes 4 and 5, the size, the data length written out, the loop numbers
abbrev pub head_fields : List ℕ
head_fields = byte ∷ flag ∷ byte ∷ byte ∷ flag ∷ flag ∷ flag ∷ flag ∷ word ∷ word ∷ flag ∷ short ∷ short ∷ short ∷ []

-- a header's: block sizes, PCM, SPS extension, range flags
abbrev pub header_fields : List ℕ
header_fields =
    word ∷ word ∷ word ∷ word ∷ word ∷ flag ∷ flag ∷ byte ∷ byte ∷ word ∷ word ∷ flag ∷ flag ∷ flag ∷ flag ∷ byte
    ∷ flag ∷ flag ∷ flag ∷ flag ∷ flag ∷ flag ∷ flag ∷ flag ∷ flag ∷ []

-- a range
abbrev pub range_fields : List ℕ
range_fields = word ∷ word ∷ []

-- the list begins with numbers that are at most these
unfoldable pub within : (fields l : List ℕ) → Bool
within [] l = true
within (m ∷ ms) l = leb (get_or l 0 0) m && within ms (drop 1 l)

-- the fixed numbers but for the coded size, which is not looked at
unfoldable pub fixed_fits : List ℕ → Bool
fixed_fits l =
    within head_fields l
    && (within header_fields (drop alpha_start l)
    && (within header_fields (drop color_start l) && (within range_fields (drop data_start l) && leb (get_or l count_place 0) word)))

-- all numbers are at most a word
unfoldable pub words : List ℕ → Bool
words [] = true
words (x ∷ l) = leb x word && words l

-- ---- the record of a list: 20 for a list without the fixed numbers, 19 for one that its field cannot hold, 11 for a count above the
-- limit, 20 for a list without the entries, 19 for a number of theirs

unfoldable pub read_list : List ℕ → Outcome Record
read_list l =
    guard (leb fixed_length (length l)) 20 0 >>= λ _.
    guard (fixed_fits l) 19 0 >>= λ _.
    guard (leb (count_of l) max_entries) 11 0 >>= λ _.
    guard (leb (list_length (count_of l)) (length l)) 20 0 >>= λ _.
    guard (words (take (4 * count_of l) (drop fixed_length l))) 19 0 >>= λ _.
    ok (list_record l)

-- ---- and then as the record is written

unfoldable pub list_outcome : (capacity : ℕ) → (numbers source : List ℕ) → Outcome (List ℕ)
list_outcome capacity numbers source = read_list numbers >>= λ r. write_outcome capacity r source

unfoldable pub write_answer : (numbers source out : List ℕ) → Written
write_answer numbers source out = written_answer (list_outcome (length out) numbers source)

unfoldable pub write_bytes : (numbers source out : List ℕ) → List ℕ
write_bytes numbers source out = written_buffer (list_outcome (length out) numbers source) out

-- the answer before there is a buffer: one that holds every file
unfoldable pub size_answer : (numbers source : List ℕ) → Written
size_answer numbers source = written_answer (list_outcome max_file numbers source)
