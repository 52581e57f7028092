-- Request 9/13 on reading in two calls, in its own words and as types over the definitions that the calls' contracts cite. `proofs/Requirements`
-- proves them; what is claimed of the head call alone is in `bpg_head_rules/specs/Requirements`.
use Rattle.std.specs.Prelude.{◌≡◌, List, ◌≢◌, ℕ, ◌≤◌, ◌<◌, leb, eqb, length, take}
use Rattle.bpg_codec.specs.Select.{select}
use Rattle.bpg_format.specs.Limits.{max_file}
use Rattle.bpg_format.specs.Zero.{refused_reading}
use Rattle.bpg_format.specs.Content.{Content}
use Rattle.bpg_format.specs.Syntax.{block_bytes, data_length, file_of}
use Rattle.bpg_format.specs.Rules.{Rules}
use Rattle.bpg_format.specs.Records.{read_file}
use Rattle.bpg_head_rules.specs.declared.CodedHead.{CodedHead}
use Rattle.bpg_read_head.specs.FlagBytes.{coded_flags}
use Rattle.bpg_head_rules.specs.Calls.{head_file, head_numbers}
use Rattle.bpg_read_survey.specs.Given.{BodyStatus}
use Rattle.bpg_reader.specs.Calls.{body_list, body_file}

-- the head of a content's file: "size and format", and the two lengths as the syntax codes them
abbrev pub head_of_content : Content → CodedHead
head_of_content c =
    record {
      flags = coded_flags c.flags;
      picture_width = c.width;
      picture_height = c.height;
      data_length = data_length c;
      extension_length = length (block_bytes c.extensions);
    }

pub record HeadFirst : Type 0 where
  -- "The present reading becomes limit check, head, body, with its answers unchanged"
  pub composition : (f : List ℕ)
      → read_file f
      ≡ select (leb (length f) max_file)
      (select (eqb (head_file f).status 0) (body_file (head_file f).head f) (refused_reading (head_file f).status (head_file f).offset)) (refused_reading 1 0)
  -- the body, given the head that the head call answered for this file, is reading, for every file
  pub own-head : (f : List ℕ) → body_file (head_file f).head f ≡ read_file f
  -- a file whose head is refused is refused alike by reading, unless it is too long
  pub head-refused : (f : List ℕ) → length f ≤ max_file → (head_file f).status ≢ 0 → read_file f ≡ refused_reading (head_file f).status (head_file f).offset
  -- the head of an accepted file is its content's
  pub accepted : (c : Content) → Rules c → head_file (file_of c) ≡ record { status = 0; offset = 0; head = head_of_content c }

-- "the body gives 1, the head's, 21 at 0 for a head that is not this file's, then the rest", whatever head is given
pub record BodyRefusals : Type 0 where
  pub long : (given : CodedHead) (f : List ℕ) → max_file < length f → body_file given f ≡ refused_reading 1 0
  pub head : (given : CodedHead) (f : List ℕ) → length f ≤ max_file → (head_file f).status ≢ 0 → body_file given f ≡ refused_reading (head_file f).status (head_file f).offset
  pub other-head : (given : CodedHead) (f : List ℕ) → length f ≤ max_file → (head_file f).status ≡ 0 → given ≢ (head_file f).head → body_file given f ≡ refused_reading 21 0
  pub same_head : (given : CodedHead) (f : List ℕ) → given ≡ (head_file f).head → body_file given f ≡ read_file f
  -- it gives no other number, and with each an all-zero record
  pub number : (given : CodedHead) (f : List ℕ) → (body_file given f).status ≢ 0 → BodyStatus (body_file given f).status
  pub refused : (given : CodedHead) (f : List ℕ) → (body_file given f).status ≢ 0
      → body_file given f ≡ refused_reading (body_file given f).status (body_file given f).offset

-- the same of any list of numbers: that of a head, or a caller's in C
pub record BodyListRefusals : Type 0 where
  pub long : (given f : List ℕ) → max_file < length f → body_list given f ≡ refused_reading 1 0
  pub head : (given f : List ℕ) → length f ≤ max_file → (head_file f).status ≢ 0 → body_list given f ≡ refused_reading (head_file f).status (head_file f).offset
  -- a list that does not begin with the 12 numbers of its head: one with a number that no field holds, and one that is shorter, is not this file's
  pub other-numbers : (given f : List ℕ) → length f ≤ max_file → (head_file f).status ≡ 0 → take 12 given ≢ head_numbers (head_file f).head → body_list given f ≡ refused_reading 21 0
  pub short-list : (given f : List ℕ) → length f ≤ max_file → (head_file f).status ≡ 0 → length given < 12 → body_list given f ≡ refused_reading 21 0
  pub same_numbers : (given f : List ℕ) → take 12 given ≡ head_numbers (head_file f).head → body_list given f ≡ read_file f
  -- it gives no other number, and with each an all-zero record
  pub number : (given f : List ℕ) → (body_list given f).status ≢ 0 → BodyStatus (body_list given f).status
  pub refused : (given f : List ℕ) → (body_list given f).status ≢ 0 → body_list given f ≡ refused_reading (body_list given f).status (body_list given f).offset
