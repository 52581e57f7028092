-- Request 9/13 on the head call, in its own words and as types over the definitions that the call's contract cites. `proofs/Requirements` proves
-- them; the body call's are in `bpg_reader/specs/Requirements`.
use Rattle.std.specs.Prelude.{◌≡◌, List, [], ◌∷◌, ◌≢◌, ℕ, ◌≤◌, take}
use Rattle.bpg_codec.specs.Outcome.{ok}
use Rattle.bpg_codec.specs.Lawful.{All, Byte}
use Rattle.bpg_format.specs.Read.{Head, read_head}
use Rattle.bpg_head_rules.specs.Calls.{refused_head_reading, head_file, HeadStatus}

-- "(a fourth number may need a sixth byte to be refused)": three numbers of five bytes, and such a fourth
abbrev pub longest : List ℕ
longest =
    0x42 ∷ 0x50 ∷ 0x47 ∷ 0xfb ∷ 0x20 ∷ 0x08 ∷ 0x8f ∷ 0xff ∷ 0xff ∷ 0xff ∷ 0x7f ∷ 0x8f ∷ 0xff ∷ 0xff ∷ 0xff ∷ 0x7f
    ∷ 0x8f ∷ 0xff ∷ 0xff ∷ 0xff ∷ 0x7f ∷ 0x8f ∷ 0xff ∷ 0xff ∷ 0xff ∷ 0xff ∷ 0x00 ∷ []

-- so many bytes are enough
abbrev pub enough_bytes : ℕ
enough_bytes = 27

-- a file that ends with its head, whose block would have 127 bytes
abbrev pub oversize : List ℕ
oversize = 0x42 ∷ 0x50 ∷ 0x47 ∷ 0xfb ∷ 0x20 ∷ 0x08 ∷ 0x08 ∷ 0x08 ∷ 0x00 ∷ 0x7f ∷ []

pub record HeadCall : Type 0 where
  -- "The head call given a file's first 27 bytes, or all of a shorter file, answers as it does given the whole": status, offset and every field.
  -- So do all longer beginnings. A file is a list of bytes
  pub enough : (f : List ℕ) → All Byte f → (n : ℕ) → enough_bytes ≤ n → head_file (take n f) ≡ head_file f
  -- 26 are not enough
  pub needed : (head_file (take 26 longest) ≡ refused_head_reading 2 26) × (head_file longest ≡ refused_head_reading 8 26)
  -- "the head gives those of its items, never 1": no other number, and with it zeros
  pub refused : (f : List ℕ) → (head_file f).status ≢ 0 → head_file f ≡ refused_head_reading (head_file f).status (head_file f).offset
  pub number : (f : List ℕ) → (head_file f).status ≢ 0 → HeadStatus (head_file f).status
  -- "and never an oversize block": the file that ends where its head ends, before any block, has the same head
  pub never-oversize : ((head_file oversize).status ≡ 0) × ((head_file oversize).head.extension_length ≡ 127)
  pub alone : (f : List ℕ) (h : Head) → read_head f ≡ ok h → head_file (take h.end f) ≡ head_file f
