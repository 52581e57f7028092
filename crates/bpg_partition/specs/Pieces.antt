-- The pieces of a file, in its order: the head, each entry head before its payload, the headers, the data.
use Rattle.std.specs.Prelude.{Bool, List, [], ◌∷◌, ◌++◌, ℕ, ◌+◌, eqb, length}
use Rattle.bpg_codec.specs.Select.{select}
use Rattle.bpg_ue7.specs.Ue7.{ue7_bytes}
use Rattle.bpg_format.specs.declared.record.Range.{Range}
use Rattle.bpg_format.specs.Zero.{range}
use Rattle.bpg_format.specs.Content.{Extension, Content, has_alpha}
use Rattle.bpg_format.specs.Syntax.{magic, byte4, byte5, block_bytes, header_bytes, data_length}

pub data Kind : Type 0 where
  the_head : Kind
  entry_head : Kind
  payload : Kind
  the_headers : Kind
  the_data : Kind

pub record Piece : Type 0 where
  pub kind : Kind
  pub bytes : List ℕ

abbrev pub piece : Kind → List ℕ → Piece
piece k l = record { kind = k; bytes = l }

-- each entry head before its payload
abbrev pub entry_pieces : List Extension → List Piece
entry_pieces [] = []
entry_pieces (e ∷ es) = piece entry_head (ue7_bytes e.tag ++ ue7_bytes (length e.payload)) ∷ piece payload e.payload ∷ entry_pieces es

abbrev pub head_piece : Content → List ℕ
head_piece c =
    magic ++ (byte4 c.flags ∷ byte5 c.flags ∷ (ue7_bytes c.width ++ (ue7_bytes c.height ++ (ue7_bytes (data_length c)
    ++ select c.flags.extension_present (ue7_bytes (length (block_bytes c.extensions))) []))))

abbrev pub headers_piece : Content → List ℕ
headers_piece c = select (has_alpha c.flags) (header_bytes c.alpha_header) [] ++ header_bytes c.color_header

-- the head, the entries, the headers, the data
unfoldable pub pieces : Content → List Piece
pieces c = piece the_head (head_piece c) ∷ (entry_pieces c.extensions ++ (piece the_headers (headers_piece c) ∷ piece the_data c.hevc_data ∷ []))

-- laid end to end
unfoldable pub laid : List Piece → List ℕ
laid [] = []
laid (x ∷ xs) = x.bytes ++ laid xs

-- kinds are told apart by their numbers
abbrev pub rank : Kind → ℕ
rank the_head = 0
rank entry_head = 1
rank payload = 2
rank the_headers = 3
rank the_data = 4

abbrev pub is : Kind → Piece → Bool
is k x = eqb (rank x.kind) (rank k)

-- the bytes of one kind
unfoldable pub count_of : Kind → List Piece → ℕ
count_of k [] = 0
count_of k (x ∷ xs) = select (is k x) (length x.bytes) 0 + count_of k xs

-- where the pieces of one kind lie, laid from p on
unfoldable pub ranges_of_kind : Kind → (p : ℕ) → List Piece → List Range
ranges_of_kind k p [] = []
ranges_of_kind k p (x ∷ xs) = select (is k x) (range p (length x.bytes) ∷ []) [] ++ ranges_of_kind k (p + length x.bytes) xs
