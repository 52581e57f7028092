-- For proofs and inner contracts: the fields of a HEVC header one by one (document 01, "Order of the file", item 6), as a table. Its rows are
-- `header_fields` (`proofs/TableLaws`).
use Rattle.std.specs.Prelude.{Option, Some, None, Bool, List, [], ◌∷◌, ◌++◌, ℕ, zero, suc, min, ◌-◌, ◌%◌, eqb, get_or, set, replicate}
use Rattle.bpg_codec.specs.Select.{select}
use Rattle.bpg_codec.specs.Outcome.{Outcome, ok, error, ◌>>=◌}
use Rattle.bpg_codec.specs.Codec.{Codec, decode_at}
use Rattle.bpg_bytes.specs.declared.position.BitPos.{BitPos}
use Rattle.bpg_bytes.specs.declared.position.Located.{Located}
use Rattle.bpg_bytes.specs.Positions.{bit_pos}
use Rattle.bpg_bits.specs.BitNumbers.{unsigned, exp_golomb}
use Rattle.bpg_format.specs.declared.record.Header.{Header}
use Rattle.bpg_format.specs.FileCodec.{optional, header_from}

-- how many bits each field has; 0: it is ue(v). The last nine are the range flags
abbrev pub widths : List ℕ
widths = 0 ∷ 0 ∷ 0 ∷ 0 ∷ 0 ∷ 1 ∷ 1 ∷ 4 ∷ 4 ∷ 0 ∷ 0 ∷ 1 ∷ 1 ∷ 1 ∷ 1 ∷ 7 ∷ replicate 9 1

-- the flag that says whether it is there; the values are followed by a 1, for those that always are
abbrev pub gates : List ℕ
gates = 25 ∷ 25 ∷ 25 ∷ 25 ∷ 25 ∷ 25 ∷ 25 ∷ 6 ∷ 6 ∷ 6 ∷ 6 ∷ 6 ∷ 25 ∷ 25 ∷ 13 ∷ 13 ∷ replicate 9 14

-- the field that follows a group whose gate is not 1: 12 the PCM fields (6); none the range flags (14), and none the extension (13), for with 13
-- the flag 14 is absent, so 0
abbrev pub after_group : (gate : ℕ) → ℕ
after_group gate = select (eqb gate 6) 12 25

abbrev pub no_values : List ℕ
no_values = replicate 25 0 ++ (1 ∷ [])

-- a field of so many bits, at most 8, or ue(v); an absent one is 0
abbrev pub field_codec : (present : Bool) (width : ℕ) → Codec Bool ℕ
field_codec present width = optional present (select (eqb width 0) exp_golomb (unsigned (min width 8))) 0

-- field k, given the values of those before it
abbrev pub field_at : (k : ℕ) → List ℕ → Codec Bool ℕ
field_at k values = field_codec (eqb (get_or values (get_or gates k 0) 0) 1) (get_or widths k 0)

-- the last n fields, from p on
unfoldable pub values_from : (bits : List Bool) (n : ℕ) (values : List ℕ) (p : ℕ) → Outcome (List ℕ × ℕ)
values_from bits zero values p = ok (values, p)
values_from bits (suc n) values p = decode_at bits (field_at (24 - n) values) 0 p >>= λ x. values_from bits n (set values (24 - n) x.0) x.1

abbrev pub values_at : (values : List ℕ) (next : ℕ) → Located (List ℕ) BitPos
values_at v p = record { value = v; next = bit_pos p }

abbrev pub values_answer : Outcome (List ℕ × ℕ) → Option (Located (List ℕ) BitPos)
values_answer (ok x) = Some (values_at x.0 x.1)
values_answer (error s o) = None

abbrev flag : (k : ℕ) → List ℕ → Bool
flag k v = eqb (get_or v k 0) 1

-- the header that the values make; two depths and seven bits stand in bytes
abbrev pub header_of : List ℕ → Header
header_of v =
    header_from (
      (get_or v 0 0, (get_or v 1 0, (get_or v 2 0, (get_or v 3 0, get_or v 4 0)))),
      (
        flag 5 v,
        (
          flag 6 v,
          (
            (get_or v 7 0 % 256, (get_or v 8 0 % 256, (get_or v 9 0, (get_or v 10 0, flag 11 v)))),
            (
              flag 12 v,
              (
                flag 13 v,
                (
                  (flag 14 v, get_or v 15 0 % 256),
                  flag 16 v ∷ flag 17 v ∷ flag 18 v ∷ flag 19 v ∷ flag 20 v ∷ flag 21 v ∷ flag 22 v ∷ flag 23 v ∷ flag 24 v ∷ [],
                ),
              ),
            ),
          ),
        ),
      ),
    )
