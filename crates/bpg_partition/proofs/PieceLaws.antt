-- The pieces of a file: what they have of each kind, and where they lie.
use mathlib.Core.Path.{◌≡◌, refl, sym, ap, ap₂, ◌∙◌}
use mathlib.Core.Bool.{Bool, true, false}
use mathlib.Core.List.{List, [], ◌∷◌, ◌++◌, map, append_assoc, append-nil}
use Prim.Native.Nat.{ℕ, ◌+◌}
use native.Mathlib.Omega.{arith}
use lib.Dec.{eqb}
use lib.ListN.{length, length-append}
use Rattle.bpg_codec.specs.Select.{select}
use Rattle.bpg_codec.proofs.Select.{select-false}
use Rattle.bpg_ue7.specs.Ue7.{ue7_bytes}
use Rattle.bpg_format.specs.declared.record.Range.{Range}
use Rattle.bpg_format.specs.declared.record.Entry.{Entry}
use Rattle.bpg_format.specs.Content.{Extension, Content, has_alpha}
use Rattle.bpg_format.specs.Syntax.{block_bytes, header_bytes, headers_and_data, file_of}
use Rattle.bpg_format.specs.Rules.{Rules}
use Rattle.bpg_format.specs.Records.{entries_at}
use Rattle.bpg_format.proofs.RuleLaws.{entry-size}
use Rattle.bpg_format.proofs.RecordLaws.{head_bytes as fixed_bytes, before_entries, file-entries, before-length}
use Rattle.bpg_partition.specs.Partitions.{head_count, entry_head_count, payload_count, header_count}
use Rattle.bpg_partition.specs.Pieces.{Kind, entry_head, payload, Piece, entry_pieces, head_piece, headers_piece, pieces, laid, rank, count_of, ranges_of_kind}
use Rattle.bpg_partition.proofs.CountLaws.{head-start}

-- ---- end to end

laid-entries : (es : List Extension) (rest : List Piece) → laid (entry_pieces es ++ rest) ≡ block_bytes es ++ laid rest
unfolding laid
laid-entries [] rest = refl
laid-entries (e ∷ es) rest = rw (laid-entries es rest) (simp append_assoc)

pub head-is : (c : Content) → head_piece c ≡ before_entries c
unfolding fixed_bytes before_entries
head-is c = simp append_assoc

pub laid-file : (c : Content) → Rules c → laid (pieces c) ≡ file_of c
unfolding pieces laid headers_and_data
laid-file c r =
    ap₂ ◌++◌ (head-is c) (laid-entries c.extensions _ ∙ ap (λ (l : List ℕ). block_bytes c.extensions ++ l) (simp (append_assoc, append-nil)))
    ∙ sym (file-entries c r.absent-block)

-- ---- counts

select-length : (b : Bool) (l : List ℕ) → length (select b l []) ≡ select b (length l) 0
unfolding select
select-length true l = refl
select-length false l = refl

pub head-length : (c : Content) → length (head_piece c) ≡ head_count c
head-length c = ap length (head-is c) ∙ before-length c ∙ sym (head-start c)

pub headers-length : (c : Content) → length (headers_piece c) ≡ header_count c
unfolding header_count
headers-length c =
    length-append (select (has_alpha c.flags) (header_bytes c.alpha_header) []) (header_bytes c.color_header)
    ∙ ap (λ (n : ℕ). n + length (header_bytes c.color_header)) (select-length (has_alpha c.flags) (header_bytes c.alpha_header))

pub heads-counted : (es : List Extension) (rest : List Piece) → count_of entry_head (entry_pieces es ++ rest) ≡ entry_head_count es + count_of entry_head rest
unfolding count_of select entry_head_count
heads-counted [] rest = omega arith
heads-counted (e ∷ es) rest = omega (arith, heads-counted es rest, length-append (ue7_bytes e.tag) (ue7_bytes (length e.payload)))

pub payloads-counted : (es : List Extension) (rest : List Piece) → count_of payload (entry_pieces es ++ rest) ≡ payload_count es + count_of payload rest
unfolding count_of select payload_count
payloads-counted [] rest = omega arith
payloads-counted (e ∷ es) rest = omega (arith, payloads-counted es rest)

-- ---- where they lie

-- where the first entry's payload starts, and where what follows it does
starts : (e : Extension) (p : ℕ) → p + length (ue7_bytes e.tag ++ ue7_bytes (length e.payload)) ≡ p + length (ue7_bytes e.tag) + length (ue7_bytes (length e.payload))
starts e p = omega (arith, length-append (ue7_bytes e.tag) (ue7_bytes (length e.payload)))

pub payloads-lie : (es : List Extension) (p q : ℕ) (rest : List Piece) → p + length (block_bytes es) ≡ q
    → ranges_of_kind payload p (entry_pieces es ++ rest) ≡ map (λ (e : Entry). e.payload) (entries_at p es) ++ ranges_of_kind payload q rest
unfolding ranges_of_kind select
payloads-lie [] p q rest h = let e : p ≡ q = omega arith in rw e
payloads-lie (e ∷ es) p q rest h =
    let next = p + length (ue7_bytes e.tag) + length (ue7_bytes (length e.payload)) + length e.payload in
    rw (starts e p, payloads-lie es next q rest (omega (arith, entry-size e es, h)))

-- a kind that no piece of an entry is of
module _ (k : Kind) (no-head : eqb 1 (rank k) ≡ false) (no_payload : eqb 2 (rank k) ≡ false) where
  pub others-counted : (es : List Extension) (rest : List Piece) → count_of k (entry_pieces es ++ rest) ≡ count_of k rest
  unfolding count_of
  others-counted [] rest = refl
  others-counted (e ∷ es) rest =
      omega (arith, select-false (length (ue7_bytes e.tag ++ ue7_bytes (length e.payload))) 0 no-head, select-false (length e.payload) 0 no_payload, others-counted es rest)

  pub others-lie : (es : List Extension) (p q : ℕ) (rest : List Piece) → p + length (block_bytes es) ≡ q → ranges_of_kind k p (entry_pieces es ++ rest) ≡ ranges_of_kind k q rest
  unfolding ranges_of_kind
  others-lie [] p q rest h = let e : p ≡ q = omega arith in rw e
  others-lie (e ∷ es) p q rest h =
      let next = p + length (ue7_bytes e.tag ++ ue7_bytes (length e.payload)) + length e.payload in
      ap₂ (λ (a b : List Range). a ++ (b ++ ranges_of_kind k next (entry_pieces es ++ rest))) (select-false _ _ no-head) (select-false _ _ no_payload)
      ∙ others-lie es next q rest (omega (arith, starts e p, entry-size e es, h))
