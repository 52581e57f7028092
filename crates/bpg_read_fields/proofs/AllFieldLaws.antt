-- All fields of a header as a chain of groups.
use mathlib.Core.Path.{◌≡◌, refl, sym, ap, ◌∙◌}
use mathlib.Core.Bool.{Bool, false}
use mathlib.Core.List.{List}
use Prim.Native.Nat.{ℕ}
use lib.Dec.{eqb}
use lib.ListN.{replicate}
use Rattle.bpg_codec.specs.Outcome.{Outcome, ok, error, ◌>>=◌}
use Rattle.bpg_codec.specs.Codec.{Codec, decode_at, at_item}
use Rattle.bpg_codec.specs.Bits.{Bit, bit}
use Rattle.bpg_codec.specs.Parts.{sequence, fixed}
use Rattle.bpg_codec.proofs.Outcome.{bind_assoc}
use Rattle.bpg_codec.proofs.Positions.{Advances, sequence-advances, absent-advances, select-advances, mapped-advances, mapped_at, sequence-at, four-at, five-at, fixed-advances}
use Rattle.bpg_bits.specs.BitNumbers.{unsigned, exp_golomb}
use Rattle.bpg_bits.proofs.Advances.{unsigned-advances, exp_golomb-advances}
use Rattle.bpg_bits.proofs.Items.{missing_at, Itemed, unsigned-items, exp_golomb-items, sequence-items, mapped-items, optional-items, fixed-items, at_item-located}
use Rattle.bpg_format.specs.declared.record.Header.{Header}
use Rattle.bpg_format.specs.FileCodec.{one_bit, optional, size_fields, pcm_fields, sps_fields, no_pcm, no_sps, field_sequence, header_from, fields_of, header_fields}
use Rattle.std.specs.Prelude.{Option, Some, None}
use Rattle.bpg_bytes.specs.declared.position.BitPos.{BitPos}
use Rattle.bpg_bytes.specs.declared.position.Located.{Located}
use Rattle.bpg_read_fields.specs.AllFields.{fields_answer}

-- the fields from strong intra smoothing on
abbrev RestTuple : Type 0
RestTuple = Bool × (Bool × ((Bool × ℕ) × List Bool))

unfoldable pub rest_sequence : Codec Bool RestTuple
rest_sequence =
    sequence one_bit λ _.
    sequence one_bit λ sps.
    sequence (optional sps sps_fields no_sps) λ x.
    optional x.0 (fixed Bit 9 15 at_item) (replicate 9 false)

-- ---- what is left

pub flag-advances : Advances one_bit
flag-advances = mapped-advances (unsigned-advances 1) (λ v. eqb v 1) bit

sizes-advance : Advances size_fields
unfolding size_fields
sizes-advance =
    let e = exp_golomb-advances in
    sequence-advances e λ _. sequence-advances e λ _. sequence-advances e λ _. sequence-advances e λ _. e

pub optional-advances : {A : Type 0} {c : Codec Bool A} (b : Bool) (e : A) → Advances c → Advances (optional b c e)
optional-advances b e h = select-advances b h (absent-advances e)

pcm-advances : Advances pcm_fields
unfolding pcm_fields
pcm-advances =
    let u = unsigned-advances 4 in
    let e = exp_golomb-advances in
    sequence-advances u λ _. sequence-advances u λ _. sequence-advances e λ _. sequence-advances e λ _. flag-advances

sps-advances : Advances sps_fields
unfolding sps_fields
sps-advances = sequence-advances flag-advances λ _. unsigned-advances 7

rest-advances : Advances rest_sequence
unfolding rest_sequence
rest-advances =
    sequence-advances flag-advances λ _.
    sequence-advances flag-advances λ sps.
    sequence-advances (optional-advances sps no_sps sps-advances) λ x.
    optional-advances x.0 (replicate 9 false) (fixed-advances Bit 9 15 at_item)

sequence-advance : Advances field_sequence
unfolding field_sequence rest_sequence
sequence-advance =
    sequence-advances sizes-advance λ _. sequence-advances flag-advances λ _. sequence-advances flag-advances λ pcm.
    sequence-advances (optional-advances pcm no_pcm pcm-advances) λ _. rest-advances

pub fields-advance : Advances header_fields
unfolding header_fields
fields-advance = mapped-advances sequence-advance header_from fields_of

-- ---- what is missing

sizes-items : Itemed size_fields
unfolding size_fields
sizes-items =
    let e = exp_golomb-items in
    sequence-items e λ _. sequence-items e λ _. sequence-items e λ _. sequence-items e λ _. e

flag-items : Itemed one_bit
flag-items = mapped-items (unsigned-items 1) (λ v. eqb v 1) bit

pcm-items : Itemed pcm_fields
unfolding pcm_fields
pcm-items =
    let u = unsigned-items 4 in
    let e = exp_golomb-items in
    sequence-items u λ _. sequence-items u λ _. sequence-items e λ _. sequence-items e λ _. flag-items

sps-items : Itemed sps_fields
unfolding sps_fields
sps-items = sequence-items flag-items λ _. unsigned-items 7

sequence-items-all : Itemed field_sequence
unfolding field_sequence
sequence-items-all =
    sequence-items sizes-items λ _.
    sequence-items flag-items λ _.
    sequence-items flag-items λ pcm.
    sequence-items (optional-items pcm-items pcm no_pcm) λ _.
    sequence-items flag-items λ _.
    sequence-items flag-items λ sps.
    sequence-items (optional-items sps-items sps no_sps) λ x.
    optional-items (fixed-items 9) x.0 (replicate 9 false)

fields-items : Itemed header_fields
unfolding header_fields
fields-items = mapped-items sequence-items-all header_from fields_of

-- an answer says for each item what is there
module _ (bits : List Bool) (p : ℕ) (r : Option (Located Header BitPos)) (e : r ≡ fields_answer (decode_at bits header_fields 0 p)) (i : ℕ) where
  pub fields-missing : r ≡ None → decode_at bits header_fields i p ≡ error 15 i
  fields-missing f = at_item-located fields-items bits i p ∙ by (decode_at bits header_fields 0 p) (sym f ∙ e)
    where
      by : (m : Outcome (Header × ℕ)) → None ≡ fields_answer m → missing_at i m ≡ error 15 i
      by (ok x) k = cc
      by (error s o) k = refl

  pub fields-found : (x : Located Header BitPos) → r ≡ Some x → decode_at bits header_fields i p ≡ ok (x.value, x.next.0)
  fields-found x f = at_item-located fields-items bits i p ∙ by (decode_at bits header_fields 0 p) (sym f ∙ e)
    where
      by : (m : Outcome (Header × ℕ)) → Some x ≡ fields_answer m → missing_at i m ≡ ok (x.value, x.next.0)
      by (ok y) k = let same : x ≡ record { value = y.0; next = record { 0 = y.1 } } = cc in ap (λ (z : Located Header BitPos). ok (z.value, z.next.0)) (sym same)
      by (error s o) k = cc

-- ---- the chains

module _ (bits : List Bool) (i p : ℕ) where
  pub rest_at : decode_at bits rest_sequence i p
      ≡ (decode_at bits one_bit i p >>= λ strong.
      decode_at bits one_bit i strong.1 >>= λ sps.
      decode_at bits (optional sps.0 sps_fields no_sps) i sps.1 >>= λ x.
      decode_at bits (optional x.0.0 (fixed Bit 9 15 at_item) (replicate 9 false)) i x.1 >>= λ nine.
      ok ((strong.0, (sps.0, (x.0, nine.0))), nine.1))
  unfolding rest_sequence
  rest_at =
      four-at bits flag-advances (λ _. flag-advances) (λ _ sps. optional-advances sps no_sps sps-advances)
      (λ _ _ x. optional x.0 (fixed Bit 9 15 at_item) (replicate 9 false)) i p

  sequence-chain : decode_at bits field_sequence i p
      ≡ (decode_at bits size_fields i p >>= λ sizes.
      decode_at bits one_bit i sizes.1 >>= λ sao.
      decode_at bits one_bit i sao.1 >>= λ pcm.
      decode_at bits (optional pcm.0 pcm_fields no_pcm) i pcm.1 >>= λ x.
      decode_at bits rest_sequence i x.1 >>= λ rest.
      ok ((sizes.0, (sao.0, (pcm.0, (x.0, rest.0)))), rest.1))
  unfolding field_sequence rest_sequence
  sequence-chain =
      five-at bits sizes-advance (λ _. flag-advances) (λ _ _. flag-advances) (λ _ _ pcm. optional-advances pcm no_pcm pcm-advances) rest_sequence i p

  pub fields_at : decode_at bits header_fields i p
      ≡ (decode_at bits size_fields i p >>= λ sizes.
      decode_at bits one_bit i sizes.1 >>= λ sao.
      decode_at bits one_bit i sao.1 >>= λ pcm.
      decode_at bits (optional pcm.0 pcm_fields no_pcm) i pcm.1 >>= λ x.
      decode_at bits rest_sequence i x.1 >>= λ rest.
      ok (header_from (sizes.0, (sao.0, (pcm.0, (x.0, rest.0)))), rest.1))
  unfolding header_fields
  fields_at = mapped_at bits field_sequence header_from fields_of i p ∙ rw sequence-chain (simp bind_assoc)

-- ---- the groups

module _ (bits : List Bool) (p : ℕ) where
  pub sizes-at : decode_at bits size_fields 0 p
      ≡ (decode_at bits exp_golomb 0 p >>= λ a.
      decode_at bits exp_golomb 0 a.1 >>= λ b.
      decode_at bits exp_golomb 0 b.1 >>= λ c.
      decode_at bits exp_golomb 0 c.1 >>= λ d.
      decode_at bits exp_golomb 0 d.1 >>= λ e.
      ok ((a.0, (b.0, (c.0, (d.0, e.0)))), e.1))
  unfolding size_fields
  sizes-at = let h = exp_golomb-advances in five-at bits h (λ _. h) (λ _ _. h) (λ _ _ _. h) exp_golomb 0 p

  pub pcm-at : decode_at bits pcm_fields 0 p
      ≡ (decode_at bits (unsigned 4) 0 p >>= λ a.
      decode_at bits (unsigned 4) 0 a.1 >>= λ b.
      decode_at bits exp_golomb 0 b.1 >>= λ c.
      decode_at bits exp_golomb 0 c.1 >>= λ d.
      decode_at bits one_bit 0 d.1 >>= λ e.
      ok ((a.0, (b.0, (c.0, (d.0, e.0)))), e.1))
  unfolding pcm_fields
  pcm-at = let h = unsigned-advances 4 in let g = exp_golomb-advances in five-at bits h (λ _. h) (λ _ _. g) (λ _ _ _. g) one_bit 0 p

  pub sps-at : decode_at bits sps_fields 0 p ≡ (decode_at bits one_bit 0 p >>= λ a. decode_at bits (unsigned 7) 0 a.1 >>= λ b. ok ((a.0, b.0), b.1))
  unfolding sps_fields
  sps-at = sequence-at bits flag-advances (λ _. unsigned 7) 0 p

  pub flag_at : {B : Type 0} (k : Bool × ℕ → Outcome B)
      → (decode_at bits one_bit 0 p >>= k) ≡ (decode_at bits (unsigned 1) 0 p >>= λ x. k (eqb x.0 1, x.1))
  flag_at k = rw (mapped_at bits (unsigned 1) (λ v. eqb v 1) bit 0 p) (bind_assoc (decode_at bits (unsigned 1) 0 p) _ k)
