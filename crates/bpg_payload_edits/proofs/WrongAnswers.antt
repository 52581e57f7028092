-- What the theorem must not say: it is false for payloads with tag 5, and for a second file that is longer.
use mathlib.Core.Path.{◌≡◌, refl, sym, ap, ◌∙◌, subst}
use mathlib.Core.Bool.{Bool, true, ◌&&◌}
use mathlib.Core.List.{List, [], ◌∷◌, ◌++◌}
use mathlib.Core.Logic.{◌≢◌}
use Prim.Native.Nat.{ℕ}
use native.Mathlib.Omega.{arith}
use lib.Dec.{T, ltb, ltb→lt}
use lib.Count.{count_leading_zeros}
use lib.ListN.{length, set, get_or-append}
use lib.Seq.{get_or-set_other}
use Rattle.bpg_codec.specs.Select.{select}
use Rattle.bpg_codec.specs.Lawful.{All, Byte}
use Rattle.bpg_codec.specs.Bits.{bits, unpack, padded}
use Rattle.bpg_codec.proofs.Select.{and_left, and_right}
use Rattle.bpg_ue7.specs.Ue7.{groups, ue7_bytes, ue7_rest, ue7_decode}
use Rattle.bpg_bits.specs.BitNumbers.{prefix_decode, exp_golomb_bits}
use Rattle.bpg_format.specs.declared.answer.Reading.{Reading}
use Rattle.bpg_format.specs.Syntax.{header_bits, header_bytes, headers_and_data, data_length}
use Rattle.bpg_format.specs.Rules.{Accepted}
use Rattle.bpg_format.specs.Tests.{no_forbidden_bit, pcm_allowed, hevc_allowed, data_allowed}
use Rattle.bpg_format.specs.Read.{read_flags, read_head, read_animation, animation_of, read_entry, read_entries, read_block, read_fields, read_header, read_alpha_header, read_body, read_content}
use Rattle.bpg_format.specs.Records.{extension_length_start, block_start, data_start, record_of, used_entries, read_file}
use Rattle.bpg_format.specs.Parts.{record_in, entry_of}
use Rattle.bpg_format.specs.Examples.{file_a, file_c}
use Rattle.bpg_format.proofs.Requirements.{reading}
use Rattle.bpg_payload_edits.specs.Edits.{InChosen, AgreeOutside}

-- C with the period of its animation control, at 14, set to 0; and A with a byte more
abbrev stopped : List ℕ
stopped = set file_c 14 0

abbrev longer : List ℕ
longer = file_a ++ (0 ∷ [])

record Answers : Type 0 where
  a-status : (read_file file_a).status ≡ 0
  a-data : (read_file file_a).«record».«data».length ≡ 2
  longer-data : (read_file longer).«record».«data».length ≡ 3
  c-status : (read_file file_c).status ≡ 0
  c-tag : (entry_of file_c 0).tag ≡ 5
  c-start : (entry_of file_c 0).payload.start ≡ 13
  c-length : (entry_of file_c 0).payload.length ≡ 3
  stopped-status : (read_file stopped).status ≡ 12

answers : Answers
unfolding select bits unpack padded groups ue7_bytes ue7_rest ue7_decode count_leading_zeros prefix_decode exp_golomb_bits header_bits header_bytes headers_and_data
    data_length no_forbidden_bit pcm_allowed hevc_allowed data_allowed read_flags read_head read_animation animation_of read_entry read_entries read_block
    read_fields read_header read_alpha_header read_body read_content extension_length_start block_start data_start record_of read_file entry_of
answers =
    record {
      a-status = refl;
      a-data = refl;
      longer-data = refl;
      c-status = refl;
      c-tag = refl;
      c-start = refl;
      c-length = refl;
      stopped-status = refl;
    }

-- bytes, by computation
abbrev small : List ℕ → Bool
small [] = true
small (b ∷ l) = ltb b 256 && small l

all_small : (l : List ℕ) → T (small l) → All Byte l
all_small [] t = tt
all_small (b ∷ l) t = (ltb→lt b 256 (and_left (ltb b 256) (small l) t), all_small l (and_right (ltb b 256) (small l) t))

-- the first entry
abbrev First : ℕ → Type 0
First k = k ≡ 0

in_control : InChosen First (used_entries (record_in file_c)) 14
unfolding entry_of
in_control =
    record {
      index = 0;
      is-chosen = refl;
      inside = record { after-start = omega (arith, answers.c-start); before-end = omega (arith, answers.c-start, answers.c-length) };
    }

-- the theorem with another tag in the place of 5: a file that is refused would be accepted
tag-matters : (tag : ℕ) → tag ≢ 5
    → ¬ ((chosen : ℕ → Type 0) (f g : List ℕ) → Accepted f → length g ≡ length f → All Byte g → ((k : ℕ) → chosen k → (entry_of f k).tag ≢ tag)
    → AgreeOutside chosen f g → (read_file g).status ≡ 0)
tag-matters tag n holds =
    absurd
    (omega (
      arith,
      answers.stopped-status,
      holds First file_c stopped (reading.only-accepted file_c (all_small file_c tt) answers.c-status) refl (all_small stopped tt)
          (λ k h t. n (sym t ∙ ap (λ (j : ℕ). (entry_of file_c j).tag) h ∙ answers.c-tag))
          (λ offset h out. get_or-set_other file_c 14 offset 0 0 λ e. out (subst (InChosen First (used_entries (record_in file_c))) (sym e) in_control)),
    ))

-- the theorem without the equal lengths: a record that differs would be equal
length-matters : ¬ ((chosen : ℕ → Type 0) (f g : List ℕ) → Accepted f → All Byte g → ((k : ℕ) → chosen k → (entry_of f k).tag ≢ 5) → AgreeOutside chosen f g
    → read_file g ≡ read_file f)
length-matters holds =
    let same =
    holds (λ _. ⊥) file_a longer (reading.only-accepted file_a (all_small file_a tt) answers.a-status) (all_small longer tt)
    (λ k h t. h) (λ offset h out. get_or-append file_a (0 ∷ []) 0 offset h) in
    absurd (omega (arith, ap (λ (x : Reading). x.«record».«data».length) same, answers.a-data, answers.longer-data))
