-- Reading the head, by what each of its parts is read as.
use mathlib.Core.Path.{◌≡◌, refl, ◌∙◌}
use mathlib.Core.Bool.{Bool}
use mathlib.Core.List.{List, []}
use Prim.Native.Nat.{ℕ}
use lib.ListN.{drop}
use Rattle.bpg_codec.specs.Outcome.{ok, ◌>>=◌, located}
use Rattle.bpg_codec.specs.Codec.{Codec}
use Rattle.bpg_codec.proofs.Outcome.{bind_assoc, bind-cong}
use Rattle.bpg_codec.proofs.Positions.{Advances}
use Rattle.bpg_ue7.specs.Ue7.{ue7}
use Rattle.bpg_ue7.proofs.Advances.{ue7-advances}
use Rattle.bpg_ue7.proofs.ReadAt.{step_at}
use Rattle.bpg_format.specs.Read.{read_flags, read_head}
use Rattle.bpg_read_head.specs.Sizes.{read_size}
use Rattle.bpg_read_head.specs.Heads.{read_extension_length}
use Rattle.bpg_read_head.proofs.SizeLaws.{size-advances}
use Rattle.bpg_read_head.proofs.HeadLaws.{optional-advanced}

-- the extension length, there or not, as a part of a region
abbrev length_part : Bool → Codec ℕ ℕ
length_part t = record { encode = λ _. []; decode = λ i p l. read_extension_length t p l; Valid = λ _. Unit {0} }

length-advances : (t : Bool) → Advances (length_part t)
length-advances t = record { advances = λ i p l x e. optional-advanced p l x t e }

module _ (l : List ℕ) where
  in-steps : read_head l
      ≡ (read_flags l >>= λ f.
      read_size 6 (drop 6 l) >>= λ x.
      (ue7 32).decode x.next x.next x.rest >>= λ size.
      read_extension_length f.extension_present size.next size.rest >>= λ block.
      ok
      (record {
        flags = f;
        width = x.value.0;
        height = x.value.1;
        data_length = size.value;
        data_length_at = x.next;
        extension_length = block.value;
        extension_length_at = size.next;
        end = block.next;
      }))
  unfolding read_head read_size
  in-steps = simp bind_assoc

  -- over the values and the offsets after them
  pub head-chain : read_head l
      ≡ (read_flags l >>= λ f.
      located (read_size 6 (drop 6 l)) >>= λ x.
      located ((ue7 32).decode x.1 x.1 (drop x.1 l)) >>= λ size.
      located (read_extension_length f.extension_present size.1 (drop size.1 l)) >>= λ block.
      ok
      (record {
        flags = f;
        width = x.0.0;
        height = x.0.1;
        data_length = size.0;
        data_length_at = x.1;
        extension_length = block.0;
        extension_length_at = size.1;
        end = block.1;
      }))
  head-chain =
      in-steps
      ∙ bind-cong (read_flags l) _ _ λ f _.
      step_at size-advances l 6 6 _ _ λ _ p.
      step_at (ue7-advances 32) l p p _ _ λ _ q.
      step_at (length-advances f.extension_present) l q q _ _ λ _ _. refl
