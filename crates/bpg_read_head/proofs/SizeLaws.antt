-- Reading width and height, by what each of them is read as.
use mathlib.Core.Path.{◌≡◌, refl, sym, ◌∙◌, subst}
use mathlib.Core.List.{List, []}
use Prim.Native.Nat.{ℕ}
use lib.ListN.{drop}
use Rattle.bpg_codec.specs.Outcome.{Outcome, ok, ◌>>=◌, Decoded, decoded, located}
use Rattle.bpg_codec.specs.Parts.{guarded}
use Rattle.bpg_codec.specs.Codec.{Codec, at_own}
use Rattle.bpg_codec.proofs.Outcome.{ok-injective, unbind, bind_assoc}
use Rattle.bpg_codec.proofs.Positions.{Advanced, Advances, advanced-then, guarded-advances}
use Rattle.bpg_ue7.specs.Ue7.{ue7, not_zero}
use Rattle.bpg_ue7.proofs.Advances.{ue7-advances}
use Rattle.bpg_ue7.proofs.ReadAt.{step_at}
use Rattle.bpg_read_head.specs.Sizes.{read_size}

abbrev dimension : Codec ℕ ℕ
dimension = guarded (ue7 32) not_zero 9 at_own

dimension-advances : Advances dimension
dimension-advances = guarded-advances (ue7-advances 32) not_zero 9 at_own

abbrev chain : (p : ℕ) → List ℕ → Outcome (Decoded ℕ (ℕ × ℕ))
chain p l =
    dimension.decode p p l >>= λ w.
    dimension.decode w.next w.next w.rest >>= λ h.
    ok (decoded (w.value, h.value) h.next h.rest)

as-chain : (p : ℕ) (l : List ℕ) → read_size p l ≡ chain p l
unfolding read_size guarded
as-chain p l = simp bind_assoc

-- width and height as one part of a region
abbrev pub size_part : Codec ℕ (ℕ × ℕ)
size_part = record { encode = λ _. []; decode = λ i p l. read_size p l; Valid = λ _. Unit {0} }

pub size-advances : Advances size_part
size-advances =
    record {
      advances = λ i p l x e.
          unbind (dimension.decode p p l) _ (sym (as-chain p l) ∙ e) λ w e1 k1.
          unbind (dimension.decode w.next w.next w.rest) _ k1 λ h e2 k2.
          subst (λ (z : Decoded ℕ (ℕ × ℕ)). Advanced p l z.next z.rest) (ok-injective k2)
          (advanced-then (dimension-advances.advances p p l w e1) (dimension-advances.advances w.next w.next w.rest h e2));
    }

module _ (region : List ℕ) where
  abbrev dimension_at : ℕ → Outcome (ℕ × ℕ)
  dimension_at p = located (dimension.decode p p (drop p region))

  located-chain : (p : ℕ) → located (read_size p (drop p region))
      ≡ (dimension.decode p p (drop p region) >>= λ w. dimension.decode w.next w.next w.rest >>= λ h. ok ((w.value, h.value), h.next))
  located-chain p = rw as-chain (simp bind_assoc)

  -- over the two numbers and the offsets after them
  pub size-chain : (p : ℕ) → located (read_size p (drop p region)) ≡ (dimension_at p >>= λ w. dimension_at w.1 >>= λ h. ok ((w.0, h.0), h.1))
  size-chain p =
      located-chain p
      ∙ step_at dimension-advances region p p _ _ λ _ q. step_at dimension-advances region q q _ _ λ _ _. refl
