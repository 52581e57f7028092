-- Reading a tag 5 payload, by what each of its numbers is read as.
use mathlib.Core.Path.{◌≡◌, refl, ◌∙◌}
use mathlib.Core.List.{List}
use Prim.Native.Nat.{ℕ, ◌^◌, ◌<◌}
use lib.ListN.{drop}
use Rattle.bpg_codec.specs.Outcome.{Outcome, ok, ◌>>=◌, located}
use Rattle.bpg_codec.specs.Parts.{guarded}
use Rattle.bpg_codec.specs.Codec.{at_own}
use Rattle.bpg_codec.proofs.Outcome.{unbind, unguard, bind_assoc}
use Rattle.bpg_codec.proofs.Positions.{Advances, guarded-advances}
use Rattle.bpg_bytes.specs.declared.position.BytePos.{BytePos}
use Rattle.bpg_bytes.specs.declared.position.Located.{Located}
use Rattle.bpg_ue7.specs.Ue7.{ue7, not_zero}
use Rattle.bpg_ue7.proofs.Advances.{ue7-advances, ue7-limit}
use Rattle.bpg_ue7.proofs.ReadAt.{value_read, step_at}
use Rattle.bpg_format.specs.FileCodec.{period}
use Rattle.bpg_format.specs.Read.{read_animation}

period-advances : Advances period
unfolding period
period-advances = guarded-advances (ue7-advances 16) not_zero 12 at_own

-- ---- each number fits 16 bits

module _ (region : List ℕ) (p : ℕ) (x : Located ℕ BytePos) where
  pub count_limit : ok (x.value, x.next.0) ≡ located ((ue7 16).decode p p (drop p region)) → x.value < 2 ^ 16
  count_limit e = ue7-limit 16 p p _ _ (value_read (ue7-advances 16) region p x e)

  pub period_limit : ok (x.value, x.next.0) ≡ located ((guarded (ue7 16) not_zero 12 at_own).decode p p (drop p region)) → x.value < 2 ^ 16
  unfolding guarded
  period_limit e =
      unbind ((ue7 16).decode p p (drop p region)) _ (value_read (guarded-advances (ue7-advances 16) not_zero 12 at_own) region p x e) λ y e1 e2.
      unguard (not_zero y.value) 12 p (ok y) e2 λ _ e3. ue7-limit 16 p p _ _ (e1 ∙ e3)

-- ---- the three numbers, of which each is an item of its own

module _ (region : List ℕ) where
  abbrev period_at : ℕ → Outcome (ℕ × ℕ)
  period_at p = located ((guarded (ue7 16) not_zero 12 at_own).decode p p (drop p region))

  as-chain : (p : ℕ) → read_animation p (drop p region)
      ≡ ((ue7 16).decode p p (drop p region) >>= λ x.
      period.decode x.next x.next x.rest >>= λ y.
      period.decode y.next y.next y.rest >>= λ z.
      ok (record { count = x.value; period_num = y.value; period_den = z.value }))
  unfolding read_animation period guarded
  as-chain p = simp bind_assoc

  pub chain : (p : ℕ) → read_animation p (drop p region)
      ≡ (located ((ue7 16).decode p p (drop p region)) >>= λ x.
      period_at x.1 >>= λ y.
      period_at y.1 >>= λ z.
      ok (record { count = x.0; period_num = y.0; period_den = z.0 }))
  unfolding period
  chain p =
      as-chain p
      ∙ step_at (ue7-advances 16) region p p _ _ λ _ q. step_at period-advances region q q _ _ λ _ r. step_at period-advances region r r _ _ λ _ _. refl
