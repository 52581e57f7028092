-- A step, by what is read at its offset; and that an entry is some bytes long.
use mathlib.Core.Path.{◌≡◌, refl, ap}
use mathlib.Core.List.{List}
use Prim.Native.Nat.{ℕ, ◌-◌, ◌<◌}
use native.Mathlib.Omega.{arith}
use lib.Dec.{leb}
use lib.ListN.{length, drop, length-drop}
use Rattle.std.specs.Prelude.{Option, Some, None, OnSome, IfSome, IfNone}
use Rattle.bpg_codec.specs.Outcome.{Outcome, ok, error, Decoded}
use Rattle.bpg_codec.proofs.Outcome.{ok-injective, unbind, unguard}
use Rattle.bpg_ue7.specs.Ue7.{ue7_decode}
use Rattle.bpg_ue7.proofs.Advances.{ue7-advances, ue7-longer}
use Rattle.bpg_format.specs.Limits.{max_file}
use Rattle.bpg_format.specs.declared.record.Entry.{Entry}
use Rattle.bpg_read_entries.specs.Entries.{EntryHead, entry_start, entry_in}
use Rattle.bpg_cursor.specs.Cursors.{step_of, step_at}

module _ (region : List ℕ) (p : ℕ) where
  longer : (x : Decoded ℕ EntryHead) → entry_in region p ≡ ok x → (p < x.next) × (p < length region)
  unfolding entry_in entry_start
  longer x e =
      unguard (leb (length region) max_file) 1 0 _ e λ _ e1.
      unbind (ue7_decode 32 p (drop p region)) _ e1 λ tag e2 e3.
      unbind (ue7_decode 32 tag.next tag.rest) _ e3 λ size e4 e5.
      unguard (leb size.value (length size.rest)) 2 tag.next _ e5 λ _ e6.
      let a = ue7-longer 32 p p (drop p region) tag e2 in
      let b = ue7-longer 32 tag.next tag.next tag.rest size e4 in
      let i = ((ue7-advances 32).advances p p (drop p region) tag e2).inside in
      (omega (arith, a, b, ap (λ (y : Decoded ℕ EntryHead). y.next) (ok-injective e6)), omega (arith, a, i, length-drop p region))

  -- less is left after an entry
  pub step-shortens : OnSome (step_at region p).answer (Unit {0} × Unit {0} × (length region - (step_at region p).next.0 < length region - p))
  step-shortens = by (entry_in region p) refl
    where
      by : (m : Outcome (Decoded ℕ EntryHead)) → entry_in region p ≡ m → OnSome (step_of p m).answer (Unit {0} × Unit {0} × (length region - (step_of p m).next.0 < length region - p))
      by (ok x) d = let n = longer x d in (tt, tt, omega (arith, n))
      by (error s o) d = tt

pub some-goes : (r : Option Entry) → IfSome r (λ _. Unit {0})
some-goes (Some e) = tt
some-goes None = tt

pub none-rests : (r : Option Entry) → IfNone r (Unit {0})
none-rests (Some e) = tt
none-rests None = tt
