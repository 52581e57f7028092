-- What is shown of undoing and redoing (request 1/13).
use Rattle.std.specs.Prelude.{◌≡◌, true, false, List, ℕ}
use Rattle.bpg_codec.specs.Lawful.{All}
use Rattle.bpg_nal_units.specs.Units.{Nal, units}
use Rattle.bpg_nal_emulation.specs.Emulation.{unescape, escape, keeps_rules}
use Rattle.bpg_nal_emulation.specs.Endings.{ends_open}

pub record RoundTrips : Type 0 where
  -- "redoing after undoing gives back each unit that keeps these emulation rules": bytes that end in 00 00 would come back with a 03 after them,
  pub redone : (u : List ℕ) → keeps_rules u ≡ true → ends_open u ≡ false → escape (unescape u) ≡ u
  -- and no unit of any data ends so
  pub no-open-unit : (p : ℕ) (l : List ℕ) → All (λ (u : Nal). ends_open u.bytes ≡ false) (units p l)
  pub units-redone : (p : ℕ) (l : List ℕ) → All (λ (u : Nal). keeps_rules u.bytes ≡ true → escape (unescape u.bytes) ≡ u.bytes) (units p l)
  -- what redoing writes keeps the rules and is undone to what it was made of, for all bytes
  pub written-kept : (l : List ℕ) → keeps_rules (escape l) ≡ true
  pub undone : (l : List ℕ) → unescape (escape l) ≡ l
