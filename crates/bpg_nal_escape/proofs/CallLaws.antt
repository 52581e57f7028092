-- The answers of the two calls, and what they leave in the buffer, case by case.
use mathlib.Core.Path.{◌≡◌, refl, ◌∙◌}
use mathlib.Core.Bool.{true}
use mathlib.Core.List.{List}
use Prim.Native.Nat.{ℕ, ◌≤◌, ◌<◌}
use native.Mathlib.Omega.{arith}
use lib.ListN.{length}
use borrow.Author.Tests.{le-leb, lt-leb}
use Rattle.bpg_codec.proofs.Select.{select-true, select-false}
use Rattle.bpg_format.specs.declared.answer.Written.{Written}
use Rattle.bpg_format.specs.Zero.{refused_written}
use Rattle.std.proofs.Common.{Some, None}
use Rattle.bpg_nal_units.proofs.Cases.{by-test}
use Rattle.bpg_nal_emulation.specs.Emulation.{unescape, escape, keeps_rules}
use Rattle.bpg_nal_escape.specs.Calls.{unescape_answer, unescape_buffer, escape_answer, escape_buffer}
use Rattle.bpg_nal_escape.specs.Checks.{check_of}
use Rattle.bpg_nal_escape.proofs.BufferLaws.{filled}
use Rattle.bpg_nal_emulation.proofs.LengthLaws.{un-most, es-least}

module _ (u out : List ℕ) where
  pub un-broken : None ≡ check_of u → (refused_written 22 0 ≡ unescape_answer u out) × (out ≡ unescape_buffer u out)
  unfolding unescape_answer unescape_buffer
  un-broken e = by-test (keeps_rules u) (λ k. let f = e ∙ select-true _ _ k in cc) (λ k. rw k (refl, refl))

  module _ (n : ℕ) (e : Some n ≡ check_of u) where
    un-kept : keeps_rules u ≡ true
    un-kept = by-test (keeps_rules u) (λ k. k) (λ k. let f = e ∙ select-false _ _ k in cc)

    un-count : n ≡ length (unescape u)
    un-count = let f = e ∙ select-true _ _ un-kept in cc

    pub un-judged : (keeps_rules u ≡ true) × (n ≡ length (unescape u)) × (n ≤ length u)
    un-judged = (un-kept, un-count, rw un-count (un-most u 0))

    pub un-small : length out < n → (refused_written 20 0 ≡ unescape_answer u out) × (out ≡ unescape_buffer u out)
    unfolding unescape_answer unescape_buffer
    un-small h = rw (un-kept, lt-leb (length (unescape u)) (length out) (omega (arith, un-count))) (refl, refl)

    pub un-done : (after : List ℕ) → n ≤ length out → after ≡ filled out (unescape u)
        → (◌≡◌ {A = Written} (record { status = 0; offset = 0; count = n }) (unescape_answer u out)) × (after ≡ unescape_buffer u out)
    unfolding unescape_answer unescape_buffer
    un-done after h w = rw (un-kept, le-leb (length (unescape u)) (length out) (omega (arith, un-count)), un-count, w) (refl, refl)

module _ (l out : List ℕ) (n : ℕ) (e : n ≡ length (escape l)) where
  pub es-counted : length l ≤ n
  es-counted = rw e (es-least l 0)

  pub es-small : length out < n → (refused_written 20 0 ≡ escape_answer l out) × (out ≡ escape_buffer l out)
  unfolding escape_answer escape_buffer
  es-small h = rw (lt-leb (length (escape l)) (length out) (omega arith)) (refl, refl)

  pub es-done : (after : List ℕ) → n ≤ length out → after ≡ filled out (escape l)
      → (◌≡◌ {A = Written} (record { status = 0; offset = 0; count = n }) (escape_answer l out)) × (after ≡ escape_buffer l out)
  unfolding escape_answer escape_buffer
  es-done after h w = rw (le-leb (length (escape l)) (length out) (omega arith), e, w) (refl, refl)
