-- What a unit that passes says, by its kind.
use mathlib.Core.Path.{◌≡◌, sym, ap, ◌∙◌}
use mathlib.Core.Bool.{Bool, true, false, ◌&&◌}
use mathlib.Core.List.{List, []}
use Prim.Native.Nat.{ℕ, ◌≤◌}
use lib.Dec.{leb}
use lib.ListN.{length, drop, get_or}
use borrow.Author.Tests.{leb-true}
use Rattle.bpg_codec.specs.Outcome.{ok}
use Rattle.bpg_codec.specs.Lawful.{All, Byte}
use Rattle.bpg_codec.proofs.Outcome.{unbind, unguard, ok-injective}
use Rattle.bpg_codec.proofs.Select.{is_true}
use Rattle.bpg_codec.proofs.Tokens.{all_drop}
use Rattle.bpg_nal_units.specs.declared.nal_header.NalHeader.{NalHeader}
use Rattle.bpg_nal_units.proofs.Cases.{by-test}
use Rattle.bpg_nal_emulation.specs.Emulation.{unescape}
use Rattle.bpg_nal_emulation.proofs.WalkLaws.{un-all}
use Rattle.bpg_sei.specs.Messages.{durations_in}
use Rattle.bpg_sei.proofs.Range.{durations-small}
use Rattle.bpg_frame_units.specs.Units.{Said, is_slice, is_prefix_sei, allowed_unit, slice_says, sei_says, other_says, kind_says}
use Rattle.bpg_frame_units.proofs.UnitLaws.{kind-slice, kind-sei, kind-other}

module _ (alpha : Bool) (u : List ℕ) (h : NalHeader) (x : Said) (e : kind_says alpha u h ≡ ok x) where
  -- a slice
  slice-said : is_slice h ≡ true → (x.starts ≡ leb 128 (get_or u 2 0)) × (x.durations ≡ []) × (3 ≤ length u)
  unfolding slice_says
  slice-said s =
      unguard (leb 3 (length u)) 22 0 _ (sym (kind-slice alpha u h s) ∙ e) λ a b.
      let q = ok-injective b in
      (ap (λ (y : Said). y.starts) (sym q), ap (λ (y : Said). y.durations) (sym q), leb-true 3 (length u) (is_true _ a))

  module _ (n : is_slice h ≡ false) where
    pub sei-said : is_prefix_sei h ≡ true → (x.starts ≡ false) × (durations_in (drop 2 (unescape u)) ≡ ok x.durations)
    unfolding sei_says
    sei-said s =
        unbind (durations_in (drop 2 (unescape u))) _ (sym (kind-sei alpha u h n s) ∙ e) λ ds a b.
        let q = ok-injective b in
        (ap (λ (y : Said). y.starts) (sym q), a ∙ ap ok (ap (λ (y : Said). y.durations) q))

    other-said : is_prefix_sei h ≡ false → (x.starts ≡ false) × (x.durations ≡ [])
    unfolding other_says
    other-said s =
        unguard (allowed_unit alpha h) 23 0 _ (sym (kind-other alpha u h n s) ∙ e) λ a b.
        let q = ok-injective b in
        (ap (λ (y : Said). y.starts) (sym q), ap (λ (y : Said). y.durations) (sym q))

  -- a frame starts at a slice whose first bit is 1
  pub said-starts : x.starts ≡ (is_slice h && leb 128 (get_or u 2 0))
  said-starts =
      by-test (is_slice h)
      (λ s. (slice-said s).0 ∙ rw s)
      (λ n. by-test (is_prefix_sei h) (λ s. (sei-said n s).0) (λ s. (other-said n s).0) ∙ rw n)

  -- a slice has a byte after its header
  pub said-long : is_slice h ≡ true → 3 ≤ length u
  said-long s = (slice-said s).2

  -- durations are set by prefix SEI alone
  pub said-none : is_prefix_sei h ≡ false → x.durations ≡ []
  said-none s = by-test (is_slice h) (λ t. (slice-said t).1) (λ n. (other-said n s).1)

  pub said-small : All Byte u → All (λ d. d ≤ 65535) x.durations
  said-small b =
      by-test (is_slice h) (λ t. rw (slice-said t).1 tt)
      (λ n.
      by-test (is_prefix_sei h)
      (λ s. durations-small (drop 2 (unescape u)) x.durations (all_drop Byte 2 (unescape u) (un-all Byte u 0 b)) (sei-said n s).1)
      (λ s. rw (other-said n s).1 tt))
