use Rattle.std.proofs.Common.{◌≡◌, sym, ◌∙◌, refl, ℕ, ◌+◌, ◌-◌, ◌≤◌, ◌<◌, List, [], length, take, drop, get_or, arith}
use Rattle.bpg_codec.specs.Buffer.{written, written_end}
use Rattle.bpg_codec.proofs.Buffer.{stored}
use Rattle.bpg_nal_units.specs.Search.{offset_from}
use Rattle.bpg_nal_emulation.specs.Emulation.{unescape, starts_pattern}
use Rattle.bpg_nal_emulation.proofs.OffsetLaws.{room, un-rest, un-some, un-on, un-count-on, kept-mark}
use Rattle.bpg_nal_escape.proofs.BufferLaws.{filled, Filling, fits, filling-more, filling-last}
use Rattle.bpg_nal_escape.proofs.unescaping.put.Goals as goal

module _ (u out₀ out after : List ℕ) (i at : ℕ) (h : i ≤ length u) (space : length (unescape u) ≤ length out₀)
    (f : Filling (unescape u) (unescape (drop i u)) out₀ out at) where
  last : i + length (unescape (drop i u)) ≡ length u → after ≡ written out at (take (length u - i) (drop i u)) → after ≡ filled out₀ (unescape u)
  last c w = filling-last f space (take (length u - i) (drop i u)) [] (un-rest u i (offset_from starts_pattern u i) h refl c) after w refl

  module _ (p : ℕ) (e : p ≡ offset_from starts_pattern u i) (k : p < length u) (t : get_or u (p + 2) 0 ≡ 3) where
    more : after ≡ written out at (take (p + 2 - i) (drop i u)) → (end : ℕ) → end ≡ written_end out at (take (p + 2 - i) (drop i u))
        → Filling (unescape u) (unescape (drop (p + 3) u)) out₀ after end
    more w end n =
        let split = un-on u i p h e k t in
        let piece = take (p + 2 - i) (drop i u) in
        let rest = unescape (drop (p + 3) u) in
        filling-more f space piece rest split after w end (n ∙ sym (stored out at piece (fits f space piece rest split)).1)

pub slice_bounds-write-end : goal.slice_bounds-write-end
slice_bounds-write-end c =
    let v = c.loop.invariant in
    let m = un-some c.args.unit.now c.loop.i _ v.inside c.next-at.ensures (omega arith) in
    omega (arith, room c.args.unit.now c.loop.i _ v.inside c.next-at.ensures m)

pub loop-preserved : goal.loop-preserved
loop-preserved c =
    let v = c.loop.invariant in
    let i = c.loop.i in
    let u = c.args.unit.now in
    let s = un-some u i _ v.inside c.next-at.ensures (omega arith) in
    let m = kept-mark u i _ v.inside c.next-at.ensures s v.kept in
    let r = room u i _ v.inside c.next-at.ensures s in
    let d = un-count-on u i _ v.inside c.next-at.ensures (i + length (unescape (drop i u))) 0 s m.0 (omega arith) in
    record {
      inside = omega arith;
      kept = m.1;
      count = omega arith;
      filling =
          more u _ _ _ i _ v.inside c.requires.unit_in_bounds v.filling _ c.next-at.ensures s m.0 c.write-filled.ensures.out_after _
          c.write-filled.ensures.result_value;
    }

pub returns : goal.returns
returns c =
    let v = c.loop.invariant in
    last c.args.unit.now _ _ _ c.loop.i _ v.inside c.requires.unit_in_bounds v.filling (omega arith) c.write.ensures.out_after
