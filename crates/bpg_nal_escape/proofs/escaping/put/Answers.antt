use Rattle.std.proofs.Common.{◌≡◌, refl, ◌∙◌, ℕ, ◌+◌, ◌-◌, ◌≤◌, ◌<◌, List, [], ◌∷◌, ◌++◌, length, take, drop, arith, length-append}
use Rattle.bpg_codec.specs.Buffer.{written}
use Rattle.bpg_nal_units.specs.Search.{offset_from}
use Rattle.bpg_nal_emulation.specs.Emulation.{escape, starts_pattern}
use Rattle.bpg_nal_emulation.proofs.OffsetLaws.{room, es-rest, es-open, es-on, es-count-on}
use Rattle.bpg_nal_escape.proofs.BufferLaws.{filled, Filling, fits, filling-more, filling-last}
use Rattle.bpg_nal_escape.proofs.escaping.put.Goals as goal

module _ (u out₀ out : List ℕ) (i at : ℕ) (h : i ≤ length u) (space : length (escape u) ≤ length out₀) (f : Filling (escape u) (escape (drop i u)) out₀ out at) where
  -- a stretch with a 03 has room
  marked : (piece rest : List ℕ) → escape (drop i u) ≡ (piece ++ (3 ∷ [])) ++ rest → at + length piece + 1 ≤ length out
  marked piece rest split = let k = fits f space (piece ++ (3 ∷ [])) rest split in omega (arith, length-append piece (3 ∷ []))

  abbrev tail : List ℕ
  tail = take (length u - i) (drop i u)

  last : i + length (escape (drop i u)) ≡ length u → (after : List ℕ) → after ≡ written out at tail → after ≡ filled out₀ (escape u)
  last c after w = filling-last f space tail [] (es-rest u i (offset_from starts_pattern u i) h refl c) after w refl

  module _ (p : ℕ) (e : p ≡ offset_from starts_pattern u i) where
    module _ (k : length u ≤ p) (c : length u < i + length (escape (drop i u))) where
      open-room : at + length tail + 1 ≤ length out
      open-room = marked tail [] (es-open u i p h e k c)

      open-last : (after : List ℕ) → after ≡ written out at (tail ++ (3 ∷ [])) → after ≡ filled out₀ (escape u)
      open-last after w = filling-last f space (tail ++ (3 ∷ [])) [] (es-open u i p h e k c) after w refl

    module _ (k : p < length u) where
      abbrev front : List ℕ
      front = take (p + 2 - i) (drop i u)

      more_room : at + length front + 1 ≤ length out
      more_room = marked front (escape (drop (p + 2) u)) (es-on u i p h e k)

      more : (after : List ℕ) → after ≡ written out at (front ++ (3 ∷ [])) → (end : ℕ) → end ≡ at + length front + 1
          → Filling (escape u) (escape (drop (p + 2) u)) out₀ after end
      more after w end n =
          filling-more f space (front ++ (3 ∷ [])) (escape (drop (p + 2) u)) (es-on u i p h e k) after w end (n ∙ omega (arith, length-append front (3 ∷ [])))

pub returns-then-bytes-at : goal.returns-then-bytes-at
returns-then-bytes-at c =
    let v = c.loop.invariant in
    open-last c.args.bytes.now _ _ c.loop.i _ v.inside c.requires.bytes_in_bounds v.filling _ c.next-at.ensures c.if-bytes-at.true (omega arith) _
    c.put_marked.ensures.out_after

pub slice_bounds-put_marked-end-in-loop : goal.slice_bounds-put_marked-end-in-loop
slice_bounds-put_marked-end-in-loop c =
    omega (arith, room c.args.bytes.now c.loop.i _ c.loop.invariant.inside c.next-at.ensures c.if-bytes-at.false)

pub loop-preserved : goal.loop-preserved
loop-preserved c =
    let v = c.loop.invariant in
    let i = c.loop.i in
    let u = c.args.bytes.now in
    let r = room u i _ v.inside c.next-at.ensures c.if-bytes-at.false in
    let d = es-count-on u i _ v.inside c.next-at.ensures (i + length (escape (drop i u))) 0 c.if-bytes-at.false (omega arith) in
    record {
      inside = omega arith;
      count = omega arith;
      filling =
          more u _ _ i _ v.inside c.requires.bytes_in_bounds v.filling _ c.next-at.ensures c.if-bytes-at.false _ c.put_marked-filled.ensures.out_after _
          c.put_marked-filled.ensures.result_value;
    }

pub returns : goal.returns
returns c =
    let v = c.loop.invariant in
    last c.args.bytes.now _ _ c.loop.i _ v.inside c.requires.bytes_in_bounds v.filling (omega arith) _ c.write.ensures.out_after
