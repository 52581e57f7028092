-- `exp_golomb::read` meets its contract.
use Rattle.std.proofs.Common.{◌≡◌, ℕ, ◌+◌, ◌≤◌, ◌<◌, Bool, true, false, List, ◌∷◌, length, get_or, drop, sym, ap, ◌∙◌, arith, drop_of_length-le}
use Rattle.bpg_codec.specs.Outcome.{Outcome, error, located}
use Rattle.bpg_codec.specs.Bits.{bit, unpack}
use Rattle.bpg_codec.proofs.Bits.{bit-is-one, bit-not-one}
use Rattle.bpg_codec.proofs.Lists.{drop-next}
use Rattle.bpg_bits.specs.Answers.{bit_answer}
use Rattle.bpg_bits.specs.BitNumbers.{region_bits, prefix_decode, exp_golomb_suffix, exp_golomb}
use Rattle.bpg_bits.proofs.BitNumberLaws.{region-bit, region-within, prefix-end, prefix-one, prefix-zero, prefix-long}
use Rattle.bpg_bits.proofs.exp_golomb.read.Goals as goal

-- ---- what each way out and each turn says of the definition

module _ (start z next : ℕ) (l : List Bool) (inv : prefix_decode 0 0 start (drop start l) ≡ prefix_decode 0 z next (drop next l)) where
  abbrev all : Outcome (ℕ × ℕ)
  all = located (exp_golomb.decode 0 start (drop start l))

  none : length l ≤ next → error 15 0 ≡ all
  none h = rw (inv, drop_of_length-le l h, prefix-end 0 z next)

  module _ (h : next < length l) where
    seen-bit : (b : Bool) → get_or l next false ≡ b → prefix_decode 0 0 start (drop start l) ≡ prefix_decode 0 z next (b ∷ drop (next + 1) l)
    seen-bit b e = inv ∙ rw (drop-next l next false h, e)

    one : get_or l next false ≡ true → located (exp_golomb_suffix 0 z (next + 1) (drop (next + 1) l)) ≡ all
    one e = rw (seen-bit true e, prefix-one 0 z next (drop (next + 1) l))

    long : 31 ≤ z → get_or l next false ≡ false → error 15 0 ≡ all
    long k e = rw (seen-bit false e, prefix-long 0 z next (drop (next + 1) l) k)

    more : (y : ℕ) → y ≡ z + 1 → z < 31 → get_or l next false ≡ false → prefix_decode 0 0 start (drop start l) ≡ prefix_decode 0 y (next + 1) (drop (next + 1) l)
    more y s k e = seen-bit false e ∙ prefix-zero 0 z next (drop (next + 1) l) k ∙ rw s

-- the bit that is looked at
seen : (l : List ℕ) (k b : ℕ) → k < length (region_bits l) → b ≡ bit (get_or (unpack l) k false) → b ≡ bit (get_or (region_bits l) k false)
seen l k b h e = e ∙ ap bit (region-bit l k h)

pub bit_inside-requires : goal.bit_inside-requires
bit_inside-requires c = omega (arith, region-within c.args.region.now)

pub returns-then-bit_inside-eq1 : goal.returns-then-bit_inside-eq1
returns-then-bit_inside-eq1 c =
    let s = seen c.args.region.now c.loop-next.next _ (omega arith) c.bit_inside.ensures in
    c.suffix.ensures ∙ ap bit_answer (one _ _ _ _ c.loop-next.invariant.counted (omega arith) (bit-is-one _ (sym s ∙ c.if-bit_inside-eq1.true)))

pub returns-then-zeros-eq-MOST_ZEROS : goal.returns-then-zeros-eq-MOST_ZEROS
returns-then-zeros-eq-MOST_ZEROS c =
    let s = seen c.args.region.now c.loop-next.next _ (omega arith) c.bit_inside.ensures in
    ap bit_answer (long _ _ _ _ c.loop-next.invariant.counted (omega arith) (omega arith) (bit-not-one _ (λ e. c.if-bit_inside-eq1.false (s ∙ e))))

pub loop-next-preserved : goal.loop-next-preserved
loop-next-preserved c =
    let s = seen c.args.region.now c.loop-next.next _ (omega arith) c.bit_inside.ensures in
    record {
      few = omega arith;
      counted = more _ _ _ _ c.loop-next.invariant.counted (omega arith) _ (omega arith) (omega arith) (bit-not-one _ (λ e. c.if-bit_inside-eq1.false (s ∙ e)));
    }

pub returns : goal.returns
returns c = ap bit_answer (none _ _ _ _ c.loop-next.invariant.counted (omega arith))
