-- The bits of a header: at most 56 where it keeps the rules; its groups, added to an empty buffer, are all that the buffer holds.
--
use mathlib.Core.Path.{◌≡◌, refl, sym, ap, ◌∙◌}
use mathlib.Core.Bool.{Bool, true, false}
use mathlib.Core.List.{List, [], ◌∷◌, ◌++◌, append_assoc}
use Prim.Native.Nat.{ℕ, zero, suc, ◌+◌, ◌-◌, ◌*◌, ◌^◌, ◌≤◌}
use native.Mathlib.Nat.{pow-suc}
use native.Mathlib.Omega.{arith}
use lib.ListN.{length, length-append}
use lib.Pow.{pow_pos}
use Rattle.bpg_codec.specs.Select.{select}
use Rattle.bpg_codec.proofs.Lists.{either_way}
use Rattle.bpg_codec.proofs.Bits.{length-bits}
use Rattle.bpg_bits.specs.BitNumbers.{exp_golomb_bits, prefix_zeros}
use Rattle.bpg_bits.proofs.BitNumberLaws.{top, exp_golomb-size, exp_golomb-none}
use Rattle.bpg_write_bits.specs.declared.BitBuffer.{BitBuffer}
use Rattle.bpg_write_bits.specs.BitBuffer.{empty, gathered}
use Rattle.bpg_write_bits.proofs.BitBufferLaws.{gathered-fits}
use Rattle.bpg_format.specs.declared.record.Header.{Header}
use Rattle.bpg_format.specs.Syntax.{pcm_bits, sps_extension_bits, header_bits}
use Rattle.bpg_format.specs.Rules.{HevcRules}
use Rattle.bpg_write_header.specs.Adding.{Added, size_bits}

-- ---- how long a header is

double-most : (z : ℕ) → 2 * z ≤ 2 ^ z
double-most zero = omega arith
double-most (suc zero) = omega arith
double-most (suc (suc z)) = rw pow-suc (omega (arith, double-most (suc z), pow_pos z, pow-suc 2 z))

-- ue(v)
code-most : (v : ℕ) → length (exp_golomb_bits v) ≤ v + 2
code-most v =
    either_way (2 ^ 32 - 1) v (λ h. omega (arith, ap length (exp_golomb-none v h)))
    (λ h. omega (arith, exp_golomb-size v h, (top v h).0.low, double-most (prefix_zeros v)))

select-most : (flag : Bool) (l : List Bool) (n : ℕ) → (flag ≡ true → length l ≤ n) → length (select flag l []) ≤ n
unfolding select
select-most true l n h = h refl
select-most false l n h = omega arith

module _ (depth : ℕ) (h : Header) (rules : HevcRules depth h) where
  pcm-most : h.pcm_enabled_flag ≡ true → length (pcm_bits h) ≤ 15
  pcm-most there =
      simp (length-append, length-bits)
      (omega (
        arith,
        rules.ctb-most,
        (rules.pcm there).max-pcm,
        code-most h.log2_min_pcm_luma_coding_block_size_minus3,
        code-most h.log2_diff_max_min_pcm_luma_coding_block_size,
      ))

  pub header-short : length h.range_flags ≡ 9 → length (header_bits h) ≤ 56
  unfolding header_bits
  header-short nine =
      simp length-append
      (omega (
        arith,
        rules.ctb-most,
        rules.max-tb,
        rules.hierarchy-depth,
        code-most h.log2_min_luma_coding_block_size_minus3,
        code-most h.log2_diff_max_min_luma_coding_block_size,
        code-most h.log2_min_transform_block_size_minus2,
        code-most h.log2_diff_max_min_transform_block_size,
        code-most h.max_transform_hierarchy_depth_intra,
        select-most h.pcm_enabled_flag (pcm_bits h) 15 pcm-most,
        select-most h.sps_extension_present_flag (sps_extension_bits h) 8 (λ _. omega (arith, length-bits 7 h.sps_extension_7bits)),
        select-most h.sps_range_extension_flag h.range_flags 9 (λ _. omega arith),
      ))

-- ---- the groups of fields, as they are added

abbrev groups : Header → List Bool
groups h =
    size_bits h
    ++ (h.sample_adaptive_offset_enabled_flag
    ∷ h.pcm_enabled_flag
    ∷ (select h.pcm_enabled_flag (pcm_bits h) []
    ++ (h.strong_intra_smoothing_enabled_flag
    ∷ h.sps_extension_present_flag
    ∷ (select h.sps_extension_present_flag (sps_extension_bits h) []
    ++ select h.sps_range_extension_flag h.range_flags []))))

groups-bits : (h : Header) → groups h ≡ header_bits h
unfolding header_bits
groups-bits h = simp append_assoc

pub header-gathered : (h : Header) {b r : BitBuffer} → b ≡ empty → Added b (groups h) r → r ≡ gathered (header_bits h)
header-gathered h e a = a.gathers [] (e ∙ sym (gathered-fits [] (omega arith))) ∙ ap gathered (groups-bits h)
