-- The rules in file order, part by part.
use mathlib.Core.Path.{◌≡◌, sym}
use mathlib.Core.Bool.{true, false, not, ◌||◌}
use mathlib.Core.List.{List, map}
use Prim.Native.Nat.{ℕ, ◌+◌, ◌≤◌}
use lib.Dec.{leb, leb→le}
use lib.ListN.{get_or}
use Rattle.bpg_codec.specs.Outcome.{ok, ◌>>=◌, guard}
use Rattle.bpg_codec.proofs.Outcome.{bind_assoc, unguard}
use Rattle.bpg_format.specs.declared.record.Record.{Record}
use Rattle.bpg_format.specs.Zero.{zero_header}
use Rattle.bpg_format.specs.Rules.{has_animation}
use Rattle.bpg_format.specs.Tests.{data_allowed}
use Rattle.bpg_format.specs.Records.{bytes_in, extension_of, used_entries, content_of, record_animation}
use Rattle.bpg_format.specs.Write.{check_entries, check_header, check_content}
use Rattle.bpg_write_check.specs.Check.{check_picture, check_alpha, check_headers}

module _ (r : Record) (source : List ℕ) where
  pub in_parts : check_content (content_of r source)
      ≡ (check_picture (content_of r source) >>= λ _.
      check_entries (record_animation r) false (map (extension_of source) (used_entries r)) >>= λ _.
      check_headers (content_of r source) >>= λ _.
      guard (data_allowed (bytes_in source r.«data»)) 26 0)
  unfolding check_content check_picture check_headers content_of
  in_parts = simp bind_assoc

  pub depth-fits : ok tt ≡ check_picture (content_of r source) → r.bit_depth_minus_8 ≤ 6
  unfolding check_picture content_of
  depth-fits e = unguard (leb r.pixel_format 5) 4 0 _ (sym e) λ _ e1. unguard (leb r.bit_depth_minus_8 6) 5 0 _ e1 λ d _. leb→le _ 6 d

  pub both-headers : (not r.animation_flag || has_animation (map (extension_of source) (used_entries r))) ≡ true
      → check_headers (content_of r source) ≡ (check_alpha (r.bit_depth_minus_8 + 8) r >>= λ _. check_header (r.bit_depth_minus_8 + 8) (get_or r.headers 1 zero_header))
  unfolding check_headers check_alpha content_of
  both-headers there = rw there
