-- Reading the first six bytes, by the case that they fall into.
use mathlib.Core.Path.{◌≡◌, sym, ap, ◌∙◌}
use mathlib.Core.Bool.{true, false}
use mathlib.Core.List.{List}
use Prim.Native.Nat.{ℕ, ◌/◌, ◌%◌, ◌≤◌, ◌<◌}
use native.Mathlib.Omega.{arith}
use lib.ListN.{length, take, get_or}
use borrow.Author.Tests.{le-leb, lt-leb}
use Rattle.bpg_codec.specs.Outcome.{ok, error, ◌>>=◌, guard}
use Rattle.bpg_codec.specs.Lists.{same}
use Rattle.bpg_format.specs.Content.{Flags}
use Rattle.bpg_format.specs.Syntax.{magic}
use Rattle.bpg_format.specs.Tests.{color_space_allowed}
use Rattle.bpg_format.specs.Read.{flags_of, read_flags}
use Rattle.bpg_read_head.specs.declared.flags.Flags.{Flags as CodedFlags}
use Rattle.bpg_read_head.specs.FlagBytes.{flag_fields}

module _ (l : List ℕ) where
  abbrev byte4 : ℕ
  byte4 = get_or l 4 0

  abbrev byte5 : ℕ
  byte5 = get_or l 5 0

  pub too_short : length l < 6 → error 2 0 ≡ read_flags l
  unfolding read_flags
  too_short h = rw (lt-leb 6 (length l) h)

  module _ (six : 6 ≤ length l) where
    pub no-magic : same magic (take 4 l) ≡ false → error 3 0 ≡ read_flags l
    unfolding read_flags
    no-magic m = rw (le-leb 6 (length l) six, m)

    -- g is what the two bytes hold
    module _ (m : same magic (take 4 l) ≡ true) (g : CodedFlags) (is : flag_fields g ≡ flags_of byte4 byte5) where
      format-is : g.pixel_format ≡ byte4 / 32
      format-is = ap (λ (f : Flags). f.pixel_format) is

      depth-is : g.bit_depth_minus_8 ≡ byte4 % 16
      depth-is = ap (λ (f : Flags). f.bit_depth_minus8) is

      space-is : color_space_allowed (flag_fields g) ≡ color_space_allowed (flags_of byte4 byte5)
      space-is = ap color_space_allowed is

      pub no-format : 5 < g.pixel_format → error 4 4 ≡ read_flags l
      unfolding read_flags
      no-format h = rw (le-leb 6 (length l) six, m, lt-leb (byte4 / 32) 5 (omega (arith, format-is)))

      module _ (f : g.pixel_format ≤ 5) where
        pub no-depth : 6 < g.bit_depth_minus_8 → error 5 4 ≡ read_flags l
        unfolding read_flags
        no-depth h =
            rw (le-leb 6 (length l) six, m, le-leb (byte4 / 32) 5 (omega (arith, format-is)), lt-leb (byte4 % 16) 6 (omega (arith, depth-is)))

        module _ (d : g.bit_depth_minus_8 ≤ 6) where
          kept : read_flags l ≡ (guard (color_space_allowed (flags_of byte4 byte5)) 6 5 >>= λ _. ok (flags_of byte4 byte5))
          unfolding read_flags
          kept = rw (le-leb 6 (length l) six, m, le-leb (byte4 / 32) 5 (omega (arith, format-is)), le-leb (byte4 % 16) 6 (omega (arith, depth-is)))

          pub no-space : color_space_allowed (flag_fields g) ≡ false → error 6 5 ≡ read_flags l
          no-space h = sym (kept ∙ rw (sym space-is ∙ h))

          pub all-kept : color_space_allowed (flag_fields g) ≡ true → ok (flag_fields g) ≡ read_flags l
          all-kept h = ap ok is ∙ sym (kept ∙ rw (sym space-is ∙ h))
