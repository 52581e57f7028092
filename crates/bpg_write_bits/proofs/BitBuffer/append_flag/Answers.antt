-- A flag is a number of one bit.
use Rattle.std.proofs.Common.{◌≡◌, ℕ, Bool, true, false, [], ◌∷◌, refl, ap, ◌∙◌}
use mir.Val.{bool_byte}
use Rattle.bpg_codec.specs.Bits.{bits}
use Rattle.bpg_write_bits.specs.BitBuffer.{appended}
use Rattle.bpg_write_bits.proofs.BitBuffer.append_flag.Goals as goal

flag-bits : (flag : Bool) → bits 1 (bool_byte flag) ≡ flag ∷ []
unfolding bits
flag-bits true = refl
flag-bits false = refl

pub returns : goal.returns
returns c = c.append.ensures ∙ ap (λ (v : ℕ). appended c.args.self (bits 1 v)) c.from.ensures ∙ ap (appended c.args.self) (flag-bits c.args.flag)
