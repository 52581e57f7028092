-- The product and the shift are the division, and no step is above 2^64.
use Rattle.std.proofs.Common.{◌≡◌, ◌∙◌, sym, ap, arith}
use Rattle.bpg_sample_rules.specs.Rules.{unpremultiplied}
use Rattle.bpg_unpremultiply.proofs.Quotients.{dividend, quotient, quotient-high, transparent}
use Rattle.bpg_unpremultiply.proofs.Reciprocals.{product_high, shifted}
use Rattle.bpg_unpremultiply.proofs.pixel.unpremultiply_sample.Goals as goal

pub overflow_mul-q : goal.overflow_mul-q
overflow_mul-q c =
    let a = c.args in
    let e : c.from-4.result ≡ dividend a.m a.colour a.a =
    rw (c.from-4.ensures, c.from.ensures, c.from-2.ensures, c.min-least.ensures) (omega arith) in
    rw (e, c.requires.2) (omega (arith, product_high a.m a.colour a.a (omega arith) (omega arith)))

pub overflow_cast-result : goal.overflow_cast-result
overflow_cast-result c =
    let a = c.args in
    let e : c.from-4.result ≡ dividend a.m a.colour a.a =
    rw (c.from-4.ensures, c.from.ensures, c.from-2.ensures, c.min-least.ensures) (omega arith) in
    rw (e, c.requires.2, shifted a.m a.colour a.a (omega arith) (omega arith) (omega arith))
    (omega (arith, quotient a.m a.colour a.a (omega arith), quotient-high a.m a.colour a.a (omega arith)))

pub returns-then-a-eq0 : goal.returns-then-a-eq0
returns-then-a-eq0 c =
    let a = c.args in
    sym (ap (unpremultiplied a.m a.colour) c.if-a-eq0.true ∙ transparent a.m a.colour)

pub returns-else-a-eq0 : goal.returns-else-a-eq0
returns-else-a-eq0 c =
    let a = c.args in
    let e : c.from-4.result ≡ dividend a.m a.colour a.a =
    rw (c.from-4.ensures, c.from.ensures, c.from-2.ensures, c.min-least.ensures) (omega arith) in
    rw (e, c.requires.2) (shifted a.m a.colour a.a (omega arith) (omega arith) (omega arith))
