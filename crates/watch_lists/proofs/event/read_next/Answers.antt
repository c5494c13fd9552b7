use Rattle.std.proofs.Common.{ap, arith}
use Rattle.cx_base.specs.Literals.{Literal}
use Rattle.cx_base.proofs.LiteralLaws.{code_below}
use Rattle.watch_lists.proofs.event.read_next.Goals as goal

pub front-first-requires : goal.front-first-requires
front-first-requires c =
    let high = c.entry.ensures.sound.high c.args.place (omega (arith, c.if-place-len.true, c.len.ensures.len)) in
    omega (arith, code_below c.negate-falsified.result c.args.trail.now.variables (omega (arith, high, ap (λ (l : Literal). l.variable) c.negate-falsified.ensures, ap (λ e. e.literal.variable) c.entry.ensures.is)), c.requires.size)
