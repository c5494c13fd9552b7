use Rattle.std.proofs.Common.{ap, ◌∙◌, map}
use Rattle.std.proofs.lemmas.List.{take_all}
use Rattle.cx_base.specs.Literals.{Literal, positive_of}
use Rattle.gauss_incremental.proofs.shorts.positives.Goals as goal

pub returns : goal.returns
returns c = c.loop-lit.invariant ∙ ap (map (λ (m : Literal). positive_of m.variable)) (take_all c.loop-lit.lit-index c.args.lits.now c.loop-lit-test.false)
