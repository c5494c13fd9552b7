use Rattle.std.proofs.Common.{◌∙◌, ap, ◌++◌, List}
use Rattle.std.proofs.lemmas.List.{take_all}
use Rattle.cx_base.specs.Literals.{Literal}
use Rattle.proof_rules.proofs.kept.push_all.Goals as goal

pub returns : goal.returns
returns c = c.loop-lit.invariant.items ∙ ap (λ (ls : List Literal). c.args.all.now.items ++ ls) (take_all c.loop-lit.lit-index c.args.lits.now c.loop-lit-test.false)
