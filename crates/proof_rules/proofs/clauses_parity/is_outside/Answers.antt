use Rattle.std.proofs.Common.{◌∙◌, ap, sym, not}
use Rattle.std.specs.FinSet as set
use Rattle.cx_base.specs.Literals.{Literal}
use Rattle.proof_rules.proofs.LoopSteps.{any_passed, any_ended}
use Rattle.proof_rules.proofs.clauses_parity.is_outside.Goals as goal

pub loop-lit-preserved : goal.loop-lit-preserved
loop-lit-preserved c =
    let variables = c.args.sum.now.variables in
    let contained = sym (c.has.ensures ∙ ap (set.contains variables) (c.var.ensures ∙ ap (λ (x : Literal). x.variable) c.lit-item.is)) ∙ c.if-not-has.false in
    any_passed (λ x. not (set.contains variables x.variable)) c.args.clause.now _ _ c.loop-lit-test.true (ap not contained) ∙ c.loop-lit.invariant

pub returns : goal.returns
returns c = any_ended (λ x. not (set.contains c.args.sum.now.variables x.variable)) c.args.clause.now _ c.loop-lit-test.false ∙ c.loop-lit.invariant
