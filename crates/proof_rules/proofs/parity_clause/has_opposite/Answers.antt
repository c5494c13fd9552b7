use Rattle.std.proofs.Common.{◌∙◌, ap, sym}
use Rattle.cx_base.specs.Literals.{negate}
use Rattle.cx_semantics.specs.Chain.{has_literal}
use Rattle.proof_rules.proofs.LoopSteps.{any_passed, any_ended}
use Rattle.proof_rules.proofs.parity_clause.has_opposite.Goals as goal

pub loop-lit-preserved : goal.loop-lit-preserved
loop-lit-preserved c =
    let others = c.args.set.now in
    let missing = sym (c.contains.ensures ∙ ap (has_literal others) (c.negate.ensures ∙ ap negate c.lit-item.is)) ∙ c.if-contains.false in
    any_passed (λ x. has_literal others (negate x)) c.args.lits.now _ _ c.loop-lit-test.true missing ∙ c.loop-lit.invariant

pub returns : goal.returns
returns c = any_ended (λ x. has_literal c.args.set.now (negate x)) c.args.lits.now _ c.loop-lit-test.false ∙ c.loop-lit.invariant
