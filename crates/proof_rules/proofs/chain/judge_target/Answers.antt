use Rattle.std.proofs.Common.{◌∙◌, subst, Some}
use Rattle.cx_semantics.specs.Chain.{negations}
use Rattle.cx_semantics.specs.ProofRules.{chaining}
use Rattle.cx_semantics.specs.declared.cause.Cause.TheVariants as causes
use Rattle.proof_rules.specs.Ends.{EndsAs}
use Rattle.proof_rules.specs.Kinds.{hinted}
use Rattle.proof_rules.proofs.ChainSteps.{chain-same, right_holds, not_unit_fails, hints_end_fails}
use Rattle.proof_rules.proofs.NamedHints.{named_holds, named_fails, not_named_fails}
use Rattle.proof_rules.proofs.chain.judge_target.Goals as goal

pub returns-in-Some-Right : goal.returns-in-Some-Right
returns-in-Some-Right c =
    let table = c.args.live.now.clauses in
    let hints = c.args.hints.now in
    let target = c.args.target.now in
    let ends = subst (λ e. EndsAs table c.set_to_negations.new.self hints (Some e)) c.in-Some-Right.field-0-is (subst (EndsAs table c.set_to_negations.new.self hints) c.in-Some-Right.is c.in_ok-chain_end.ensures) in
    named_holds table hints (chaining target (hinted table hints)) ends.0
    (right_holds target (hinted table hints) (ends.1 ∙ chain-same _ (negations target) (hinted table hints) c.in_ok-set_to_negations.ensures.ok))

pub returns-in-Some-NotUnit : goal.returns-in-Some-NotUnit
returns-in-Some-NotUnit c =
    let table = c.args.live.now.clauses in
    let hints = c.args.hints.now in
    let target = c.args.target.now in
    let ends = subst (λ e. EndsAs table c.set_to_negations.new.self hints (Some e)) c.in-Some-NotUnit.field-0-is (subst (EndsAs table c.set_to_negations.new.self hints) c.in-Some-NotUnit.is c.in_ok-chain_end.ensures) in
    named_fails table hints (chaining target (hinted table hints)) causes.HintNotUnit ends.0
    (not_unit_fails target (hinted table hints) (ends.1 ∙ chain-same _ (negations target) (hinted table hints) c.in_ok-set_to_negations.ensures.ok))

pub returns-in-Some-HintsEnd : goal.returns-in-Some-HintsEnd
returns-in-Some-HintsEnd c =
    let table = c.args.live.now.clauses in
    let hints = c.args.hints.now in
    let target = c.args.target.now in
    let ends = subst (λ e. EndsAs table c.set_to_negations.new.self hints (Some e)) c.in-Some-HintsEnd.field-0-is (subst (EndsAs table c.set_to_negations.new.self hints) c.in-Some-HintsEnd.is c.in_ok-chain_end.ensures) in
    named_fails table hints (chaining target (hinted table hints)) causes.HintsEnd ends.0
    (hints_end_fails target (hinted table hints) (ends.1 ∙ chain-same _ (negations target) (hinted table hints) c.in_ok-set_to_negations.ensures.ok))

pub returns-in-None : goal.returns-in-None
returns-in-None c =
    let table = c.args.live.now.clauses in
    let hints = c.args.hints.now in
    not_named_fails table hints (chaining c.args.target.now (hinted table hints)) c.judge_hints.result (subst (EndsAs table c.set_to_negations.new.self hints) c.in-None.is c.in_ok-chain_end.ensures) c.judge_hints.ensures
