use Rattle.std.proofs.Common.{◌≡◌, ◌∙◌, List, [], ap, subst}
use Rattle.cx_base.specs.Endings.{Ending, finished}
use Rattle.cx_base.specs.declared.steps.ProofStep.{ProofStep}
use Rattle.cx_semantics.specs.Judging.{JudgedAs}
use Rattle.cx_semantics.specs.ProofRules.{proof_calculus}
use Rattle.step_text.specs.Lists.{StepsLeft}
use Rattle.xlrup_check.specs.Verdicts.{judgement_of}
use Rattle.solve_cli.proofs.Demonstrating.{not_read}
use Rattle.solve_cli.proofs.demo.judge.Goals as goal

pub returns-in-Ok-clause-judged : goal.returns-in-Ok-clause-judged
returns-in-Ok-clause-judged c =
    let f = c.args.formula.now in
    let v = c.in-Ok.verdict in
    let j = c.in-Ok.ensures.judged [] tt in
    let steps : j.0 ≡ c.args.proof = j.2.0 ∙ ap (λ (l : StepsLeft ProofStep). l.steps) c.into_steps-steps.ensures.steps in
    subst (λ (x : List ProofStep). JudgedAs (proof_calculus f) x finished (judgement_of v)) steps
    (subst (λ (x : Ending). JudgedAs (proof_calculus f) j.0 x (judgement_of v)) j.2.1 j.3)

pub unreachable-requires : goal.unreachable-requires
unreachable-requires c = not_read c.in-Err-Read.field-0 _ c.in-Err-Read.field-0-is (c.in-Err-Read.ensures.cause [] tt)
