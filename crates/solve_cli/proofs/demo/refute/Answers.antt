use Rattle.std.proofs.Common.{length, subst}
use Rattle.cx_base.specs.Endings.{finished}
use Rattle.cx_semantics.specs.Judging.{JudgedAs}
use Rattle.cx_base.specs.Events.{steps_of}
use Rattle.cx_texts.specs.Printed.{printed_log}
use Rattle.cx_semantics.specs.ProofRules.{proof_calculus}
use Rattle.xlrup_check.specs.Verdicts.{judgement_of}
use Rattle.xlrup_check.specs.declared.verdict.Verdict.{Verdict}
use Rattle.solve_cli.proofs.Demonstrating.{proof_stands, verified_log}
use Rattle.solve_cli.proofs.demo.refute.Goals as goal

pub unreachable-requires : goal.unreachable-requires
unreachable-requires c =
    let f = c.args.formula.now in
    let proof = c.in_ok-proof.proof in
    proof_stands f proof (length proof) c.in-Refused.field-0 c.in-Refused.field-1 c.in_ok-proof.ensures.proof.1.1
    (subst (λ (v : Verdict). JudgedAs (proof_calculus f) proof finished (judgement_of v)) c.in-Refused.is c.in_ok-judge.ensures.judged)

pub returns-clause-proof : goal.returns-clause-proof
returns-clause-proof c =
    verified_log c.args.formula.now (printed_log c.args.log) (steps_of c.args.log) c.in_ok-proof.proof c.in_ok-proof.ensures.reads c.in_ok-judge.ensures.reads c.in_ok-proof.ensures.proof
