use Rattle.std.proofs.Common.{sym, subst}
use Rattle.cx_base.specs.declared.steps.LogStep.{LogStep}
use Rattle.cx_semantics.specs.LogRules.{log_rules}
use Rattle.proof_rules.specs.Judges.{JudgesBy}
use Rattle.plain_tests.proofs.judged.take_step.Goals as goal

pub returns-in-ParityOfClauses-clause-judged : goal.returns-in-ParityOfClauses-clause-judged
returns-in-ParityOfClauses-clause-judged c =
    subst (λ (s : LogStep). JudgesBy (log_rules c.args.formula.now c.args.live.now s) c.take_parity_of_clauses.result) (sym c.in-ParityOfClauses.is) c.take_parity_of_clauses.ensures.judged
