use Rattle.std.proofs.Common.{◌∙◌, sym, ap, subst, Bool}
use Rattle.std.specs.Prelude.{IfOk, MatchBool}
use Rattle.cx_base.specs.Integers.{literals}
use Rattle.cx_base.specs.declared.steps.LogStep.{LogStep}
use Rattle.cx_semantics.specs.LogRules.{derives_ending_clause}
use Rattle.cx_semantics.specs.Marked.{StepFits}
use Rattle.plain_tests.specs.Marking.{moment_of, IsAddedWhere}
use Rattle.plain_tests.proofs.fitting.step_fits.Goals as goal

pub returns-in-Clause : goal.returns-in-Clause
returns-in-Clause c =
    let f = c.args.formula.now in
    let m = moment_of c.args.told.now in
    let lits = literals c.in-Clause.lits in
    subst (λ (s : LogStep). IfOk c.is_added.result (λ b. MatchBool b (StepFits f m s) (¬ StepFits f m s))) (sym c.in-Clause.is)
    (subst (λ (ends : Bool). IfOk c.is_added.result (λ b. MatchBool b (IsAddedWhere ends m lits) (¬ IsAddedWhere ends m lits))) (c.ends_log.ensures ∙ ap (derives_ending_clause f) c.in-Clause.is) c.is_added.ensures)

pub returns-in-ClauseWithHints : goal.returns-in-ClauseWithHints
returns-in-ClauseWithHints c =
    let f = c.args.formula.now in
    let m = moment_of c.args.told.now in
    let r = c.is_added-in-ClauseWithHints.result in
    let lits = literals c.in-ClauseWithHints.lits in
    subst (λ (s : LogStep). IfOk r (λ b. MatchBool b (StepFits f m s) (¬ StepFits f m s))) (sym c.in-ClauseWithHints.is)
    (subst (λ (ends : Bool). IfOk r (λ b. MatchBool b (IsAddedWhere ends m lits) (¬ IsAddedWhere ends m lits)))
    (c.ends_log-in-ClauseWithHints.ensures ∙ ap (derives_ending_clause f) c.in-ClauseWithHints.is) c.is_added-in-ClauseWithHints.ensures)
