-- Steps of a tidying, one after another.
use Rattle.std.proofs.Common.{◌≡◌, refl, subst, List, [], ◌∷◌, ◌++◌, false}
use Rattle.cx_base.specs.Problem.{Problem}
use Rattle.cx_base.specs.declared.steps.LogStep.{LogStep}
use Rattle.cx_semantics.specs.Judging.{IsRight, Runs}
use Rattle.cx_semantics.specs.LogRules.{log_calculus, after_log_step, derives_ending_clause}
use Rattle.cx_semantics.specs.Tables.{Tables}
use Rattle.tidy_rules.specs.Runs.{IsTidyStep, RunsTidily}

pub run_on : (formula : Problem) (a b c : Tables) (ss ts : List LogStep) → RunsTidily formula a ss b → RunsTidily formula b ts c → RunsTidily formula a (ss ++ ts) c
run_on formula a b c [] ts h k = subst (λ x. RunsTidily formula x ts c) h k
run_on formula a b c (s ∷ ss) ts h k = (h.0, h.1, h.2, run_on formula (after_log_step a s) b c ss ts h.3 k)

pub one_step : (formula : Problem) (a : Tables) (s : LogStep) → IsRight (log_calculus formula) a s → derives_ending_clause formula s ≡ false → IsTidyStep a.clauses s → RunsTidily formula a (s ∷ []) (after_log_step a s)
one_step formula a s right goes_on tidy = (right, goes_on, tidy, refl)

-- they are right steps
pub tidy_runs : (formula : Problem) (a b : Tables) (ss : List LogStep) → RunsTidily formula a ss b → Runs (log_calculus formula) a ss b
tidy_runs formula a b [] h = h
tidy_runs formula a b (s ∷ ss) h = (h.0, h.1, tidy_runs formula (after_log_step a s) b ss h.3)
