-- A text that is accepted, or right to its end, has no values that meet the formula.
use Rattle.std.proofs.Common.{ℕ, List}
use Rattle.cx_base.specs.Problem.{Problem, Unmet}
use Rattle.cx_judgements.specs.ProofTexts.{Accepted}
use Rattle.cx_judgements.specs.LogTexts.{LogRight}
use Rattle.cx_semantics.proofs.Soundness.{accepted_steps_are_unmet, right_steps_are_unmet}

pub accepted_is_unmet : (formula : Problem) (text : List ℕ) (k : ℕ) → Accepted formula text k → Unmet formula
accepted_is_unmet formula text k a = accepted_steps_are_unmet formula a.steps k a.judged

pub right_log_is_unmet : (formula : Problem) (text : List ℕ) (k : ℕ) → LogRight formula text k → Unmet formula
right_log_is_unmet formula text k a = right_steps_are_unmet formula a.steps k a.judged
