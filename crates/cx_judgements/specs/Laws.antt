-- The laws of these definitions.
use Rattle.std.specs.Prelude.{ℕ, List}
use Rattle.cx_base.specs.Problem.{Problem, Unmet}
use Rattle.cx_base.specs.ExactlyOne.{ExactlyOne}
use Rattle.cx_base.specs.declared.steps.LogEvent.{LogEvent}
use Rattle.cx_base.specs.declared.steps.LogStep.{LogStep}
use Rattle.cx_semantics.specs.Marked.{Marked}
use Rattle.cx_judgements.specs.ProofTexts.{ProofJudgedAs, Accepted}
use Rattle.cx_judgements.specs.LogTexts.{LogJudgedAs, LogRight}
use Rattle.cx_judgements.specs.LearnedClauses.{LearnsClauses}
use Rattle.cx_judgements.specs.RightSources.{AreRightSteps, HaveRightSources}

-- a proof is accepted at one step, or refused at one step for one cause
abbrev pub ProofsAreJudgedInOneWay : Type 0
ProofsAreJudgedInOneWay = (formula : Problem) (text : List ℕ) → ExactlyOne (ProofJudgedAs formula text)

abbrev pub LogsAreJudgedInOneWay : Type 0
LogsAreJudgedInOneWay = (formula : Problem) (text : List ℕ) → ExactlyOne (LogJudgedAs formula text)

-- where a proof is accepted, no values meet the formula
abbrev pub AcceptedIsUnmet : Type 0
AcceptedIsUnmet = (formula : Problem) (text : List ℕ) (k : ℕ) → Accepted formula text k → Unmet formula

-- where a log is right to its end, no values meet the formula
abbrev pub RightLogIsUnmet : Type 0
RightLogIsUnmet = (formula : Problem) (text : List ℕ) (k : ℕ) → LogRight formula text k → Unmet formula

-- a log with n marks learns a clause from each
abbrev pub MarkedLogsLearn : Type 0
MarkedLogsLearn = (formula : Problem) (events : List LogEvent) (n : ℕ) → Marked formula events n → LearnsClauses formula events n

-- the sources of right steps show what these add
abbrev pub RightStepsHaveRightSources : Type 0
RightStepsHaveRightSources = (formula : Problem) (steps : List LogStep) → AreRightSteps formula steps → HaveRightSources steps
