-- Which texts are right as logs, and which are marked.
use Rattle.std.specs.Prelude.{ℕ, List}
use Rattle.cx_base.specs.Problem.{Problem}
use Rattle.cx_semantics.specs.declared.cause.Cause.{Cause}
use Rattle.cx_base.specs.declared.steps.LogStep.{LogStep}
use Rattle.cx_base.specs.declared.steps.LogEvent.{LogEvent}
use Rattle.cx_base.specs.Endings.{Ending, finished}
use Rattle.cx_texts.specs.LogText.{LogReads, EventsRead}
use Rattle.cx_semantics.specs.Judging.{Judgement, accepted, refused, JudgedAs, IsOpen}
use Rattle.cx_semantics.specs.LogRules.{log_calculus}
use Rattle.cx_semantics.specs.Marked.{Marked}

-- the judgement of a log's text: by its steps and its ending
pub record LogJudgedAs (formula : Problem) (text : List ℕ) (judgement : Judgement) : Type 0 where
  pub steps : List LogStep
  pub ending : Ending
  pub reads : LogReads text steps ending
  pub judged : JudgedAs (log_calculus formula) steps ending judgement

abbrev pub LogRight : Problem → List ℕ → ℕ → Type 0
LogRight formula text k = LogJudgedAs formula text (accepted k)

abbrev pub LogRefusedAt : Problem → List ℕ → ℕ → Cause → Type 0
LogRefusedAt formula text k cause = LogJudgedAs formula text (refused k cause)

-- the whole text is steps, each right, and none ends the log
pub record LogOpen (formula : Problem) (text : List ℕ) : Type 0 where
  pub steps : List LogStep
  pub reads : LogReads text steps finished
  pub open_run : IsOpen (log_calculus formula) steps

-- the log is open, and its events are marked n times
pub record Budgeted (formula : Problem) (log : List ℕ) (n : ℕ) : Type 0 where
  pub is_open : LogOpen formula log
  pub events : List LogEvent
  pub read : EventsRead log events finished
  pub marked : Marked formula events n
