-- What a round of the search takes and leaves.
use Rattle.std.specs.Prelude.{◌≡◌, ℕ, ◌+◌, ◌<◌, ◌≤◌, ◌^◌, Bool, List, Option, Result, MatchOption, OnOk, IfOk}
use Rattle.cx_base.specs.Lines.{Line}
use Rattle.cx_base.specs.Literals.{Literal}
use Rattle.cx_base.specs.Problem.{Problem}
use Rattle.cx_base.specs.declared.steps.LogEvent.{LogEvent}
use Rattle.conflict_learn.specs.declared.fault.CoreFault.{CoreFault}
use Rattle.conflict_learn.specs.Faults.{fault_in}
use Rattle.conflict_learn.specs.Marks.{AreClear}
use Rattle.search_policy.specs.Assuming.{KeepsAssumptions}
use Rattle.search_policy.specs.declared.assumptions.Assumptions.{Assumptions}
use Rattle.step_text.specs.declared.sink.Sink as sink
use Rattle.parity_engine.specs.declared.engine.ParityEngine as engine
use Rattle.cdcl_search.specs.Logs.{GoesOn, HasNotFailed, Stands, told_in}
use Rattle.cdcl_core.specs.Concluding.{SearchGoesOn, TellsEnd}
use Rattle.cdcl_core.specs.LogLines.{AreInTime, AreTidyLines, HasMarksUpTo}
use Rattle.cdcl_core.specs.Results.{IsRightOutcomeIn, IsSettledBy}
use Rattle.cdcl_core.specs.declared.rounds.Run.{Run}
use Rattle.cdcl_core.specs.declared.solving.SearchOutcome.{SearchOutcome}

-- both have the values under these references, and this budget
pub record IsSameRun {P L : Type 0} (a b : Run P L) : Type 0 where
  pub log : b.log.ghost_name ≡ a.log.ghost_name
  pub state : b.state.ghost_name ≡ a.state.ghost_name
  pub engine : b.engine.ghost_name ≡ a.engine.ghost_name
  pub budget : b.budget ≡ a.budget

-- the search fits the code, where of rows these clauses were told since the last mark; there is budget left, no variable is marked, and the sink has not failed
pub record IsSearching {P L : Type 0} (p : engine.Ghosts P) (m : sink.Ghosts L LogEvent) (r : Run P L) (a : Assumptions) (marks : List Bool) (rows : List (List Literal)) : Type 0 where
  pub stands : Stands p m r.log.now r.state.now r.engine.now rows
  pub keeps : KeepsAssumptions r.log.now.formula.now.constraints a r.state.now.trail
  pub few : (r.state.now.conflicts < r.budget) × (r.budget ≤ 10 ^ 18)
  pub clear : AreClear marks
  pub going : HasNotFailed m r.log.now

-- Up to an answer the search goes on as before, and has counted one conflict more; an answer is right, and comes after one mark more at most. No variable is marked then, and the log goes on.
pub record LeavesRound {P L : Type 0} (p : engine.Ghosts P) (m : sink.Ghosts L LogEvent) (old : Run P L) (result : Result (Option SearchOutcome) CoreFault) (new : Run P L) (a : Assumptions) (flags : List Bool) : Type 0 where
  pub goes_on : IfOk result (λ o. MatchOption o (SearchGoesOn new.log.now.formula.now old.budget (told_in m new.log.now) new.state.now (p.state new.engine.now)) (λ x. IsRightOutcomeIn old.state.now.tidies new.log.now.formula.now old.budget (told_in m new.log.now) x))
  pub one_more : IfOk result (λ o. MatchOption o (new.state.now.conflicts ≡ old.state.now.conflicts + 1) (λ _. Unit {0}))
  pub marks : IfOk result (λ o. MatchOption o (Unit {0}) (λ _. HasMarksUpTo (old.state.now.conflicts + 1) (told_in m new.log.now)))
  pub tidies : IfOk result (λ o. MatchOption o (new.state.now.tidies ≡ old.state.now.tidies) (λ _. Unit {0}))
  pub keeps : IfOk result (λ o. MatchOption o (KeepsAssumptions new.log.now.formula.now.constraints a new.state.now.trail) (λ _. Unit {0}))
  pub clear : OnOk result (AreClear flags)
  pub log : GoesOn m old.log.now (fault_in result) new.log.now
  pub same : IsSameRun old new

-- Up to an answer the search goes on as a round left it, and counts no conflict; an answer is right, never unknown, and comes after no mark more. No variable is marked then.
pub record LeavesRestart {P L : Type 0} (p : engine.Ghosts P) (m : sink.Ghosts L LogEvent) (old : Run P L) (result : Result (Option SearchOutcome) CoreFault) (new : Run P L) (a : Assumptions) (marks : List Bool) : Type 0 where
  pub goes_on : IfOk result (λ o. MatchOption o (SearchGoesOn new.log.now.formula.now old.budget (told_in m new.log.now) new.state.now (p.state new.engine.now)) (λ x. IsSettledBy old.state.now.tidies new.log.now.formula.now (old.state.now.conflicts + 1) (told_in m new.log.now) x))
  pub conflicts : IfOk result (λ o. MatchOption o (new.state.now.conflicts ≡ old.state.now.conflicts) (λ _. Unit {0}))
  pub tidies : IfOk result (λ o. MatchOption o (new.state.now.tidies ≡ old.state.now.tidies) (λ _. Unit {0}))
  pub keeps : IfOk result (λ o. MatchOption o (KeepsAssumptions new.log.now.formula.now.constraints a new.state.now.trail) (λ _. Unit {0}))
  pub clear : OnOk result (AreClear marks)
  pub same : IsSameRun old new

-- where the search goes on, this many of the told lines are tidy lines; at an answer each line fits those before it
abbrev pub HasLinesAfter : ℕ → Option (List (Line LogEvent)) → Result (Option SearchOutcome) CoreFault → Type 0
HasLinesAfter restarts told result = IfOk result (λ o. MatchOption o (AreTidyLines restarts told) (λ _. AreInTime told))

-- Up to an answer the log is ended, and no variable is marked. The answer is the assumptions that fail.
pub record EndsRound {P L : Type 0} (m : sink.Ghosts L LogEvent) (old : Run P L) (result : Result (List Literal) CoreFault) (new : Run P L) (marks : List Bool) : Type 0 where
  pub ends : TellsEnd m old.log.now old.state.now new.log.now result
  pub clear : OnOk result (AreClear marks)
  pub same : IsSameRun old new

-- where no fault comes there is an answer, never unknown, with at most this many marks
abbrev pub IsSettledIn : Bool → Problem → ℕ → Option (List LogEvent) → Result (Option SearchOutcome) CoreFault → Type 0
IsSettledIn tidies formula marks told result = IfOk result (λ o. MatchOption o ⊥ (λ a. IsSettledBy tidies formula (marks + 1) told a))
