-- What an analysis takes of a search, and what it leaves.
use Rattle.std.specs.Prelude.{◌≡◌, Bool, List, [], Option, Result, OnOk, IfOk}
use Rattle.cx_base.specs.Literals.{Literal}
use Rattle.cx_base.specs.declared.steps.LogEvent.{LogEvent}
use Rattle.conflict_learn.specs.declared.fault.CoreFault.{CoreFault}
use Rattle.conflict_learn.specs.Faults.{fault_in}
use Rattle.conflict_learn.specs.Marks.{AreClear}
use Rattle.step_text.specs.declared.sink.Sink as sink
use Rattle.parity_engine.specs.declared.engine.ParityEngine as engine
use Rattle.cdcl_search.specs.declared.state.SearchState.{SearchState}
use Rattle.cdcl_search.specs.declared.logs.SearchLog.{SearchLog}
use Rattle.cdcl_search.specs.Logs.{GoesOn, HasNotFailed, Stands}
use Rattle.cdcl_core.specs.declared.analyser.Analyser.{Analyser}
use Rattle.cdcl_core.specs.declared.ending_rows.EndingRow.{EndingRow}
use Rattle.cdcl_core.specs.Concluding.{TellsEnd}
use Rattle.cdcl_core.specs.Refuting.{IsFirst}

-- the search fits its log, where of rows these clauses were told since the last mark; no variable is marked, and the sink has not failed
pub record CanAnalyse {P L : Type 0} (p : engine.Ghosts P) (m : sink.Ghosts L LogEvent) (log : SearchLog L) (c : SearchState) (e : P) (marks : List Bool) (rows : List (List Literal)) : Type 0 where
  pub stands : Stands p m log c e rows
  pub clear : AreClear marks
  pub going : HasNotFailed m log

-- Up to an answer the search fits its log again, with these clauses of rows, and no variable is marked; the log goes on.
pub record AnalysesOn {P L T : Type 0} (p : engine.Ghosts P) (m : sink.Ghosts L LogEvent) (old new : SearchLog L) (c : SearchState) (e : P) (marks : List Bool) (rows : List (List Literal)) (result : Result T CoreFault) : Type 0 where
  pub stands : OnOk result (Stands p m new c e rows)
  pub clear : OnOk result (AreClear marks)
  pub log : GoesOn m old (fault_in result) new

-- both have these values and references
pub record IsLentAlike {P L : Type 0} (a b : Analyser P L) : Type 0 where
  pub state : b.state.now ≡ a.state.now
  pub engine : b.engine.now ≡ a.engine.now
  pub log : b.log.ghost_name ≡ a.log.ghost_name
  pub marks : b.marks.ghost_name ≡ a.marks.ghost_name

-- the search is at level 0, and of rows these clauses were told since the last mark; the log goes on, and no mark is left
pub record IsAtZero {P L : Type 0} (p : engine.Ghosts P) (m : sink.Ghosts L LogEvent) (a : Analyser P L) (rows : List (List Literal)) : Type 0 where
  pub stands : Stands p m a.log.now a.state.now a.engine.now rows
  pub level : a.state.now.trail.level ≡ 0
  pub clear : AreClear a.marks.now
  pub going : HasNotFailed m a.log.now

-- it is the first row whose clause would end the log, or there is none
abbrev pub IsFirstOf : {P L : Type 0} → engine.Ghosts P → Analyser P L → Option EndingRow → Type 0
IsFirstOf p a first = IsFirst a.log.now.formula.now.constraints a.state.now (p.state a.engine.now) first

-- up to an answer the log is ended, and no assumed literal fails
pub record TellsRefutation {P L : Type 0} (m : sink.Ghosts L LogEvent) (old : Analyser P L) (result : Result (List Literal) CoreFault) (new : Analyser P L) : Type 0 where
  pub ends : TellsEnd m old.log.now old.state.now new.log.now result
  pub none : IfOk result (λ failed. failed ≡ [])
  pub clear : OnOk result (AreClear new.marks.now)
  pub lent : IsLentAlike old new
