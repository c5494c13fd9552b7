-- What calls take of a search, and what they leave of it.
use Rattle.std.specs.Prelude.{◌≡◌, ◌≢◌, ◌≤◌, Bool, if◌then◌else◌, List, [], length, Option, Result, Ok, OnOk}
use Rattle.search_policy.specs.Assuming.{KeepsAssumptions}
use Rattle.search_policy.specs.declared.assumptions.Assumptions.{Assumptions}
use Rattle.cx_base.specs.Literals.{Literal}
use Rattle.cx_base.specs.Problem.{Problem}
use Rattle.cx_base.specs.declared.steps.LogEvent.{LogEvent}
use Rattle.conflict_learn.specs.declared.fault.CoreFault.{CoreFault}
use Rattle.conflict_learn.specs.Faults.{fault_in}
use Rattle.step_text.specs.declared.sink.Sink as sink
use Rattle.parity_engine.specs.State.{State}
use Rattle.parity_engine.specs.declared.state.Mood.TheVariants.{Broken}
use Rattle.parity_engine.specs.declared.engine.ParityEngine as engine
use Rattle.cdcl_search.specs.declared.state.SearchState.{SearchState}
use Rattle.cdcl_search.specs.declared.logs.SearchLog.{SearchLog}
use Rattle.cdcl_search.specs.Finds.{PropagationFinds}
use Rattle.cdcl_search.specs.Searching.{HasUnits}
use Rattle.cdcl_search.specs.declared.propagation.Found.TheVariants as found
use Rattle.cdcl_search.specs.Logs.{GoesOn, AreToldNow, HasNotFailed, Stands, StandsBeforeDeletion}
use Rattle.cdcl_search.specs.Tells.{TellsAll, FaultsAs, HasFailedBy}
use Rattle.cdcl_search.specs.Ties.{SearchStands}

-- ---- tellings
-- The sink is told these events, or a prefix of them up to a fault, which is counted where it is one of writing. What the sink keeps is kept.
pub record TellsIn {L T : Type 0} (m : sink.Ghosts L LogEvent) (events : List LogEvent) (old : L) (result : Result T CoreFault) (new : L) : Type 0 where
  pub told : TellsAll (m.torn new) events (m.items old) result (m.items new)
  pub faults : FaultsAs result (m.faults old) (m.faults new)
  pub failed : HasFailedBy (fault_in result) (m.has_failed old) (m.has_failed new)
  pub frame : m.keeps old new

-- Up to an answer these events are told; the log goes on.
pub record Tells {L T : Type 0} (m : sink.Ghosts L LogEvent) (old : SearchLog L) (events : List LogEvent) (result : Result T CoreFault) (new : SearchLog L) : Type 0 where
  pub told : OnOk result (AreToldNow m old events new)
  pub log : GoesOn m old (fault_in result) new

-- These events are told, though they were not made; or none is.
abbrev pub TellsUnmade : {L : Type 0} → sink.Ghosts L LogEvent → SearchLog L → List LogEvent → Bool → SearchLog L → Type 0
TellsUnmade m old events taken new = Tells {T = Unit {0}} m old (if taken then events else []) (Ok tt) new

-- ---- calls that tell the log
-- the search fits the code, no row is broken, and the sink of the log has not failed
pub record IsReady {P L : Type 0} (p : engine.Ghosts P) (m : sink.Ghosts L LogEvent) (log : SearchLog L) (c : SearchState) (e : P) : Type 0 where
  pub stands : Stands p m log c e []
  pub unbroken : (p.state e).mood ≢ Broken
  pub going : HasNotFailed m log

-- the search fits its log, where of rows these clauses were told since the last mark; one more can be told, and the sink of the log has not failed
pub record CanTellRow {P L : Type 0} (p : engine.Ghosts P) (m : sink.Ghosts L LogEvent) (log : SearchLog L) (c : SearchState) (e : P) (rows : List (List Literal)) : Type 0 where
  pub stands : Stands p m log c e rows
  pub going : HasNotFailed m log
  pub room : length rows ≤ log.formula.now.variables

-- Up to an answer the search fits again, with these clauses of rows; the log goes on.
pub record StandsOn {P L T : Type 0} (p : engine.Ghosts P) (m : sink.Ghosts L LogEvent) (old new : SearchLog L) (now : SearchState) (e : P) (rows : List (List Literal)) (result : Result T CoreFault) : Type 0 where
  pub stands : OnOk result (Stands p m new now e rows)
  pub log : GoesOn m old (fault_in result) new

-- Up to an answer the search fits before these clauses of rows are deleted; the log goes on.
pub record HasRowsToDelete {P L T : Type 0} (p : engine.Ghosts P) (m : sink.Ghosts L LogEvent) (old new : SearchLog L) (now : SearchState) (e : P) (rows : List (List Literal)) (result : Result T CoreFault) : Type 0 where
  pub stands : OnOk result (StandsBeforeDeletion p m new now e rows)
  pub log : GoesOn m old (fault_in result) new

-- Up to an answer the search fits again. No conflict is counted, it tidies as before, and the log goes on.
pub record SearchesOn {P L T : Type 0} (p : engine.Ghosts P) (m : sink.Ghosts L LogEvent) (old : SearchLog L) (c : SearchState) (new : SearchLog L) (now : SearchState) (e : P) (result : Result T CoreFault) : Type 0 where
  pub stands : OnOk result (Stands p m new now e [])
  pub conflicts : now.conflicts ≡ c.conflicts
  pub tidies : now.tidies ≡ c.tidies
  pub log : GoesOn m old (fault_in result) new

-- ---- calls that tell nothing
-- the search fits the code and some log, and no row is broken
pub record IsUnbroken (formula : Problem) (c : SearchState) (e : State) : Type 0 where
  pub stands : (told : Option (List LogEvent)) × SearchStands formula c e [] told
  pub unbroken : e.mood ≢ Broken

-- the search fits the code and the log that it fitted, no row is broken, and it tidies as before
pub record StaysUnbroken (formula : Problem) (c : SearchState) (e : State) (now : SearchState) (e_now : State) : Type 0 where
  pub stands : (told : Option (List LogEvent)) → SearchStands formula c e [] told → SearchStands formula now e_now [] told
  pub unbroken : e_now.mood ≢ Broken
  pub tidies : now.tidies ≡ c.tidies

-- the search fits the code and some log, both engines are quiet, no literal contradicts an assumed one, and the units of level 0 are told
pub record MayDecide (formula : Problem) (c : SearchState) (e : State) (a : Assumptions) : Type 0 where
  pub stands : (told : Option (List LogEvent)) × SearchStands formula c e [] told
  pub quiet : PropagationFinds c e found.Quiet
  pub units : HasUnits c a
  pub keeps : KeepsAssumptions formula.constraints a c.trail
  pub checked : a.checked ≡ length c.trail.entries
