-- What calls leave of the log of a search.
use Rattle.std.specs.Prelude.{◌≡◌, false, List, Option, Some}
use Rattle.cx_base.specs.declared.steps.LogEvent.{LogEvent}
use Rattle.conflict_learn.specs.declared.fault.CoreFault.{CoreFault}
use Rattle.conflict_learn.specs.declared.fault.CoreFault.TheVariants.{Write}
use Rattle.conflict_learn.specs.Faults.{CountsAs}
use Rattle.cx_base.specs.Literals.{Literal}
use Rattle.search_steps.specs.Recovering.{SettledWithRecovered}
use Rattle.step_text.specs.declared.sink.Sink as sink
use Rattle.parity_engine.specs.declared.engine.ParityEngine as engine
use Rattle.cdcl_search.specs.declared.state.SearchState.{SearchState}
use Rattle.cdcl_search.specs.Ties.{SearchStands, SearchStandsFrom}
use Rattle.cdcl_search.specs.Tells.{IsLeft, HasFailedBy, HaveLowIds, HasNoMark, IsTorn, with_events}
use Rattle.cdcl_search.specs.declared.logs.SearchLog.{SearchLog}

-- Calls up to an answer, or up to this fault. A log that was right so far is right so far, and ids stay low. Where the formula is settled with its recovered parities no mark is told. A write fault is counted and tears an event that may follow, and the sink has failed then; otherwise none is counted. The formula and the sink are the same, and what the sink keeps is kept.
pub record GoesOn {L : Type 0} (m : sink.Ghosts L LogEvent) (old : SearchLog L) (why : Option CoreFault) (new : SearchLog L) : Type 0 where
  pub right : IsLeft old.formula.now (m.items old.sink.now) → IsLeft new.formula.now (m.items new.sink.now)
  pub ids : HaveLowIds (m.items old.sink.now) → HaveLowIds (m.items new.sink.now)
  pub counts : CountsAs why (m.faults old.sink.now) (m.faults new.sink.now)
  pub failed : HasFailedBy why (m.has_failed old.sink.now) (m.has_failed new.sink.now)
  pub marks : SettledWithRecovered new.formula.now → HasNoMark (m.items old.sink.now) → HasNoMark (m.items new.sink.now)
  pub tears : why ≡ Some Write → IsTorn new.formula.now (m.torn new.sink.now) (m.items new.sink.now)
  pub formula : new.formula.now ≡ old.formula.now
  pub sink : new.sink.ghost_name ≡ old.sink.ghost_name
  pub frame : m.keeps old.sink.now new.sink.now

-- the events that the sink was told, where it tells them
abbrev pub told_in : {L : Type 0} → sink.Ghosts L LogEvent → SearchLog L → Option (List LogEvent)
told_in m log = m.items log.sink.now

-- the sink of the log has not failed
abbrev pub HasNotFailed : {L : Type 0} → sink.Ghosts L LogEvent → SearchLog L → Type 0
HasNotFailed m log = m.has_failed log.sink.now ≡ false

-- these events may be told next: the log is right after them
abbrev pub IsRightBehind : {L : Type 0} → sink.Ghosts L LogEvent → SearchLog L → List LogEvent → Type 0
IsRightBehind m log more = IsLeft log.formula.now (with_events more (m.items log.sink.now))

-- these events were told
abbrev pub AreToldNow : {L : Type 0} → sink.Ghosts L LogEvent → SearchLog L → List LogEvent → SearchLog L → Type 0
AreToldNow m old more new = m.items new.sink.now ≡ with_events more (m.items old.sink.now)

-- the search fits what the code holds and what the log was told; of rows these clauses were told since the last mark
abbrev pub Stands : {P L : Type 0} → engine.Ghosts P → sink.Ghosts L LogEvent → SearchLog L → SearchState → P → List (List Literal) → Type 0
Stands p m log c e rows = SearchStands log.formula.now c (p.state e) rows (m.items log.sink.now)

-- So it is once the clause that those rows are told for has its id: theirs begin at the next one, until they are deleted.
abbrev pub StandsBeforeDeletion : {P L : Type 0} → engine.Ghosts P → sink.Ghosts L LogEvent → SearchLog L → SearchState → P → List (List Literal) → Type 0
StandsBeforeDeletion p m log c e rows = SearchStandsFrom log.formula.now c (p.state e) c.next rows (m.items log.sink.now)
