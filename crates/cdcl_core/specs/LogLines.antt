-- What a search leaves of its log where tidy lines come between the events.
use Rattle.std.specs.Prelude.{◌≡◌, ◌⊎◌, ℕ, ◌≤◌, Bool, true, false, List, [], filter_map, length, Option, Some, IfSome}
use Rattle.cx_base.specs.Lines.{Line}
use Rattle.cx_base.specs.Problem.{Problem}
use Rattle.cx_base.specs.declared.steps.LogEvent.{LogEvent}
use Rattle.cx_semantics.specs.Marked.{mark_of}
use Rattle.conflict_learn.specs.declared.fault.CoreFault.{CoreFault}
use Rattle.conflict_learn.specs.declared.fault.CoreFault.TheVariants.{Memory, Write}
use Rattle.conflict_learn.specs.Faults.{CountsAs}
use Rattle.search_steps.specs.Recovering.{SettledWithRecovered}
use Rattle.search_steps.specs.TidyLines.{TidiedInTime, tidy_lines_in}
use Rattle.step_text.specs.declared.sink.Sink as sink
use Rattle.cdcl_search.specs.Tells.{HasFailedBy, HasNoMark, HaveLowIds, IsLeft, IsTorn}
use Rattle.cdcl_search.specs.declared.logs.SearchLog.{SearchLog}

-- what events leave as it was; in a search that tidies, what events and tidy lines leave
abbrev pub KeepsIn : {L : Type 0} → Bool → sink.Ghosts L LogEvent → L → L → Type 0
KeepsIn false m a b = m.keeps a b
KeepsIn true m a b = m.keeps_else a b

-- an event that may follow is torn; in a search that tidies, it or a tidy line
abbrev pub IsTornIn : {L : Type 0} → Bool → sink.Ghosts L LogEvent → Problem → L → Type 0
IsTornIn false m formula s = IsTorn formula (m.torn s) (m.items s)
IsTornIn true m formula s = IsTorn formula (m.torn s) (m.items s) ⊎ ((r : ℕ) × m.torn_tidy s r)

-- the search gave up: its log is right as far as it goes, and after a fault of writing a line that may follow is torn
abbrev pub GivesUpIn : {L : Type 0} → Bool → sink.Ghosts L LogEvent → Problem → L → CoreFault → Type 0
GivesUpIn tidies m formula s Memory = IsLeft formula (m.items s)
GivesUpIn tidies m formula s Write = IsLeft formula (m.items s) × IsTornIn tidies m formula s

-- Calls of a search that may tidy, up to an answer, or up to this fault. They leave of the log what other calls do, but tidy lines may come between its events.
pub record GoesOnIn {L : Type 0} (tidies : Bool) (m : sink.Ghosts L LogEvent) (old : SearchLog L) (why : Option CoreFault) (new : SearchLog L) : Type 0 where
  pub right : IsLeft old.formula.now (m.items old.sink.now) → IsLeft new.formula.now (m.items new.sink.now)
  pub ids : HaveLowIds (m.items old.sink.now) → HaveLowIds (m.items new.sink.now)
  pub counts : CountsAs why (m.faults old.sink.now) (m.faults new.sink.now)
  pub failed : HasFailedBy why (m.has_failed old.sink.now) (m.has_failed new.sink.now)
  pub marks : SettledWithRecovered new.formula.now → HasNoMark (m.items old.sink.now) → HasNoMark (m.items new.sink.now)
  pub tears : why ≡ Some Write → IsTornIn tidies m new.formula.now new.sink.now
  pub formula : new.formula.now ≡ old.formula.now
  pub sink : new.sink.ghost_name ≡ old.sink.ghost_name
  pub frame : KeepsIn tidies m old.sink.now new.sink.now

-- where the lines are told, none is there yet
abbrev pub HasNoLine : Option (List (Line LogEvent)) → Type 0
HasNoLine told = IfSome told (λ lines. lines ≡ [])

-- where the lines are told, each fits those before it
abbrev pub AreInTime : Option (List (Line LogEvent)) → Type 0
AreInTime told = IfSome told (λ lines. TidiedInTime lines)

-- and so many of them are tidy lines
abbrev pub AreTidyLines : ℕ → Option (List (Line LogEvent)) → Type 0
AreTidyLines n told = IfSome told (λ lines. TidiedInTime lines × (tidy_lines_in lines ≡ n))

-- where the events are told, at most so many are marks
abbrev pub HasMarksUpTo : ℕ → Option (List LogEvent) → Type 0
HasMarksUpTo n told = IfSome told (λ events. length (filter_map mark_of events) ≤ n)
