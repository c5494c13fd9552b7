-- What `solve` leaves on the Proof port: the text of a log.
use Rattle.std.specs.Prelude.{◌≡◌, ℕ, ◌<◌, Bool, true, false, List, [], ◌++◌, length, filter_map, ◌⊎◌, IsFalse, ⊤}
use Rattle.std.specs.List.{AllByRecursion}
use Rattle.cx_base.specs.Assumptions.{clashes}
use Rattle.cx_base.specs.Problem.{Problem}
use Rattle.cx_base.specs.Lines.{Line}
use Rattle.cx_base.specs.declared.steps.LogStep.{LogStep}
use Rattle.cx_base.specs.declared.steps.LogEvent.{LogEvent}
use Rattle.cx_base.specs.Endings.{finished}
use Rattle.cx_semantics.specs.Ids.{HasLowId}
use Rattle.cx_judgements.specs.LogTexts.{LogOpen, LogRight, Budgeted}
use Rattle.cx_texts.specs.LogLines.{LinesRead}
use Rattle.cx_texts.specs.LogText.{LogReads, EventsRead}
use Rattle.cx_semantics.specs.Marked.{Marked, mark_of}
use Rattle.search_steps.specs.Recovering.{SettledWithRecovered}
use Rattle.search_steps.specs.Hints.{AreHinted}
use Rattle.search_steps.specs.Schedule.{IsScheduledIn}
use Rattle.search_steps.specs.TidyLines.{TidiedInTime}
use Rattle.cdcl_core.specs.Results.{IsBoundedIn}
use Rattle.cx_desk.specs.Outside.{Bytes}
use Rattle.cx_words.specs.declared.plans.SearchOptions.{SearchOptions}

-- The log is read as lines, each of which fits those before it: at the line `c tidy R` the live clauses with two different literals are tidy, each such line comes at its restart, and none is missing at a later mark.
pub record HasTidyLines (log : Bytes) : Type 0 where
  pub lines : List (Line LogEvent)
  pub read : LinesRead log lines
  pub in_time : TidiedInTime lines

-- the log of a search that tidies says where its clauses are tidy
abbrev pub IsTidiedIn : Bool → Bytes → Type 0
IsTidiedIn false log = ⊤
IsTidiedIn true log = HasTidyLines log

-- The log is marked fewer times than the budget, and never where propagation settles the formula; its ids are low, learned clauses are deleted on schedule, and the hints of its clauses are right. Of a search that does not tidy it adds few clauses and parities for its marks; of one that does it tells where the clauses are tidy.
pub record HasFewMarks (formula : Problem) (options : SearchOptions) (log : Bytes) : Type 0 where
  pub events : List LogEvent
  pub read : EventsRead log events finished
  pub count : ℕ
  pub marked : Marked formula events count
  pub ids : AllByRecursion HasLowId events
  pub scheduled : IsScheduledIn options.inprocess events
  pub hinted : AreHinted events
  pub bounded : IsBoundedIn options.inprocess formula count events
  pub few : count < options.conflicts
  pub settled : SettledWithRecovered formula → count ≡ 0
  pub tidied : IsTidiedIn options.inprocess log

-- before values: each step is right, and none ends the log
pub record IsOpenLog (formula : Problem) (options : SearchOptions) (log : Bytes) : Type 0 where
  pub is_open : LogOpen formula log
  pub marks : HasFewMarks formula options log

-- The log is right, and its last step ends it. Where the formula's assumptions clash, no step of it is judged.
pub record IsRefutation (formula : Problem) (log : Bytes) : Type 0 where
  pub steps : List LogStep
  pub reads : LogReads log steps finished
  pub step : ℕ
  pub right : LogRight formula log step
  pub last : IsFalse (clashes formula.constraints) → step ≡ length steps

-- before the answer that there are none
pub record IsClosedLog (formula : Problem) (options : SearchOptions) (log : Bytes) : Type 0 where
  pub refutes : IsRefutation formula log
  pub marks : HasFewMarks formula options log

-- no event of the log is a mark
abbrev pub HasNoMark : Bytes → Type 0
HasNoMark log = (events : List LogEvent) × EventsRead log events finished × (filter_map mark_of events ≡ [])

-- each step of the log has a low id
abbrev pub HasOnlyLowIds : Bytes → Type 0
HasOnlyLowIds log = (events : List LogEvent) × EventsRead log events finished × AllByRecursion HasLowId events

-- learned clauses are deleted on schedule
abbrev pub HasSchedule : Bool → Bytes → Type 0
HasSchedule tidies log = (events : List LogEvent) × EventsRead log events finished × IsScheduledIn tidies events

-- each clause by a chain comes with hints that are right for it
abbrev pub HasRightHints : Bytes → Type 0
HasRightHints log = (events : List LogEvent) × EventsRead log events finished × AreHinted events

-- the log of a search that does not tidy adds few clauses and parities for so many marks
abbrev pub HasBound : Bool → Problem → ℕ → Bytes → Type 0
HasBound tidies formula marks log = (events : List LogEvent) × EventsRead log events finished × IsBoundedIn tidies formula marks events

-- before the answer that the budget is spent
pub record IsSpentLog (formula : Problem) (options : SearchOptions) (log : Bytes) : Type 0 where
  pub marked : Budgeted formula log options.conflicts
  pub ids : HasOnlyLowIds log
  pub scheduled : HasSchedule options.inprocess log
  pub hinted : HasRightHints log
  pub bounded : HasBound options.inprocess formula options.conflicts log
  pub tidied : IsTidiedIn options.inprocess log

-- the bytes are a prefix of a log all of whose steps are right and have low ids; where propagation settles the formula, it has no mark
pub record IsLogSoFar (formula : Problem) (bytes : Bytes) : Type 0 where
  pub log : Bytes
  pub right : LogOpen formula log ⊎ IsRefutation formula log
  pub ids : HasOnlyLowIds log
  pub settled : SettledWithRecovered formula → HasNoMark log
  pub rest : Bytes
  pub front : bytes ++ rest ≡ log
