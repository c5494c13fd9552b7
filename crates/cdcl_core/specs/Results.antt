-- What the search answers.
use Rattle.std.specs.Prelude.{◌≡◌, ◌≢◌, ℕ, ◌<◌, Bool, true, false, [], ◌∷◌, List, Option, Some, None, Result, IfOk, OnOk, IsTrue, IsFalse}
use Rattle.cx_base.specs.Assumptions.{clashes, IsClash, IsFailed}
use Rattle.cx_base.specs.Literals.{Literal, positive_of, negative_of}
use Rattle.cx_base.specs.Problem.{Problem, Meets, Unmet}
use Rattle.cx_base.specs.declared.constraint.Constraint.{Constraint}
use Rattle.cx_base.specs.declared.steps.LogEvent.{LogEvent}
use Rattle.cx_semantics.specs.Judging.{IsOpen}
use Rattle.cx_semantics.specs.LogRules.{log_calculus}
use Rattle.cx_base.specs.Events.{steps_of}
use Rattle.cx_semantics.specs.Marked.{Marked}
use Rattle.search_steps.specs.LogSteps.{IsEnded, LastRefutes}
use Rattle.conflict_learn.specs.declared.fault.CoreFault.{CoreFault}
use Rattle.conflict_learn.specs.Faults.{fault_in}
use Rattle.search_steps.specs.Hints.{AreHinted}
use Rattle.search_steps.specs.Recovering.{SettledWithRecovered}
use Rattle.search_steps.specs.Schedule.{IsScheduledIn}
use Rattle.search_steps.specs.Size.{IsBounded}
use Rattle.step_text.specs.declared.sink.Sink as sink
use Rattle.cdcl_search.specs.declared.logs.SearchLog.{SearchLog}
use Rattle.cdcl_search.specs.Logs.{told_in}
use Rattle.cdcl_core.specs.LogLines.{AreInTime, GoesOnIn}
use Rattle.cdcl_core.specs.declared.solving.SearchOutcome.{SearchOutcome}
use Rattle.cdcl_core.specs.declared.solving.SearchOutcome.TheVariants.{Sat, Unsat, Unknown}

-- where the events are told, there is none yet
abbrev pub IsFresh : Option (List LogEvent) → Type 0
IsFresh None = Unit {0}
IsFresh (Some events) = events ≡ []

-- a search that does not tidy adds few clauses and parities for its marks
abbrev pub IsBoundedIn : Bool → Problem → ℕ → List LogEvent → Type 0
IsBoundedIn false formula n events = IsBounded formula n events
IsBoundedIn true formula n events = Unit {0}

-- the log is open and has this many marks and few additions for them, learned clauses are deleted on schedule, and the hints are right
abbrev pub IsOpenWith : Bool → Problem → ℕ → Option (List LogEvent) → Type 0
IsOpenWith tidies formula n None = Unit {0}
IsOpenWith tidies formula n (Some events) = IsOpen (log_calculus formula) (steps_of events) × Marked formula events n × IsScheduledIn tidies events × AreHinted events × IsBoundedIn tidies formula n events

-- the log is open and has fewer marks than the budget
abbrev pub IsOpenWithin : Bool → Problem → ℕ → Option (List LogEvent) → Type 0
IsOpenWithin tidies formula budget told = (n : ℕ) × (n < budget) × IsOpenWith tidies formula n told

-- The log is ended. Where no assumptions clash, the failed ones are the negations of its last clause's literals.
pub record EndsFor (formula : Problem) (events : List LogEvent) (failed : List Literal) : Type 0 where
  pub ended : IsEnded formula events
  pub last : IsFalse (clashes formula.constraints) → LastRefutes events failed

-- the log is ended with these failed assumptions, has fewer marks than the budget and few additions for them, learned clauses are deleted on schedule, and the hints are right
abbrev pub IsEndedWithin : Bool → Problem → ℕ → List Literal → Option (List LogEvent) → Type 0
IsEndedWithin tidies formula budget failed None = Unit {0}
IsEndedWithin tidies formula budget failed (Some events) = EndsFor formula events failed × ((n : ℕ) × (n < budget) × Marked formula events n × IsBoundedIn tidies formula n events) × IsScheduledIn tidies events × AreHinted events

-- both literals of the least variable that is assumed with both signs
abbrev pub AreBothOfClash : List Constraint → List Literal → Type 0
AreBothOfClash constraints lits = (x : ℕ) × IsClash constraints x × (lits ≡ positive_of x ∷ negative_of x ∷ [])

-- No values meet the formula, and the log shows it. The failed literals are assumed, and no values meet the clauses and the parities with them. Where assumptions clash, they are the two of the least variable that does.
pub record RefutesIn (tidies : Bool) (formula : Problem) (budget : ℕ) (told : Option (List LogEvent)) (failed : List Literal) : Type 0 where
  pub unmet : Unmet formula
  pub fails : IsFailed formula failed
  pub clash : IsTrue (clashes formula.constraints) → AreBothOfClash formula.constraints failed
  pub log : IsEndedWithin tidies formula budget failed told

-- the values meet the formula, and the log is open with fewer marks than the budget
pub record SatisfiesIn (tidies : Bool) (formula : Problem) (budget : ℕ) (told : Option (List LogEvent)) (values : List Bool) : Type 0 where
  pub meets : Meets formula values
  pub log : IsOpenWithin tidies formula budget told

-- the budget of counted conflicts is used up, and the log is open with as many marks
pub record UsesUpIn (tidies : Bool) (formula : Problem) (budget : ℕ) (told : Option (List LogEvent)) (conflicts : ℕ) : Type 0 where
  pub count : conflicts ≡ budget
  pub log : IsOpenWith tidies formula budget told

-- what an answer says of the formula and of the log
abbrev pub IsRightOutcomeIn : Bool → Problem → ℕ → Option (List LogEvent) → SearchOutcome → Type 0
IsRightOutcomeIn tidies formula budget told (Sat values) = SatisfiesIn tidies formula budget told values
IsRightOutcomeIn tidies formula budget told (Unsat failed) = RefutesIn tidies formula budget told failed
IsRightOutcomeIn tidies formula budget told (Unknown conflicts) = UsesUpIn tidies formula budget told conflicts

-- an answer that is not unknown, with fewer marks than this
abbrev pub IsSettledBy : Bool → Problem → ℕ → Option (List LogEvent) → SearchOutcome → Type 0
IsSettledBy tidies formula budget told outcome = IsRightOutcomeIn tidies formula budget told outcome × ((conflicts : ℕ) → outcome ≢ Unknown conflicts)

-- ---- a search that never tidies
abbrev pub Refutes : Problem → ℕ → Option (List LogEvent) → List Literal → Type 0
Refutes formula budget told failed = RefutesIn false formula budget told failed

abbrev pub Satisfies : Problem → ℕ → Option (List LogEvent) → List Bool → Type 0
Satisfies formula budget told values = SatisfiesIn false formula budget told values

abbrev pub UsesUp : Problem → ℕ → Option (List LogEvent) → ℕ → Type 0
UsesUp formula budget told conflicts = UsesUpIn false formula budget told conflicts

abbrev pub IsRightOutcome : Problem → ℕ → Option (List LogEvent) → SearchOutcome → Type 0
IsRightOutcome formula budget told outcome = IsRightOutcomeIn false formula budget told outcome

-- An answer is right, and where propagation alone settles the formula it is never unknown. The log goes on; where the search tidies, its lines are in time.
pub record AnswersTo {L : Type 0} (m : sink.Ghosts L LogEvent) (tidies : Bool) (budget : ℕ) (old : SearchLog L) (result : Result SearchOutcome CoreFault) (new : SearchLog L) : Type 0 where
  pub answers : IfOk result (λ a. IsRightOutcomeIn tidies new.formula.now budget (told_in m new) a)
  pub settled : SettledWithRecovered new.formula.now → IfOk result (λ a. IsSettledBy tidies new.formula.now 1 (told_in m new) a)
  pub tidied : tidies ≡ true → OnOk result (AreInTime (m.lines new.sink.now))
  pub log : GoesOnIn tidies m old (fault_in result) new
