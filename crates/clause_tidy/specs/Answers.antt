-- What calls of a tidying leave: the arena, and the log up to an answer.
use Rattle.std.specs.Prelude.{◌≡◌, ◌≢◌, ◌⊎◌, ◌*◌, ◌≤◌, ℕ, false, List, length, Option, Some, None, Result, OnErr, IfOk, IsTrue, IsFalse}
use Rattle.std.specs.List.{AllByRecursion}
use Rattle.cx_base.specs.Assumptions.{is_ending}
use Rattle.cx_base.specs.Literals.{Literal}
use Rattle.cx_base.specs.Problem.{Problem}
use Rattle.cx_base.specs.declared.steps.LogEvent.{LogEvent}
use Rattle.cx_base.specs.declared.steps.LogEvent.TheVariants.{Step}
use Rattle.cx_base.specs.declared.steps.LogStep.{LogStep}
use Rattle.cx_semantics.specs.Chain.{is_inside}
use Rattle.cx_semantics.specs.Fresh.{is_tautology}
use Rattle.cx_semantics.specs.Ids.{id_of}
use Rattle.cx_semantics.specs.Judging.{IsRight}
use Rattle.cx_semantics.specs.LogRules.{log_calculus}
use Rattle.cx_semantics.specs.Tables.{Tables}
use Rattle.clause_arena.specs.Clauses.{ArenaState, IsLive, literals_at, id_at, learned_at}
use Rattle.step_text.specs.declared.sink.Sink as sink
use Rattle.step_text.specs.declared.sink.SinkFault.{SinkFault}
use Rattle.step_text.specs.Sinks.{SinkFaultsAs, HasFailedAs, OnFailed}
use Rattle.clause_tidy.specs.declared.pairs.Pair.{Pair}
use Rattle.clause_tidy.specs.Agreeing.{Agrees, AreProper, IsStepId}
use Rattle.tidy_rules.specs.Runs.{RunsTidily, EndsTidily}
use Rattle.clause_tidy.specs.Telling.{IsTellable, as_events, with_events}
use Rattle.clause_tidy.specs.Derived.{IsDerived}
use Rattle.clause_tidy.specs.Tidying.{IsClauseOf, Tidies}
use Rattle.clause_tidy.specs.Weights.{weight}

-- what each call of a tidying may count on
pub record MayTidy {L : Type 0} (m : sink.Ghosts L LogEvent) (formula : Problem) (spare : ℕ) (a : ArenaState) (log : L) : Type 0 where
  pub proper : AreProper formula a
  pub spare_id : IsStepId spare
  pub going : m.has_failed log ≡ false

-- The part is another live clause, which lies inside the whole.
pub record Subsumes (a : ArenaState) (pair : Pair) : Type 0 where
  pub part : IsLive a pair.part
  pub whole : IsLive a pair.whole
  pub differ : pair.part ≢ pair.whole
  pub inside : IsTrue (is_inside (literals_at a pair.part) (literals_at a pair.whole))

-- why a clause may go: it is a tautology, or another lies inside it that was not learned where it was not
abbrev pub MayGo : ArenaState → ℕ → Type 0
MayGo a r = IsTrue (is_tautology (literals_at a r)) ⊎ ((q : ℕ) × (q ≢ r) × IsLive a q × IsTrue (is_inside (literals_at a q) (literals_at a r)) × (learned_at a r ≡ false → learned_at a q ≡ false))

-- Where a log agrees with the arena, these steps are right, and none ends it.
abbrev pub IsRightFrom : Problem → ℕ → ArenaState → List LogStep → Type 0
IsRightFrom formula spare a steps = (tables : Tables) → Agrees spare tables.clauses a → (last : Tables) × RunsTidily formula tables steps last

-- There are at most four steps for each clause and literal. Where a log agrees with the arena, they end it, by a clause of these literals.
abbrev pub EndsFrom : Problem → ℕ → ArenaState → List Literal → List LogStep → Type 0
EndsFrom formula spare a lits steps = (length steps ≤ 4 * weight a) × ((tables : Tables) → Agrees spare tables.clauses a → EndsTidily formula tables lits steps)

-- A clause of these literals is an ending one and was derived from the arena's clauses. The last of the steps adds it.
pub record IsEnded (formula : Problem) (spare : ℕ) (a : ArenaState) (lits : List Literal) (steps : List LogStep) : Type 0 where
  pub ending : IsTrue (is_ending formula.constraints lits)
  pub derived : IsDerived (IsClauseOf a) lits
  pub ends : EndsFrom formula spare a lits steps

-- they are right, and then this one is
abbrev pub MayFollow : Problem → ℕ → ArenaState → List LogStep → LogStep → Type 0
MayFollow formula spare a steps step = (tables : Tables) → Agrees spare tables.clauses a → (last : Tables) × RunsTidily formula tables steps last × IsRight (log_calculus formula) last step

-- the id of the step is the spare one, or that of a clause of the arena
abbrev pub HasOwnId : ℕ → ArenaState → LogStep → Type 0
HasOwnId spare a step = (id_of step ≡ spare) ⊎ ((r : ℕ) × IsLive a r × (id_at a r ≡ id_of step))

-- the sink was told such steps, each of such an id, after what it was told before
abbrev pub IsTold : {L : Type 0} → sink.Ghosts L LogEvent → ℕ → ArenaState → L → (List LogStep → Type 0) → L → Type 0
IsTold m spare a old Such new = (steps : List LogStep) × (m.items new ≡ with_events (as_events steps) (m.items old)) × AllByRecursion (HasOwnId spare a) steps × Such steps

-- a step of such an id is torn that is right after these, and a text can have it
abbrev pub IsTornAfter : {L : Type 0} → sink.Ghosts L LogEvent → Problem → ℕ → ArenaState → L → List LogStep → Type 0
IsTornAfter m formula spare a new steps = (step : LogStep) × m.torn new (Step step) × IsTellable step × HasOwnId spare a step × MayFollow formula spare a steps step

-- Some steps are told, each of the spare id or of that of a clause of the arena. Up to an answer they are what it says; up to a fault they are right, and after one of writing a step that is right after them is torn.
pub record TidiesOn {L T : Type 0} (m : sink.Ghosts L LogEvent) (formula : Problem) (spare : ℕ) (a : ArenaState) (old : L) (result : Result T SinkFault) (Done : T → List LogStep → Type 0) (new : L) : Type 0 where
  pub steps : List LogStep
  pub told : m.items new ≡ with_events (as_events steps) (m.items old)
  pub own : AllByRecursion (HasOwnId spare a) steps
  pub done : IfOk result (λ t. Done t steps)
  pub left : OnErr result (IsRightFrom formula spare a steps)
  pub torn : OnFailed result (IsTornAfter m formula spare a new steps)
  pub faults : SinkFaultsAs result (m.faults old) (m.faults new)
  pub failed : HasFailedAs result (m.has_failed old) (m.has_failed new)
  pub frame : m.keeps old new

-- the log has ended, by a clause of these literals, or the arena was tidied
abbrev pub MendsTo : Problem → ℕ → ArenaState → ArenaState → Option (List Literal) → List LogStep → Type 0
MendsTo formula spare a b (Some lits) steps = IsEnded formula spare a lits steps
MendsTo formula spare a b None steps = Tidies formula spare a b steps

-- no clause has a literal and its negation
abbrev pub HasNoTautology : ArenaState → Type 0
HasNoTautology a = (r : ℕ) → IsLive a r → IsFalse (is_tautology (literals_at a r))
