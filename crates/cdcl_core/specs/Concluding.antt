-- What a conflict comes to.
use Rattle.std.specs.Prelude.{◌≡◌, ℕ, ◌+◌, ◌<◌, ◌≤◌, ℤ, Bool, false, List, [], ◌∷◌, length, Option, Some, None, Result, OnOk, IfOk, IsFalse, IsTrue, ◌≢◌}
use Rattle.std.specs.List.{AllByRecursion}
use Rattle.cx_base.specs.Assumptions.{clashes, IsFailed}
use Rattle.cx_base.specs.Problem.{Problem, Unmet}
use Rattle.cx_base.specs.Literals.{Literal}
use Rattle.cx_base.specs.declared.steps.LogEvent.{LogEvent}
use Rattle.cx_base.specs.declared.steps.LogStep.{LogStep}
use Rattle.cx_semantics.specs.Marked.{Marked}
use Rattle.cx_semantics.specs.Tables.{get}
use Rattle.cx_semantics.specs.Chain.{has_literal}
use Rattle.conflict_learn.specs.declared.fault.CoreFault.{CoreFault}
use Rattle.conflict_learn.specs.Faults.{fault_in}
use Rattle.parity_engine.specs.State.{State}
use Rattle.parity_engine.specs.declared.state.Mood.TheVariants.{Broken}
use Rattle.search_steps.specs.Holding.{AreTold}
use Rattle.search_steps.specs.Hints.{AreHintsFor, AreHinted}
use Rattle.search_steps.specs.Schedule.{IsScheduledIn}
use Rattle.search_steps.specs.Search.{Search, IsSearchIn}
use Rattle.search_steps.specs.Size.{additions, most_additions}
use Rattle.cx_trail.specs.Sequence.{IsFalseIn}
use Rattle.step_text.specs.declared.sink.Sink as sink
use Rattle.parity_engine.specs.declared.engine.ParityEngine as engine
use Rattle.cdcl_search.specs.declared.propagation.Found.{Found}
use Rattle.cdcl_search.specs.declared.propagation.Found.TheVariants as found
use Rattle.cdcl_search.specs.declared.state.SearchState.{SearchState}
use Rattle.cdcl_search.specs.declared.logs.SearchLog.{SearchLog}
use Rattle.cdcl_search.specs.Logs.{GoesOn, Stands, told_in}
use Rattle.cdcl_search.specs.Tells.{IsId, as_events, with_events, IsTellable}
use Rattle.cdcl_search.specs.Ties.{SearchStands, first_row_id}
use Rattle.cdcl_search.specs.Sources.{IsSourcedBy}
use Rattle.cdcl_search.specs.Explaining.{IsReasonOf}
use Rattle.cdcl_search.specs.Finds.{IsClash}
use Rattle.cdcl_search.specs.Units.{AreUnitsAnd}
use Rattle.conflict_learn.specs.Learning.{IsAntecedent}
use Rattle.cdcl_core.specs.Results.{RefutesIn, EndsFor, IsBoundedIn}
use Rattle.cdcl_core.specs.Shortening.{AreShort, EndsByUnits}
use Rattle.xor_reason.specs.declared.reason.ReasonOf.{ReasonOf}
use Rattle.cdcl_core.specs.declared.conflicts.LogEnd.{LogEnd}
use Rattle.cdcl_core.specs.declared.conflicts.Conclusion.{Conclusion}
use Rattle.cdcl_core.specs.declared.conflicts.Conflict.{Conflict}
use Rattle.cdcl_core.specs.declared.conflicts.Conclusion.TheVariants.{Clause, Ending}

-- the clause of a conflict: it is held under this id, and each of its literals is false
pub record IsConflictClause (c : SearchState) (rows : List (List Literal)) (clause : List Literal) (n : ℕ) : Type 0 where
  pub sourced : IsSourcedBy c rows clause n
  pub all_false : (m : Literal) → IsTrue (has_literal clause m) → IsFalseIn c.trail.entries m

-- the search is above level 0 at a conflict with this clause, which has this id; of rows these clauses were told since the last mark
pub record IsAtConflict {P L : Type 0} (p : engine.Ghosts P) (m : sink.Ghosts L LogEvent) (log : SearchLog L) (c : SearchState) (e : P) (rows : List (List Literal)) (clause : List Literal) (n : ℕ) : Type 0 where
  pub stands : Stands p m log c e rows
  pub conflict : IsConflictClause c rows clause n
  pub above : 0 < c.trail.level

-- the log is ended with these failed assumptions, and marked this often, learned clauses are deleted on schedule, the hints are right, and it adds few clauses and parities for its marks
abbrev pub IsEndedWith : Bool → Problem → ℕ → List Literal → Option (List LogEvent) → Type 0
IsEndedWith tidies formula marks failed None = Unit {0}
IsEndedWith tidies formula marks failed (Some events) = EndsFor formula events failed × Marked formula events marks × IsScheduledIn tidies events × AreHinted events × IsBoundedIn tidies formula marks events

-- telling these steps ends the log, with these failed assumptions; so no values meet the formula
pub record EndsLog (formula : Problem) (c : SearchState) (told : Option (List LogEvent)) (failed : List Literal) (steps : List LogStep) : Type 0 where
  pub texts : AllByRecursion IsTellable steps
  pub unmet : Unmet formula
  pub fails : IsFailed formula failed
  pub apart : IsFalse (clashes formula.constraints)
  pub log : IsEndedWith c.tidies formula c.conflicts failed (with_events (as_events steps) told)

-- Whatever steps tell by these hints, after this many clauses of rows, that none of the literals of a row's clause is left: they end the log, and no assumed literal fails.
pub record EndsByHints (formula : Problem) (c : SearchState) (told : Option (List LogEvent)) (rows : ℕ) (reason : ReasonOf) (hints : List ℤ) : Type 0 where
  pub ends : (n : LogEnd) → EndsByUnits c (length formula.constraints) rows reason hints n → EndsLog formula c told n.failed n.steps.items
  pub none : (n : LogEnd) → EndsByUnits c (length formula.constraints) rows reason hints n → n.failed ≡ []

-- the clause of a conflict has an id that a step may have, and at most one clause of a row was told for it
abbrev pub IsTold : Conflict → Type 0
IsTold k = IsId k.id × (length k.rows ≤ 1)

-- the clause of a row is the conflict's, and the only one that was told for it
pub record IsToldRow (c : SearchState) (clause : List Literal) (k : Conflict) : Type 0 where
  pub lits : k.lits ≡ clause
  pub id : k.id ≡ first_row_id c.next
  pub rows : k.rows ≡ clause ∷ []
  pub told : IsTold k

-- Up to an answer the end is told: no values meet the formula, and the log shows it, marked no more often than before. The answer is the assumptions that fail. The log goes on.
pub record TellsEnd {L : Type 0} (m : sink.Ghosts L LogEvent) (old : SearchLog L) (c : SearchState) (new : SearchLog L) (result : Result (List Literal) CoreFault) : Type 0 where
  pub refutes : IfOk result (λ failed. RefutesIn c.tidies new.formula.now (c.conflicts + 1) (told_in m new) failed)
  pub log : GoesOn m old (fault_in result) new

-- so it is with the empty clause, where none fails
pub record TellsEmpty {L T : Type 0} (m : sink.Ghosts L LogEvent) (old : SearchLog L) (c : SearchState) (new : SearchLog L) (result : Result T CoreFault) : Type 0 where
  pub refutes : OnOk result (RefutesIn c.tidies new.formula.now (c.conflicts + 1) (told_in m new) [])
  pub log : GoesOn m old (fault_in result) new

-- the row is not met; or it implied the literal that contradicts an assumed one
abbrev pub IsRowAgainst : SearchState → State → ℕ → Option Literal → Type 0
IsRowAgainst c e row None = IsClash e row
IsRowAgainst c e row (Some l) = IsReasonOf e c.trail.entries l row

-- the clause of a conflict; or the one that implied the literal that contradicts an assumed one
abbrev pub IsClauseAgainst : SearchState → List (List Literal) → Option Literal → List Literal → ℕ → Type 0
IsClauseAgainst c rows None clause n = IsConflictClause c rows clause n
IsClauseAgainst c rows (Some l) clause n = IsSourcedBy c rows clause n × IsAntecedent c.trail l clause

-- such a clause, or steps that end the log, where what fails has no unit clause of level 0
abbrev pub Concludes : Problem → SearchState → State → Option (List LogEvent) → Option Literal → Conclusion → Type 0
Concludes formula c e told kept (Clause k) = SearchStands formula c e k.rows told × IsClauseAgainst c k.rows kept k.lits k.id × IsTold k
Concludes formula c e told kept (Ending n) = SearchStands formula c e [] told × EndsLog formula c told n.failed n.steps.items × AreShort c kept n.failed

-- it is a clause, and not steps that end the log
abbrev pub IsByClause : Conclusion → Type 0
IsByClause (Clause k) = Unit {0}
IsByClause (Ending n) = ⊥

-- a clause is in conflict, and not a row
abbrev pub IsOfClause : Found → Type 0
IsOfClause found.Quiet = ⊥
IsOfClause (found.Clause r) = Unit {0}
IsOfClause (found.Row row) = ⊥

-- Up to an answer the search is at what the conflict comes to, or at the literal that contradicts an assumed one; the log goes on.
pub record ConcludesOn {P L : Type 0} (p : engine.Ghosts P) (m : sink.Ghosts L LogEvent) (old new : SearchLog L) (c : SearchState) (e : P) (kept : Option Literal) (result : Result Conclusion CoreFault) : Type 0 where
  pub concludes : IfOk result (λ k. Concludes new.formula.now c (p.state e) (told_in m new) kept k)
  pub log : GoesOn m old (fault_in result) new

-- The hints are right for the empty clause, and that may have the next id. There is room for it in the log of a search that does not tidy.
pub record IsContradicted (formula : Problem) (c : SearchState) (hints : List ℤ) (s : Search) : Type 0 where
  pub parities : List (List Literal)
  pub search : IsSearchIn c.tidies formula parities s
  pub hinted : AreHintsFor s.moment.tables.clauses [] hints
  pub free : get s.moment.tables.clauses c.next ≡ None
  pub served : IsFalse s.moment.awaits
  pub conflicts : s.conflicts ≡ c.conflicts
  pub few_additions : c.tidies ≡ false → additions s.events < most_additions formula c.conflicts

-- so they are after what was told
abbrev pub IsRefutedBy : Problem → SearchState → List ℤ → Option (List LogEvent) → Type 0
IsRefutedBy formula c hints told = IsId c.next × ((s : Search) × AreTold told s.events × IsContradicted formula c hints s)

-- so are the ids of the unit clauses that make these literals false, and then that of a clause, which has them
abbrev pub IsRefutable : Problem → SearchState → List Literal → ℕ → Option (List LogEvent) → Type 0
IsRefutable formula c lits n told = (hints : List ℤ) → AreUnitsAnd c lits n hints → IsRefutedBy formula c hints told

-- the search is before a propagation, with fewer counted conflicts than the budget
pub record SearchGoesOn (formula : Problem) (budget : ℕ) (told : Option (List LogEvent)) (c : SearchState) (e : State) : Type 0 where
  pub stands : SearchStands formula c e [] told
  pub unbroken : e.mood ≢ Broken
  pub fewer : c.conflicts < budget
