-- How assumptions fail.
use Rattle.std.specs.Prelude.{◌≡◌, ◌≢◌, ℕ, ◌<◌, ◌≤◌, List, length, Option, None, IfSome, IsTrue, IsFalse}
use Rattle.cx_base.specs.Assumptions.{assumes}
use Rattle.cx_base.specs.Literals.{Literal, negate}
use Rattle.cx_base.specs.declared.constraint.Constraint.{Constraint}
use Rattle.cx_semantics.specs.Chain.{has_literal}
use Rattle.cx_trail.specs.Sequence.{TrailState, entry_at, IsFalseBefore, IsTrueIn, StandsAt}
use Rattle.conflict_learn.specs.declared.final_analysis.Final.{Final}
use Rattle.conflict_learn.specs.Final.{IsFinal, StandsBelow}
use Rattle.conflict_learn.specs.Learning.{skips, literals_of}
use Rattle.search_policy.specs.Assuming.{IsDecision}
use Rattle.cdcl_search.specs.declared.propagation.Found.{Found}
use Rattle.cdcl_search.specs.declared.propagation.Found.TheVariants.{Quiet}
use Rattle.cdcl_search.specs.declared.state.SearchState.{SearchState}
use Rattle.cdcl_search.specs.Sources.{IsSourcedBy, RowsAreApart}

-- no literal of the current level is assumed
abbrev pub IsFree : List Constraint → TrailState → Type 0
IsFree constraints t = (p : ℕ) → p < length t.entries → (entry_at t.entries p).level ≡ t.level → IsFalse (assumes constraints (entry_at t.entries p).literal)

-- each decision below the place is of an assumed literal
abbrev pub RestsOnAssumptions : List Constraint → TrailState → ℕ → Type 0
RestsOnAssumptions constraints t below = (p : ℕ) → p < below → IsDecision t p → IsTrue (assumes constraints (entry_at t.entries p).literal)

-- The clause is held under this id, and its literals are false below the place but the kept one, which is true and contradicts an assumed one. No literal below the place that a row implied does, and decisions there are assumed.
pub record IsFailure (constraints : List Constraint) (c : SearchState) (clause : List Literal) (n : ℕ) (kept : Option Literal) (below : ℕ) (rows : List (List Literal)) : Type 0 where
  pub sourced : IsSourcedBy c rows clause n
  pub all_false : (m : Literal) → IsTrue (has_literal clause m) → IsFalse (skips kept m) → IsFalseBefore c.trail.entries below m
  pub contradicts : IfSome kept (λ l. IsTrueIn c.trail.entries l × IsTrue (assumes constraints (negate l)))
  pub within : below ≤ length c.trail.entries
  pub apart : RowsAreApart constraints c.trail below
  pub rests : RestsOnAssumptions constraints c.trail below

-- What is left of the clause: it follows from that and the clauses that the search holds, by resolved literals on the trail.
pub record IsLeftOf (constraints : List Constraint) (c : SearchState) (clause : List Literal) (n : ℕ) (kept : Option Literal) (below : ℕ) (rows : List (List Literal)) (left : Final) : Type 0 where
  pub fails : IsFailure constraints c clause n kept below rows
  pub final : IsFinal c.trail below kept clause (IsSourcedBy c rows) left.resolved.items left.lits
  pub stand : (l : Literal) → IsTrue (has_literal (literals_of left.resolved.items) l) → StandsBelow c.trail below l

-- propagation found a conflict at level 0
pub record IsRefuted (t : TrailState) (found : Found) : Type 0 where
  pub conflict : found ≢ Quiet
  pub level : t.level ≡ 0

-- the place that an end begins at: no literal below it that a row implied contradicts an assumed one, and decisions there are assumed; the kept literal is there, and its negation is assumed
pub record EndsAtPlace (constraints : List Constraint) (t : TrailState) (kept : Option Literal) (below : ℕ) : Type 0 where
  pub within : below ≤ length t.entries
  pub apart : RowsAreApart constraints t below
  pub rests : RestsOnAssumptions constraints t below
  pub all : kept ≡ None → below ≡ length t.entries
  pub stands : IfSome kept (λ l. StandsAt t.entries l below × IsTrue (assumes constraints (negate l)))
