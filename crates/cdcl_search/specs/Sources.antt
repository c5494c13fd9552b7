-- The clauses that a source holds.
use Rattle.std.specs.Prelude.{◌≡◌, ◌⊎◌, ℕ, ◌+◌, ◌<◌, ◌-◌, ◌^◌, min, List, [], ◌∷◌, length, get_or, IsFalse}
use Rattle.cx_base.specs.Assumptions.{assumes}
use Rattle.cx_base.specs.Literals.{Literal, negate}
use Rattle.cx_base.specs.declared.constraint.Constraint.{Constraint}
use Rattle.cx_trail.specs.Sequence.{TrailState, entry_at}
use Rattle.cx_trail.specs.declared.entry.Reason.{Reason}
use Rattle.cx_trail.specs.declared.entry.Reason.TheVariants.{Row}
use Rattle.conflict_learn.specs.Final.{StandsBelow}
use Rattle.conflict_learn.specs.Learning.{HasReason, IsAntecedent}
use Rattle.std.specs.List.{All}
use Rattle.clause_arena.specs.Clauses.{IsLive, literals_at, id_at}
use Rattle.cdcl_search.specs.declared.state.SearchState.{SearchState}
use Rattle.cdcl_search.specs.declared.source.Hinted.{Hinted}
use Rattle.cdcl_search.specs.Tells.{IsId}
use Rattle.cdcl_search.specs.Ties.{first_row_id}

-- a clause of the arena, a unit clause of level 0, or a clause of a row that was told; and its id in the log
abbrev pub IsSourcedBy : SearchState → List (List Literal) → List Literal → ℕ → Type 0
IsSourcedBy c rows clause n = ((r : ℕ) × IsLive c.arena r × (clause ≡ literals_at c.arena r) × (n ≡ id_at c.arena r))
    ⊎ ((i : ℕ) × (i < length c.units.items) × (clause ≡ (entry_at c.trail.entries i).literal ∷ []) × (n ≡ get_or c.units.items i 0))
    ⊎ ((i : ℕ) × (i < length rows) × (clause ≡ get_or rows i []) × (n ≡ first_row_id c.next + i))

-- each id that the search holds is one that a step may have
pub record HasIds (c : SearchState) : Type 0 where
  pub next : IsId c.next
  pub units : All IsId c.units.items
  pub stored : (r : ℕ) → IsLive c.arena r → IsId (id_at c.arena r)

-- these literals, under this id, which a step may have
pub record IsHinted (clause : List Literal) (n : ℕ) (h : Hinted) : Type 0 where
  pub lits : h.lits ≡ clause
  pub is : h.id ≡ n
  pub id : IsId h.id

-- the clause of the next row that is told: it implied the literal
pub record IsNextRow (c : SearchState) (rows : List (List Literal)) (l : Literal) (h : Hinted) : Type 0 where
  pub implied : IsAntecedent c.trail l h.lits
  pub next : h.id ≡ first_row_id c.next + length rows
  pub id : IsId h.id

-- a clause that a source holds and that implied the literal, under an id that a step may have
pub record IsHeldFor (c : SearchState) (rows : List (List Literal)) (l : Literal) (h : Hinted) : Type 0 where
  pub sourced : IsSourcedBy c rows h.lits h.id
  pub implied : IsAntecedent c.trail l h.lits
  pub id : IsId h.id

-- where a row implied the literal, it contradicts no assumed one
abbrev pub IsApartByRow : List Constraint → Reason → Literal → Type 0
IsApartByRow constraints reason l = (row : ℕ) → reason ≡ Row row → IsFalse (assumes constraints (negate l))

-- no literal of the trail before the place that a row implied contradicts an assumed one
abbrev pub RowsAreApart : List Constraint → TrailState → ℕ → Type 0
RowsAreApart constraints t n = (l : Literal) (reason : Reason) → StandsBelow t n l → HasReason t l reason → IsApartByRow constraints reason l

-- a count of 64 bits stays at its last value
abbrev pub counted : ℕ → ℕ
counted faults = min faults (2 ^ 64 - 1)
