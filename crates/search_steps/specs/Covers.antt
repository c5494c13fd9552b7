-- Which live clauses stand for those of the formula, and that no learned one is a tautology.
use Rattle.std.specs.Prelude.{◌≡◌, ◌≢◌, ◌⊎◌, ℕ, List, ◌++◌, Some, None, IsTrue, IsFalse}
use Rattle.std.specs.List.{AllByRecursion}
use Rattle.cx_base.specs.Literals.{Literal}
use Rattle.cx_base.specs.Problem.{Problem}
use Rattle.cx_semantics.specs.Chain.{is_inside}
use Rattle.cx_semantics.specs.Fresh.{is_tautology}
use Rattle.cx_semantics.specs.Marked.{Moment, is_among}
use Rattle.cx_semantics.specs.Settled.{IsClauseOf}
use Rattle.cx_semantics.specs.Tables.{Table, get}

-- the ids of the clauses of rows that were told since the mark before the last one
abbrev pub rows_in : Moment → List ℕ
rows_in m = m.new_clauses ++ m.old_clauses

-- the live clause of this id lies inside the other one, and is no clause of a row
pub record IsCover (table : Table) (rows : List ℕ) (clause : List Literal) (n : ℕ) : Type 0 where
  pub inner : List Literal
  pub live : get table n ≡ Some inner
  pub inside : IsTrue (is_inside inner clause)
  pub no_row : IsFalse (is_among rows n)

-- the clause is a tautology, or one that stays lies inside it
abbrev pub HasCover : Table → List ℕ → List Literal → Type 0
HasCover table rows clause = IsTrue (is_tautology clause) ⊎ ((n : ℕ) × IsCover table rows clause n)

-- so it is with each clause of the formula
abbrev pub AreCovered : Problem → Table → List ℕ → Type 0
AreCovered formula table rows = (clause : List Literal) → IsClauseOf formula clause → HasCover table rows clause

-- and without the clause of this id
abbrev pub IsSpared : Problem → Moment → ℕ → Type 0
IsSpared formula m n =
    (clause : List Literal) → IsClauseOf formula clause → IsTrue (is_tautology clause) ⊎ ((k : ℕ) × (k ≢ n) × IsCover m.tables.clauses (rows_in m) clause k)

-- no clause of this id covers another: it is that of a row, or there is none
abbrev pub CoversNone : Moment → ℕ → Type 0
CoversNone m n = IsTrue (is_among (rows_in m) n) ⊎ (get m.tables.clauses n ≡ None)

-- each of these ids is that of a live clause, which is no tautology
abbrev pub ArePlain : Table → List ℕ → Type 0
ArePlain table ids = AllByRecursion (λ n. (clause : List Literal) × (get table n ≡ Some clause) × IsFalse (is_tautology clause)) ids
