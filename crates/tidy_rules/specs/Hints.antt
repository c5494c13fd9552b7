-- Hints of an added clause that are right.
use Rattle.std.specs.Prelude.{◌≡◌, ℕ, ℤ, pos, List, map, Some, IsTrue}
use Rattle.cx_base.specs.Literals.{Literal}
use Rattle.cx_semantics.specs.Chain.{IsChain, same_literals}
use Rattle.cx_semantics.specs.LogRules.{AreLive}
use Rattle.cx_semantics.specs.Tables.{Table, get, named}

-- the literals are those of the live clause with this id
pub record IsNamedBy (table : Table) (lits : List Literal) (n : ℕ) : Type 0 where
  pub clause : List Literal
  pub live : get table n ≡ Some clause
  pub same : IsTrue (same_literals lits clause)

-- the hints are ids of live clauses, and these are a right chain for the clause
pub record AreHintsFor (table : Table) (target : List Literal) (hints : List ℤ) : Type 0 where
  pub ids : List ℕ
  pub are : hints ≡ map pos ids
  pub live : AreLive table ids
  pub chain : IsChain target (named table ids)
