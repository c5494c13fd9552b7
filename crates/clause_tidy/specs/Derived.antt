-- Clauses that follow by right chains.
use Rattle.std.specs.Prelude.{List, Contains}
use Rattle.cx_base.specs.Literals.{Literal}
use Rattle.cx_semantics.specs.Chain.{IsChain}

-- The least set that has the given clauses, and each clause with a right chain of clauses that are in it.
pub data IsDerived (IsGiven : List Literal → Type 0) : List Literal → Type 0 where
  given : (clause : List Literal) → IsGiven clause → IsDerived IsGiven clause
  chained : (clause : List Literal) (hints : List (List Literal)) → ((hint : List Literal) → Contains hints hint → IsDerived IsGiven hint) → IsChain clause hints → IsDerived IsGiven clause
