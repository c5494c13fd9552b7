-- The hints at the start of a list, as a chain.
use Rattle.std.specs.Prelude.{◌≡◌, ◌≤◌, ℕ, ℤ, nat_abs, false, List, ◌∷◌, ◌++◌, length, take, Option, Some, None}
use Rattle.std.specs.List.{list_any}
use Rattle.cx_base.specs.Integers.{is_negative, sizes}
use Rattle.cx_base.specs.Literals.{Literal}
use Rattle.cx_semantics.specs.Chain.{negations, left, none, one, more, count_left, HaveSame, chain, IsChain}
use Rattle.cx_semantics.specs.Tables.{Table, get, named}
use Rattle.cx_semantics.specs.LogRules.{AreLive}
use Rattle.rup_finder.specs.declared.front.Taken.{Taken}
use Rattle.rup_finder.specs.declared.front.Taken.TheVariants.{Goes, Ends, Stops}

-- The ids are live, and a chain of their clauses comes to these assumed literals.
pub record HasReached (table : Table) (target : List Literal) (ids : List ℕ) (assumed : List Literal) : Type 0 where
  pub live : AreLive table ids
  pub chains : (behind : List (List Literal)) → chain (negations target) (named table ids ++ behind) ≡ chain assumed behind

-- these ids are live, and their clauses are a right chain
abbrev pub IsLiveChain : Table → List Literal → List ℕ → Type 0
IsLiveChain table target ids = AreLive table ids × IsChain target (named table ids)

abbrev pub NoneNegative : List ℤ → Type 0
NoneNegative hints = list_any is_negative hints ≡ false

-- of the hints the first so many, none of them negative, are live and a right chain
pub record IsFrontChain (table : Table) (target : List Literal) (hints : List ℤ) (count : ℕ) : Type 0 where
  pub within : count ≤ length hints
  pub plain : NoneNegative (take count hints)
  pub live : AreLive table (sizes (take count hints))
  pub chain : IsChain target (named table (sizes (take count hints)))

-- the least number of first hints that are a right chain; none where no number of them is one
abbrev pub IsChainLength : Table → List Literal → List ℤ → Option ℕ → Type 0
IsChainLength table target hints (Some count) = IsFrontChain table target hints count × ((k : ℕ) → IsFrontChain table target hints k → count ≤ k)
IsChainLength table target hints None = (k : ℕ) → ¬ IsFrontChain table target hints k

-- the hint is not negative, and names this clause
abbrev pub NamesClause : Table → ℤ → List Literal → Type 0
NamesClause table hint clause = (is_negative hint ≡ false) × (get table (nat_abs hint) ≡ Some clause)

-- What one more hint does: its clause leaves one literal, which is assumed then; or it leaves nothing; or, where it names a clause, this leaves more.
abbrev pub Takes : Table → ℤ → List Literal → List Literal → Taken → Type 0
Takes table hint old new Goes = (clause : List Literal) × (l : Literal) × NamesClause table hint clause × (one l ≡ count_left (left old clause)) × HaveSame new (l ∷ old)
Takes table hint old new Ends = (clause : List Literal) × NamesClause table hint clause × (none ≡ count_left (left old clause))
Takes table hint old new Stops = (clause : List Literal) → NamesClause table hint clause → more ≡ count_left (left old clause)
