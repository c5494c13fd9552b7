-- What unit propagation over the live clauses gives.
use Rattle.std.specs.Prelude.{◌≡◌, ℕ, ◌<◌, List, length, get_or, Option, Some, None, IsTrue}
use Rattle.std.specs.List.{list_any}
use Rattle.std.specs.Ordering.{nat_cmp, eq_by_cmp}
use Rattle.cx_base.specs.Literals.{Literal}
use Rattle.cx_semantics.specs.Chain.{is_inside, left, Left, none, one, more, count_left}
use Rattle.cx_semantics.specs.Fresh.{IsLive, KeepsUnits, FalsifiesNone}
use Rattle.cx_semantics.specs.Tables.{Table, get}
use Rattle.plain_tests.specs.declared.fresh.Ready.{Ready}

abbrev pub HasId : List ℕ → ℕ → Type 0
HasId ids n = IsTrue (list_any (eq_by_cmp nat_cmp n) ids)

-- two literals of each of these clauses are left
abbrev pub AllWait : Table → List Literal → List ℕ → Type 0
AllWait table known ids = (n : ℕ) (clause : List Literal) → HasId ids n → get table n ≡ Some clause → count_left (left known clause) ≡ more

abbrev pub as_left : Option Literal → Left
as_left None = none
as_left (Some l) = one l

-- of the clause at the place this is left
pub record IsReady (table : Table) (known : List Literal) (ids : List ℕ) (ready : Ready) : Type 0 where
  pub within : ready.place < length ids
  pub clause : List Literal
  pub live : get table (get_or ids ready.place 0) ≡ Some clause
  pub is_left : count_left (left known clause) ≡ as_left ready.left

-- closed under unit propagation, and no live clause is falsified
pub record IsClosed (table : Table) (lits : List Literal) : Type 0 where
  pub units : KeepsUnits (IsLive table) lits
  pub no_conflict : FalsifiesNone (IsLive table) lits

-- no closed set has the given literals
abbrev pub Clash : Table → List Literal → Type 0
Clash table given = (u : List Literal) → IsClosed table u → IsTrue (is_inside given u) → ⊥

-- each closed set that has the given literals has these
abbrev pub Follow : Table → List Literal → List Literal → Type 0
Follow table given lits = (u : List Literal) → IsClosed table u → IsTrue (is_inside given u) → IsTrue (is_inside lits u)

-- the least closed set that has the given literals
pub record IsSaturation (table : Table) (given lits : List Literal) : Type 0 where
  pub closed : IsClosed table lits
  pub has_given : IsTrue (is_inside given lits)
  pub least : Follow table given lits
