-- The live constraints of a log beside those of its proof.
use Rattle.std.specs.Prelude.{◌≡◌, ◌≤◌, ◌<◌, ℕ, true, List, Some, is_some}
use Rattle.cx_base.specs.Literals.{Literal}
use Rattle.cx_base.specs.Parity.{normal_form}
use Rattle.cx_base.specs.Problem.{Problem}
use Rattle.cx_semantics.specs.Tables.{Table, Tables, get, is_live, first_tables}
use Rattle.cx_semantics.specs.Chain.{HaveSame}
use Rattle.fratx_elab.specs.Names.{Naming, Names, stands_for}
use Rattle.fratx_elab.specs.Elaborates.{number_of_clauses, number_of_parities}

abbrev pub HaveSameForm : List Literal → List Literal → Type 0
HaveSameForm a b = normal_form a ≡ normal_form b

-- Each live id of the log has one of the proof whose content is alike. The formula's constraints, `count` of them, are live in the proof under their numbers; each other id stands for one of the log.
pub record Tied (Alike : List Literal → List Literal → Type 0) (first : Table) (count : ℕ) (log proof : Table) (naming : Naming) : Type 0 where
  pub keyed : (n : ℕ) → is_live log n ≡ is_some (stands_for naming n)
  pub alike : (n p : ℕ) (lits : List Literal) → get log n ≡ Some lits → stands_for naming n ≡ Some p → (other : List Literal) × (get proof p ≡ Some other) × Alike lits other
  pub bounded : (p : ℕ) → is_live proof p ≡ true → p ≤ naming.last
  pub originals : (k : ℕ) → k ≤ count → get proof k ≡ get first k
  pub apart : (n m p : ℕ) → stands_for naming n ≡ Some p → stands_for naming m ≡ Some p → count < p → n ≡ m
  pub covers : count ≤ naming.last

pub record AreTied (formula : Problem) (log proof : Tables) (names : Names) : Type 0 where
  pub clauses : Tied HaveSame (first_tables formula).clauses (number_of_clauses formula) log.clauses proof.clauses names.clauses
  pub parities : Tied HaveSameForm (first_tables formula).parities (number_of_parities formula) log.parities proof.parities names.parities
