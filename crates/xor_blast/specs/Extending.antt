-- Values of a formula's variables, and values of more variables that begin with them.
use Rattle.std.specs.Prelude.{◌≡◌, Bool, List, length, take}
use Rattle.cx_base.specs.ExactlyOne.{ExactlyOne}
use Rattle.cx_base.specs.Problem.{Problem, Meets, IsWithinVariables}
use Rattle.xor_blast.specs.Blasted.{blasted}

abbrev pub BeginsWith : List Bool → List Bool → Type 0
BeginsWith values longer = take (length values) longer ≡ values

-- longer values, which begin with these, meet the other formula
abbrev pub Extends : Problem → List Bool → List Bool → Type 0
Extends other values longer = BeginsWith values longer × Meets other longer

-- values that meet the formula are the beginning of exactly one list that meets the other formula, and values that do not, of none
pub record ExtendInOneWay (formula other : Problem) : Type 0 where
  pub one : (values : List Bool) → Meets formula values → ExactlyOne (Extends other values)
  pub none : (values : List Bool) → length values ≡ formula.variables → ¬ Meets formula values → (longer : List Bool) → ¬ Extends other values longer

-- so it is with a formula and its clauses
abbrev pub BlastedExtendInOneWay : Type 0
BlastedExtendInOneWay = (formula : Problem) → IsWithinVariables formula.variables formula.constraints → ExtendInOneWay formula (blasted formula)
