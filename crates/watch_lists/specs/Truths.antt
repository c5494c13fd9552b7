-- What a trail makes of literals and clauses.
use Rattle.std.specs.Prelude.{◌≢◌, ◌⊎◌, List}
use Rattle.std.specs.List.{Contains}
use Rattle.cx_base.specs.Literals.{Literal}
use Rattle.cx_trail.specs.declared.entry.Entry.{Entry}
use Rattle.cx_trail.specs.Sequence.{IsTrueIn, IsFalseIn, IsOpenIn}
use Rattle.watch_lists.specs.declared.look.ClauseFinding.{ClauseFinding}
use Rattle.watch_lists.specs.declared.look.ClauseFinding.TheVariants.{Free, Unit, Falsified}

-- each literal of the clause but l is false
abbrev pub AreOthersFalse : List Entry → List Literal → Literal → Type 0
AreOthersFalse entries lits l = (m : Literal) → Contains lits m → m ≢ l → IsFalseIn entries m

-- each literal of the clause is false
abbrev pub IsFalsified : List Entry → List Literal → Type 0
IsFalsified entries lits = (m : Literal) → Contains lits m → IsFalseIn entries m

-- the clause has a true literal, or two different unassigned ones
abbrev pub IsQuiet : List Entry → List Literal → Type 0
IsQuiet entries lits = ((l : Literal) × Contains lits l × IsTrueIn entries l) ⊎ ((l : Literal) × (m : Literal) × Contains lits l × Contains lits m × (l ≢ m) × IsOpenIn entries l.variable × IsOpenIn entries m.variable)

-- what a look at a clause finds, where other is its second watched literal
abbrev pub IsFinding : List Entry → List Literal → Literal → ClauseFinding → Type 0
IsFinding entries lits other (Free l) = Contains lits l × (l ≢ other) × (IsFalseIn entries l → ⊥)
IsFinding entries lits other Unit = IsOpenIn entries other.variable × AreOthersFalse entries lits other
IsFinding entries lits other Falsified = IsFalsified entries lits
