-- The parities of a formula: those given, and those that it has as clauses.
use Rattle.std.specs.Prelude.{◌≡◌, List, Contains, ◌⊎◌}
use Rattle.cx_base.specs.Literals.{Literal}
use Rattle.cx_base.specs.Parity.{NormalForm, normal_form}
use Rattle.cx_base.specs.Problem.{Problem, parities_of}
use Rattle.cx_semantics.specs.Recovered.{Recovered}
use Rattle.cx_semantics.specs.Settled.{SettledBy}

-- a parity of the formula, or one that is recovered from its clauses
abbrev pub IsParityOf : Problem → List Literal → Type 0
IsParityOf formula parity = Contains (parities_of formula.constraints) parity ⊎ Recovered formula (normal_form parity)

-- each parity that is recovered from the formula's clauses is among these
abbrev pub HasRecovered : Problem → List (List Literal) → Type 0
HasRecovered formula parities = (form : NormalForm) → Recovered formula form → (parity : List Literal) × Contains parities parity × (normal_form parity ≡ form)

-- The formula is settled with the recovered parities taken as parities: some of these and its own settle it.
pub record SettledWithRecovered (formula : Problem) : Type 0 where
  pub parities : List (List Literal)
  pub are : (parity : List Literal) → Contains parities parity → IsParityOf formula parity
  pub settled : SettledBy formula parities
