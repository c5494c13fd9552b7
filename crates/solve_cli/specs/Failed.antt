-- What `solve` tells of assumed literals that fail.
use Rattle.std.specs.Prelude.{◌≡◌, ℕ, ℤ, ◌<◌, Bool, true, false, List, [], ◌∷◌, ◌++◌, Option, Some, None, IsTrue, IsFalse, ⊤, codes}
use Rattle.std.specs.List.{list_any, AllByRecursion}
use Rattle.cx_base.specs.Assumptions.{clashes, IsFailed}
use Rattle.cx_base.specs.Endings.{finished}
use Rattle.cx_base.specs.Integers.{integers_of}
use Rattle.cx_base.specs.Literals.{Literal, code_of}
use Rattle.cx_base.specs.Problem.{Problem}
use Rattle.cx_base.specs.declared.constraint.Constraint.{Constraint}
use Rattle.cx_base.specs.declared.constraint.Constraint.TheVariants.{Clause, Parity, Assume}
use Rattle.cx_base.specs.declared.steps.LogStep.{LogStep}
use Rattle.cx_texts.specs.Grammar.{spelled, integers}
use Rattle.cx_texts.specs.LogText.{LogReads}
use Rattle.cx_semantics.specs.Chain.{HaveSame, negations}
use Rattle.cx_semantics.specs.LogRules.{derived_clause}
use Rattle.step_text.specs.Spaced.{spaced}
use Rattle.cdcl_core.specs.Results.{AreBothOfClash}
use Rattle.cx_desk.specs.Outside.{Bytes}

abbrev pub is_assumption : Constraint → Bool
is_assumption (Clause lits) = false
is_assumption (Parity lits) = false
is_assumption (Assume lits) = true

abbrev pub has_assumption : List Constraint → Bool
has_assumption constraints = list_any is_assumption constraints

-- The codes of the literals rise. So do their variables, and of one variable the literal without a sign comes first.
abbrev pub AreRising : List Literal → Type 0
AreRising [] = ⊤
AreRising (l ∷ lits) = AllByRecursion (λ m. code_of l < code_of m) lits × AreRising lits

-- the literals, each once and by rising variables, as integers; nothing where the formula has no assumption constraint
abbrev pub AreInOrder : Problem → List Literal → Option (List ℤ) → Type 0
AreInOrder formula failed None = IsFalse (has_assumption formula.constraints)
AreInOrder formula failed (Some zs) = IsTrue (has_assumption formula.constraints) × ((lits : List Literal) × (zs ≡ integers_of lits) × AreRising lits × HaveSame lits failed)

-- Each of the literals is assumed, and no values meet the formula's clauses and parities with them as the one assumption constraint. They come by rising variables.
-- Where a variable is assumed with both signs, they are the two literals of the least such variable.
pub record HaveFailed (formula : Problem) (zs : List ℤ) : Type 0 where
  pub lits : List Literal
  pub are : zs ≡ integers_of lits
  pub rising : AreRising lits
  pub fails : IsFailed formula lits
  pub clash : IsTrue (clashes formula.constraints) → AreBothOfClash formula.constraints lits

-- so it is with what is told; it is told where the formula has an assumption constraint
abbrev pub FailsAs : Problem → Option (List ℤ) → Type 0
FailsAs formula None = IsFalse (has_assumption formula.constraints)
FailsAs formula (Some zs) = IsTrue (has_assumption formula.constraints) × HaveFailed formula zs

-- the literals are the negations of those of the clause that the log's last step adds
pub record AreOfLastStep (log : Bytes) (zs : List ℤ) : Type 0 where
  pub lits : List Literal
  pub are : zs ≡ integers_of lits
  pub before : List LogStep
  pub last : LogStep
  pub reads : LogReads log (before ++ last ∷ []) finished
  pub same : HaveSame lits (negations (derived_clause last))

-- so it is with what is told, where no variable is assumed with both signs
abbrev pub NegatesLastStep : Problem → Bytes → Option (List ℤ) → Type 0
NegatesLastStep formula log None = ⊤
NegatesLastStep formula log (Some zs) = IsFalse (clashes formula.constraints) → AreOfLastStep log zs

-- the lines of a formula that no values meet, and of the literals that fail
abbrev pub unsatisfiable_text : Option (List ℤ) → List ℕ
unsatisfiable_text None = codes "s UNSATISFIABLE\n"
unsatisfiable_text (Some failed) = codes "s UNSATISFIABLE\nc failed" ++ (spaced (spelled (integers failed)) ++ 10 ∷ [])
