-- The steps that tell a shorter clause.
use Rattle.std.specs.Prelude.{ℕ, ℤ, pos, List, [], ◌∷◌}
use Rattle.cx_base.specs.declared.steps.LogStep.{LogStep}
use Rattle.cx_base.specs.declared.steps.LogStep.TheVariants.{ClauseWithHints, Delete}

-- These literals are added under the spare id. The clause of the first id strengthens the one of the second.
abbrev pub strengthening : ℕ → ℕ → ℕ → List ℤ → LogStep
strengthening spare by n lits = ClauseWithHints spare lits (pos by ∷ pos n ∷ [])

-- They are added under the spare id, the old clause goes, they are added under its id, and the spare one goes: so no id is used up.
abbrev pub shortening : ℕ → ℕ → ℕ → List ℤ → List LogStep
shortening spare by n lits = strengthening spare by n lits ∷ Delete n [] ∷ ClauseWithHints n lits (pos spare ∷ []) ∷ Delete spare [] ∷ []
