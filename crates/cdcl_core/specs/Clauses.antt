-- Lists of literals as clauses.
use Rattle.std.specs.Prelude.{ℕ, ◌<◌, List, [], ◌∷◌, ⊤, IsFalse}
use Rattle.cx_base.specs.Literals.{Literal, code_of}
use Rattle.cx_semantics.specs.Chain.{has_literal}

-- no literal comes twice
abbrev pub AreDifferent : List Literal → Type 0
AreDifferent [] = ⊤
AreDifferent (l ∷ lits) = IsFalse (has_literal lits l) × AreDifferent lits

-- the codes rise, and are above this number
abbrev pub RiseFrom : ℕ → List Literal → Type 0
RiseFrom n [] = ⊤
RiseFrom n (l ∷ lits) = (n < code_of l) × RiseFrom (code_of l) lits
