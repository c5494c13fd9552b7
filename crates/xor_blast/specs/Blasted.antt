-- The formula with the clauses of its pieces in place of each parity.
use Rattle.std.specs.Prelude.{ℕ, ◌+◌, ◌-◌, ◌≤◌, ◌<◌, List, [], ◌∷◌, ◌++◌, length, map, take}
use Rattle.cx_base.specs.Literals.{Literal}
use Rattle.cx_base.specs.Parity.{normal_form}
use Rattle.cx_base.specs.Problem.{Problem}
use Rattle.cx_base.specs.declared.literal.TheConstants.{MAX_VARIABLE}
use Rattle.cx_base.specs.declared.constraint.Constraint.{Constraint}
use Rattle.cx_base.specs.declared.constraint.Constraint.TheVariants.{Clause, Parity, Assume}
use Rattle.xor_blast.specs.Pieces.{Piece, rising_variables, pieces, clauses_of_pieces}

-- the pieces of a parity of a formula with vars variables, the new variables being those after n
abbrev pub pieces_of : ℕ → ℕ → List Literal → List Piece
pieces_of vars n lits = pieces n (rising_variables vars lits) (normal_form lits).right_side

-- each piece but the last has a new variable
abbrev pub new_count : ℕ → ℕ → Constraint → ℕ
new_count vars n (Clause lits) = 0
new_count vars n (Parity lits) = length (pieces_of vars n lits) - 1
new_count vars n (Assume lits) = 0

-- what a constraint becomes: of a parity the clauses of its pieces, and otherwise the constraint itself
abbrev pub in_clauses : ℕ → ℕ → Constraint → List Constraint
in_clauses vars n (Clause lits) = Clause lits ∷ []
in_clauses vars n (Parity lits) = map Clause (clauses_of_pieces (pieces_of vars n lits))
in_clauses vars n (Assume lits) = Assume lits ∷ []

-- what all constraints become, in order
abbrev pub all_in_clauses : ℕ → ℕ → List Constraint → List Constraint
all_in_clauses vars n [] = []
all_in_clauses vars n (c ∷ cs) = in_clauses vars n c ++ all_in_clauses vars (n + new_count vars n c) cs

-- the greatest variable after the constraints
abbrev pub variables_behind : ℕ → ℕ → List Constraint → ℕ
variables_behind vars n [] = n
variables_behind vars n (c ∷ cs) = variables_behind vars (n + new_count vars n c) cs

-- the formula in clauses
unfoldable pub blasted : Problem → Problem
blasted formula = record {
  variables = variables_behind formula.variables formula.variables formula.constraints;
  constraints = all_in_clauses formula.variables formula.variables formula.constraints;
}

-- how many variables the first k constraints take
abbrev pub variables_after : Problem → ℕ → ℕ
variables_after formula k = variables_behind formula.variables formula.variables (take k formula.constraints)

-- the constraint of this number, from 1, is the first that passes the limit of variables
pub record PassesLimit (formula : Problem) (number : ℕ) : Type 0 where
  pub low : 1 ≤ number
  pub high : number ≤ length formula.constraints
  pub above : MAX_VARIABLE < variables_after formula number
  pub before : (k : ℕ) → k < number → variables_after formula k ≤ MAX_VARIABLE
