-- The pieces of a parity, and the clauses of a piece.
use Rattle.std.specs.Prelude.{ℕ, zero, suc, ◌+◌, Bool, true, false, List, [], ◌∷◌, ◌++◌, length, map, flat_map, filter, nat_lt, if◌then◌else◌}
use Rattle.std.specs.List.{range_with_len}
use Rattle.std.specs.FinSet as set
use Rattle.cx_base.specs.Literals.{Literal, differ}
use Rattle.cx_base.specs.Parity.{normal_form, odd_sum}

-- some variables, and whether an odd number of them is true
pub record Piece : Type 0 where
  pub variables : List ℕ
  pub right_side : Bool

-- the variables of a parity's normal form, rising; its variables are from 1 up to the number n
abbrev pub rising_variables : ℕ → List Literal → List ℕ
rising_variables n lits = filter (set.contains (normal_form lits).variables) (range_with_len 1 n)

-- While more than four variables are left, the first three and the next new variable make a piece of right side 0, and the new one goes first.
-- The new variables are those after n; x is the first that is left, and the list has the others.
abbrev pub pieces_from : ℕ → ℕ → List ℕ → Bool → List Piece
pieces_from n x [] right = record { variables = x ∷ []; right_side = right } ∷ []
pieces_from n x (y ∷ []) right = record { variables = x ∷ y ∷ []; right_side = right } ∷ []
pieces_from n x (y ∷ z ∷ rest) right =
    if nat_lt 1 (length rest)
    then record { variables = x ∷ y ∷ z ∷ (n + 1) ∷ []; right_side = false } ∷ pieces_from (n + 1) (n + 1) rest right
    else record { variables = x ∷ y ∷ z ∷ rest; right_side = right } ∷ []

abbrev pub pieces : ℕ → List ℕ → Bool → List Piece
pieces n [] right = record { variables = []; right_side = right } ∷ []
pieces n (x ∷ xs) right = pieces_from n x xs right

-- the values of k variables in counting order, the first variable most significant and false before true
abbrev pub assignments : ℕ → List (List Bool)
assignments zero = [] ∷ []
assignments (suc k) = map (λ bits. false ∷ bits) (assignments k) ++ map (λ bits. true ∷ bits) (assignments k)

-- the literals of the variables that are false where they have these values
abbrev pub falsified : List ℕ → List Bool → List Literal
falsified (x ∷ xs) (b ∷ bits) = record { variable = x; negative = b } ∷ falsified xs bits
falsified _ _ = []

-- whether the values have the wrong sum
abbrev pub is_wrong : Bool → List Bool → Bool
is_wrong right bits = differ (odd_sum bits) right

-- a clause for each assignment of the wrong sum
abbrev pub clauses_of_piece : Piece → List (List Literal)
clauses_of_piece p = map (falsified p.variables) (filter (is_wrong p.right_side) (assignments (length p.variables)))

-- the clauses of all pieces, in order
abbrev pub clauses_of_pieces : List Piece → List (List Literal)
clauses_of_pieces ps = flat_map clauses_of_piece ps
