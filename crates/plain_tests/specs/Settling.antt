-- What propagation finds in a formula before any decision, by a look at each clause and at all values.
use Rattle.std.specs.Prelude.{◌⊎◌, ℕ, zero, suc, Bool, true, false, not, ◌&&◌, ◌||◌, List, [], ◌∷◌, ◌++◌, IsTrue}
use Rattle.std.specs.List.{list_any, list_all}
use Rattle.cx_base.specs.Literals.{Literal, negate, same_literal, literal_true, positive_of, negative_of}
use Rattle.cx_base.specs.Problem.{Problem, clauses_of, parity_met}
use Rattle.cx_semantics.specs.Chain.{has_literal, is_inside}
use Rattle.cx_semantics.specs.Fresh.{is_falsified}
use Rattle.cx_semantics.specs.Settled.{IsClosed, IsDecidedBy}

-- just this literal of the clause is left
abbrev pub leaves_only : List Literal → Literal → List Literal → Bool
leaves_only known l clause = (has_literal clause l && not (has_literal known (negate l))) && list_all (λ m. has_literal known (negate m) || same_literal l m) clause

-- under the values each literal of the part is true and each parity is met
abbrev pub are_solved : List (List Literal) → List Literal → List Bool → Bool
are_solved parities part values = list_all (literal_true values) part && list_all (parity_met values) parities

-- this many more values can follow these
abbrev pub some_solve : List (List Literal) → List Literal → List Bool → ℕ → Bool
some_solve parities part values zero = are_solved parities part values
some_solve parities part values (suc n) = some_solve parities part (values ++ false ∷ []) n || some_solve parities part (values ++ true ∷ []) n

-- the literal is left alone in a clause, or no values solve the parities with the known literals and its negation
abbrev pub follows : Problem → List (List Literal) → List Literal → Literal → Bool
follows formula parities known l = list_any (leaves_only known l) (clauses_of formula.constraints) || not (some_solve parities (known ++ negate l ∷ []) [] formula.variables)

-- a literal of each variable is known
abbrev pub decides : ℕ → List Literal → Bool
decides zero known = true
decides (suc n) known = decides n known && (has_literal known (positive_of (suc n)) || has_literal known (negative_of (suc n)))

abbrev pub is_decided : Problem → List (List Literal) → List Literal → Bool
is_decided formula parities known =
    (list_any (is_falsified known) (clauses_of formula.constraints) || not (some_solve parities known [] formula.variables)) || decides formula.variables known

-- both literals of each variable
abbrev pub both_of_each : ℕ → List Literal
both_of_each zero = []
both_of_each (suc n) = (both_of_each n ++ positive_of (suc n) ∷ []) ++ negative_of (suc n) ∷ []

-- one of these that follows from what is known
pub record IsNext (formula : Problem) (parities : List (List Literal)) (known waiting : List Literal) (l : Literal) : Type 0 where
  pub waits : IsTrue (has_literal waiting l)
  pub comes : IsTrue (follows formula parities known l)

-- a closed set, and each closed set that is not decided has its literals
pub record IsLeast (formula : Problem) (parities : List (List Literal)) (known : List Literal) : Type 0 where
  pub closed : IsClosed formula parities known
  pub least : (u : List Literal) → IsClosed formula parities u → IsDecidedBy formula parities u ⊎ IsTrue (is_inside known u)
