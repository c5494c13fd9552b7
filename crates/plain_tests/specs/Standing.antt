-- Parities that a formula has as clauses, by a look for each clause.
use Rattle.std.specs.Prelude.{ℕ, Bool, not, ◌&&◌, ◌||◌, List, [], ◌∷◌, ◌++◌}
use Rattle.std.specs.List.{list_any}
use Rattle.std.specs.FinSet as set
use Rattle.cx_base.specs.Literals.{Literal, differ, positive_of, negative_of}
use Rattle.cx_base.specs.Problem.{Problem, clauses_of}
use Rattle.cx_base.specs.declared.literal.TheConstants.{MAX_VARIABLE}
use Rattle.cx_semantics.specs.Chain.{same_literals}
use Rattle.cx_semantics.specs.Recovered.{Recovered, excluded_sum}
use Rattle.parity_engine.specs.Written.{AreRising}

-- a clause of the formula has just these literals
abbrev pub stands : Problem → List Literal → Bool
stands formula lits = list_any (same_literals lits) (clauses_of formula.constraints)

-- the literals followed by one of each variable in order exclude an assignment with the right sum, or are a clause of the formula
abbrev pub all_stand : Problem → Bool → List Literal → List ℕ → Bool
all_stand formula right chosen [] = not (differ right (excluded_sum chosen)) || stands formula chosen
all_stand formula right chosen (x ∷ xs) = all_stand formula right (chosen ++ positive_of x ∷ []) xs && all_stand formula right (chosen ++ negative_of x ∷ []) xs

-- the variables rise, and their parity with this right side is recovered from the formula
pub record IsRecovered (formula : Problem) (vars : List ℕ) (right : Bool) : Type 0 where
  pub rising : AreRising 1 MAX_VARIABLE vars
  pub recovered : Recovered formula (record { variables = set.from_list vars; right_side = right })
