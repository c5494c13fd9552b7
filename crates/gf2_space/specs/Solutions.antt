-- The solutions of parities, and the variables that they leave free.
use Rattle.std.specs.Prelude.{◌≡◌, ◌≢◌, ℕ, ◌<◌, Bool, List, length, IsTrue}
use Rattle.std.specs.List.{list_all}
use Rattle.cx_base.specs.Literals.{Literal, value_of}
use Rattle.cx_base.specs.Problem.{parity_met}

-- a value for each variable, and each parity is met
pub record Solves (vars : ℕ) (parities : List (List Literal)) (values : List Bool) : Type 0 where
  pub one_each : length values ≡ vars
  pub all_met : IsTrue (list_all (parity_met values) parities)

-- two solutions differ in the variable and agree on every greater one
pub record IsFree (vars : ℕ) (parities : List (List Literal)) (variable : ℕ) : Type 0 where
  pub one : List Bool
  pub other : List Bool
  pub one_solves : Solves vars parities one
  pub other_solves : Solves vars parities other
  pub differ_here : value_of one variable ≢ value_of other variable
  pub agree_above : (y : ℕ) → variable < y → value_of one y ≡ value_of other y

-- two solutions that agree on the free variables are one
abbrev pub FreeDecide : Type 0
FreeDecide = (vars : ℕ) (parities : List (List Literal)) (one other : List Bool) → Solves vars parities one → Solves vars parities other
    → ((x : ℕ) → IsFree vars parities x → value_of one x ≡ value_of other x) → one ≡ other
