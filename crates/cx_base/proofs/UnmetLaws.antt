-- No constraint is the first unmet one exactly where all are met.
use Rattle.std.proofs.Common.{◌≡◌, refl, ℕ, ◌+◌, Bool, true, false, cond, ◌&&◌, List, [], ◌∷◌, Some, is_some, not}
use Rattle.std.specs.List.{list_all}
use Rattle.cx_base.specs.Problem.{constraint_met, first_unmet}
use Rattle.cx_base.specs.declared.constraint.Constraint.{Constraint}

pub is_some-first_unmet : (values : List Bool) (n : ℕ) (constraints : List Constraint) → is_some (first_unmet values n constraints) ≡ not (list_all (constraint_met values) constraints)
is_some-first_unmet values n [] = refl
is_some-first_unmet values n (c ∷ constraints) = step (constraint_met values c) (is_some-first_unmet values (n + 1) constraints)
  where
    step : (b : Bool) → is_some (first_unmet values (n + 1) constraints) ≡ not (list_all (constraint_met values) constraints)
        → is_some (cond b (first_unmet values (n + 1) constraints) (Some n)) ≡ not (b && list_all (constraint_met values) constraints)
    step true h = h
    step false h = refl
