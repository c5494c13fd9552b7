-- Formulas that are being made.
use Rattle.std.specs.Prelude.{List}
use Rattle.cx_base.specs.Literals.{Literal}
use Rattle.cx_base.specs.declared.constraint.Constraint.{Constraint}

-- the constraints that are whole, and the literals of the one that is not
pub record Draft : Type 0 where
  pub constraints : List Constraint
  pub unfinished : List Literal
