-- Borrowed constraints, as constraints.
use Rattle.std.specs.Prelude.{ℕ, List, [], get_or}
use Rattle.cx_base.specs.declared.constraint.Constraint.{Constraint}
use Rattle.cx_base.specs.declared.constraint.Constraint.TheVariants.{Clause, Parity, Assume}
use Rattle.cx_base.specs.declared.constraint.ConstraintRef.{ConstraintRef}
use Rattle.cx_base.specs.declared.constraint.ConstraintRef.TheVariants as borrowed

-- the constraint with the literals that are borrowed
abbrev pub constraint_of : ConstraintRef → Constraint
constraint_of (borrowed.Clause lits) = Clause lits.now
constraint_of (borrowed.Parity lits) = Parity lits.now
constraint_of (borrowed.Assume lits) = Assume lits.now

-- the constraint at a place, from 0
abbrev pub constraint_at : List Constraint → ℕ → Constraint
constraint_at constraints k = get_or constraints k (Clause [])
