-- The constraints that an iterator over a formula has left.
use Rattle.std.specs.Prelude.{List, drop}
use Rattle.cx_base.specs.declared.constraint.Constraint.{Constraint}
use Rattle.cx_base.specs.declared.items.Items.{Items}

abbrev pub items_left : Items → List Constraint
items_left items = drop items.next items.formula.now.constraints
