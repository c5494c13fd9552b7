use Rattle.search_steps.proofs.BesideUnits.{beside_unit_keeps}
use Rattle.search_steps.proofs.laws.units_beside_keep.Goals as goal

pub returns : goal.returns
returns c = λ tidies formula parities s ok level n z hints a right goes served clause clauses are serves has. beside_unit_keeps formula parities s ok level n z hints a right goes served clause clauses are serves has
