use Rattle.cx_semantics.proofs.MoveLaws.{moves_are_at_once}
use Rattle.cx_semantics.proofs.laws.moves_are_at_once.Goals as goal

pub returns : goal.returns
returns c = moves_are_at_once
