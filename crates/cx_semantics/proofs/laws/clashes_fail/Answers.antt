use Rattle.cx_semantics.proofs.FailingLaws.{clashes_fail}
use Rattle.cx_semantics.proofs.laws.clashes_fail.Goals as goal

pub returns : goal.returns
returns c = clashes_fail
