use Rattle.watch_lists.proofs.RenamedLaws.{lowered}
use Rattle.watch_lists.proofs.laws.compacted_references_fall.Goals as goal

pub returns : goal.returns
returns c = lowered
