use Rattle.search_steps.proofs.ServesLaws.{jump_keeps}
use Rattle.search_steps.proofs.laws.jumps_keep.Goals as goal

pub returns : goal.returns
returns c = λ tidies. jump_keeps {tidies = tidies}
