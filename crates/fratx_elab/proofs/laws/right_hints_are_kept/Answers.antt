use Rattle.fratx_elab.proofs.OwnHints.{has_own_hints}
use Rattle.fratx_elab.proofs.laws.right_hints_are_kept.Goals as goal

pub returns : goal.returns
returns c = has_own_hints
