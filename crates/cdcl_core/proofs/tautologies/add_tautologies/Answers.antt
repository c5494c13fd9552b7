use Rattle.cdcl_core.proofs.FilledClauses.{none_counted}
use Rattle.cdcl_core.proofs.tautologies.add_tautologies.Goals as goal

pub loop-place-init : goal.loop-place-init
loop-place-init c = record { count = none_counted; added = λ a i. i }
