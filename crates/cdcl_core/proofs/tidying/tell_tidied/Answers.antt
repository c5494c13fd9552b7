use Rattle.std.proofs.Common.{refl}
use Rattle.cdcl_core.proofs.LogLineLaws.{not_tidied_in, tidied_in}
use Rattle.cdcl_core.proofs.tidying.tell_tidied.Goals as goal

pub returns-in-Ok-clause-log : goal.returns-in-Ok-clause-log
returns-in-Ok-clause-log g c = tidied_in g.L.Sink c.args.log.now _ refl refl c.tidied.ensures.same c.tidied.ensures.frame (Unit {0}) tt c.in-Ok.ensures.faults c.in-Ok.ensures.failed

pub returns-in-Err-clause-log : goal.returns-in-Err-clause-log
returns-in-Err-clause-log g c =
    rw c.fault_of.ensures
    (not_tidied_in g.L.Sink c.args.log.now _ refl refl c.tidied.ensures.same c.tidied.ensures.frame (Unit {0}) c.in-Err.fault c.args.restart c.in-Err.ensures.torn c.in-Err.ensures.faults c.in-Err.ensures.failed)
