use Rattle.std.proofs.Common.{refl}
use Rattle.cdcl_core.proofs.conflicts.of_stored.Goals as goal

pub returns : goal.returns
returns c = (record { lits = c.args.hinted.lits; id = c.args.hinted.id; rows = c.new.result }, refl, refl, refl, c.new.ensures)
