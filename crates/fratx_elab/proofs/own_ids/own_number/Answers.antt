use Rattle.std.proofs.Common.{ap, Some}
use Rattle.fratx_elab.proofs.OwnLaws.{get-each_itself}
use Rattle.fratx_elab.proofs.own_ids.own_number.Goals as goal

pub returns-in-Some : goal.returns-in-Some
returns-in-Some c = rw (get-each_itself, c.in-Some.ensures) (ap Some c.new.ensures)

pub returns-in-None : goal.returns-in-None
returns-in-None c = rw (get-each_itself, c.in-None.ensures)
