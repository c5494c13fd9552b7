use Rattle.proof_trim.proofs.SetLaws.{has_none}
use Rattle.proof_trim.proofs.names.NameSet.beside.Goals as goal

pub returns : goal.returns
returns c = has_none c.in_ok-with_room.field-0 c.in_ok-with_room-2.field-0 c.in_ok-with_room.ensures c.in_ok-with_room-2.ensures
