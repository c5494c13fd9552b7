use Rattle.std.proofs.Common.{arith}
use Rattle.cx_desk.proofs.draining.pass_over.Goals as goal

pub read_front-requires-clause-room : goal.read_front-requires-clause-room
read_front-requires-clause-room g c = omega arith
