use Rattle.std.proofs.Common.{arith}
use Rattle.cx_desk.proofs.IntoBuffer.{read_mid}
use Rattle.cx_desk.proofs.ahead.read_after.Goals as goal

pub returns-clause-more : goal.returns-clause-more
returns-clause-more g c =
    read_mid c.args.slot c.args.filled _ c.args.buffer.now c.read.new.into (g.D.Desk.outside c.args.desk.now) (g.D.Desk.outside c.read.new.self) c.read.result
    (omega (arith, c.requires.room)) c.read.auto.into c.read.ensures
