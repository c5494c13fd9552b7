use Rattle.std.proofs.Common.{arith, length-take}
use Rattle.cx_desk.proofs.Passing.{read_over, within_front}
use Rattle.cx_desk.proofs.draining.read_front.Goals as goal

pub slice_bounds-read-end : goal.slice_bounds-read-end
slice_bounds-read-end g c = omega (arith, c.min-room.ensures)

pub read-requires-clause-room : goal.read-requires-clause-room
read-requires-clause-room g c = omega (arith, c.min-room.ensures, c.requires.some, c.requires.room, length-take c.min-room.result c.args.into.now)

pub returns : goal.returns
returns g c =
    let few = within_front _ _ c.read.new.into c.args.most c.read.auto.into (omega (arith, c.min-room.ensures)) in
    read_over c.args.slot c.args.most c.read.new.into (g.D.Desk.outside c.args.desk.now) (g.D.Desk.outside c.read.new.self) c.read.result few c.read.ensures
