use Rattle.std.proofs.Common.{◌≡◌, arith}
use Rattle.cnfx_reader.proofs.PieceSteps.{then_result}
use Rattle.cnfx_reader.proofs.piece.take_some.Goals as goal

pub returns-else-taken-gt0 : goal.returns-else-taken-gt0
returns-else-taken-gt0 c =
    let taken = c.in-Ok.taken in
    let none : taken.len ≡ 0 = omega (arith, c.if-taken-gt0.false) in
    let first = rw none at c.in-Ok.ensures in
    then_result c.args.place c.args.bytes.now c.args.phase taken.phase c.args.builder.now c.take_body_front.new.builder first c.take_first.result c.take_first.new.builder c.take_first.ensures
