use Rattle.std.proofs.Common.{◌<◌, length, arith}
use Rattle.cnfx_reader.proofs.PieceSteps.{first_step, first_refused}
use Rattle.cnfx_reader.proofs.piece.take_first.Goals as goal

pub returns-in-Ok : goal.returns-in-Ok
returns-in-Ok c =
    let bytes = c.args.bytes.now in
    let len = c.run_len-len.result in
    let run = c.run_len-len.ensures in
    let some : 0 < len = omega (arith, c.if-len-eq0.false) in
    let few : len < length bytes = omega (arith, run.high, c.if-len-bytes.false) in
    first_step c.args.place len bytes some few run.run run.ends c.args.phase c.in-Ok.next c.args.builder.now c.take_one.new.builder c.in-Ok.ensures

pub returns-in-Err : goal.returns-in-Err
returns-in-Err c =
    let bytes = c.args.bytes.now in
    let len = c.run_len-len.result in
    let run = c.run_len-len.ensures in
    let some : 0 < len = omega (arith, c.if-len-eq0.false) in
    let few : len < length bytes = omega (arith, run.high, c.if-len-bytes.false) in
    first_refused c.args.place len bytes some few run.run run.ends c.args.phase c.args.builder.now c.in-Err.refusal c.in-Err.ensures
