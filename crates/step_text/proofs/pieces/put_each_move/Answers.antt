use Rattle.std.proofs.lemmas.Result.{err_from_is_err_and}
use Rattle.cx_desk.proofs.Moves.{pieces-fail}
use Rattle.step_text.specs.Spaced.{spaced_move}
use Rattle.step_text.proofs.pieces.put_each_move.Goals as goal

pub returns-in_err-put_move : goal.returns-in_err-put_move
returns-in_err-put_move g c =
    let p = err_from_is_err_and c.from_residual.result c.from_residual.ensures.1 in
    let old = g.D.Desk.outside c.args.desk.now in
    let before = g.D.Desk.outside c.loop-member.desk in
    let after = g.D.Desk.outside c.put_move.new.desk in
    rw p.1 (pieces-fail spaced_move c.args.moves.now c.loop-member.member-index (record { from = 0; to = 0 }) c.args.port old before after c.loop-member-test.true c.loop-member.invariant c.in_err-put_move.ensures)
