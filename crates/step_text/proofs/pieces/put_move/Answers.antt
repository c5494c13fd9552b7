use Rattle.std.proofs.lemmas.Result.{err_from_is_err_and}
use Rattle.std.proofs.Common.{decimal, ◌∷◌, ◌++◌, []}
use Rattle.step_text.proofs.Puts.{first_fails, two_puts, move_text}
use Rattle.step_text.proofs.pieces.put_move.Goals as goal

pub returns-in_err-put_id : goal.returns-in_err-put_id
returns-in_err-put_id g c =
    let p = err_from_is_err_and c.from_residual.result c.from_residual.ensures.1 in
    let first = 32 ∷ (decimal c.args.from ++ []) in
    let second = 32 ∷ (decimal c.args.to ++ []) in
    let text = move_text (record { from = c.args.from; to = c.args.to }) in
    let old = g.D.Desk.outside c.args.desk.now in
    let new = g.D.Desk.outside c.put_id.new.desk in
    rw p.1 (first_fails c.args.port first second _ old new text c.in_err-put_id.ensures)

pub returns : goal.returns
returns g c =
    let first = 32 ∷ (decimal c.args.from ++ []) in
    let second = 32 ∷ (decimal c.args.to ++ []) in
    let text = move_text (record { from = c.args.from; to = c.args.to }) in
    let old = g.D.Desk.outside c.args.desk.now in
    let mid = g.D.Desk.outside c.put_id.new.desk in
    let new = g.D.Desk.outside c.put_id-2.new.desk in
    two_puts c.args.port first second _ old mid new c.put_id-2.result text c.in_ok-put_id.ensures c.put_id-2.ensures
