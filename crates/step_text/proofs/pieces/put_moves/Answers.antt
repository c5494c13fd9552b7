use Rattle.std.proofs.lemmas.Result.{err_from_is_err_and}
use Rattle.std.proofs.Common.{flat_map, ◌∷◌, []}
use Rattle.step_text.specs.Spaced.{spaced_move}
use Rattle.step_text.proofs.Puts.{first_fails, two_puts, moves_text}
use Rattle.step_text.proofs.pieces.put_moves.Goals as goal

pub returns-in_err-put_each_move : goal.returns-in_err-put_each_move
returns-in_err-put_each_move g c =
    let p = err_from_is_err_and c.from_residual.result c.from_residual.ensures.1 in
    let first = flat_map spaced_move c.args.moves.now in
    let second = 32 ∷ 48 ∷ 10 ∷ [] in
    let line = moves_text c.args.moves.now in
    let old = g.D.Desk.outside c.args.desk.now in
    let new = g.D.Desk.outside c.put_each_move.new.desk in
    rw p.1 (first_fails c.args.port first second _ old new line c.in_err-put_each_move.ensures)

pub returns : goal.returns
returns g c =
    let first = flat_map spaced_move c.args.moves.now in
    let second = 32 ∷ 48 ∷ 10 ∷ [] in
    let line = moves_text c.args.moves.now in
    let old = g.D.Desk.outside c.args.desk.now in
    let mid = g.D.Desk.outside c.put_each_move.new.desk in
    let new = g.D.Desk.outside c.put_all.new.desk in
    two_puts c.args.port first second _ old mid new c.put_all.result line c.in_ok-put_each_move.ensures c.put_all.ensures
