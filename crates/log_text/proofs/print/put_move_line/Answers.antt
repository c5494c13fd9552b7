use Rattle.std.proofs.lemmas.Result.{err_from_is_err_and}
use Rattle.std.proofs.Common.{refl, flat_map, ◌∷◌, ◌++◌, []}
use Rattle.cx_texts.specs.Grammar.{both_ids, spelled_list}
use Rattle.step_text.specs.Spaced.{spaced}
use Rattle.step_text.proofs.Puts.{first_fails, two_puts}
use Rattle.log_text.proofs.print.put_move_line.Goals as goal

pub returns-in_err-put_all : goal.returns-in_err-put_all
returns-in_err-put_all g c =
    let p = err_from_is_err_and c.from_residual.result c.from_residual.ensures.1 in
    let second = spaced (spelled_list (flat_map both_ids c.args.moves.now)) ++ 10 ∷ [] in
    let old = g.D.Desk.outside c.args.desk.now in
    let new = g.D.Desk.outside c.put_all.new.desk in
    rw p.1 (first_fails c.args.port c.args.before.now second _ old new refl c.in_err-put_all.ensures)

pub returns : goal.returns
returns g c =
    let second = spaced (spelled_list (flat_map both_ids c.args.moves.now)) ++ 10 ∷ [] in
    let old = g.D.Desk.outside c.args.desk.now in
    let mid = g.D.Desk.outside c.put_all.new.desk in
    let new = g.D.Desk.outside c.put_moves.new.desk in
    two_puts c.args.port c.args.before.now second _ old mid new c.put_moves.result refl c.in_ok-put_all.ensures c.put_moves.ensures
