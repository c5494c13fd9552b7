use Rattle.std.proofs.lemmas.Result.{err_from_is_err_and}
use Rattle.std.proofs.Common.{flat_map, ◌∷◌, []}
use Rattle.step_text.specs.Spaced.{spaced_id}
use Rattle.step_text.proofs.Puts.{first_fails, two_puts, ids_text}
use Rattle.step_text.proofs.pieces.put_ids.Goals as goal

pub returns-in_err-put_each_id : goal.returns-in_err-put_each_id
returns-in_err-put_each_id g c =
    let p = err_from_is_err_and c.from_residual.result c.from_residual.ensures.1 in
    let first = flat_map spaced_id c.args.members.now in
    let second = 32 ∷ 48 ∷ 10 ∷ [] in
    let line = ids_text c.args.members.now in
    let old = g.D.Desk.outside c.args.desk.now in
    let new = g.D.Desk.outside c.put_each_id.new.desk in
    rw p.1 (first_fails c.args.port first second _ old new line c.in_err-put_each_id.ensures)

pub returns : goal.returns
returns g c =
    let first = flat_map spaced_id c.args.members.now in
    let second = 32 ∷ 48 ∷ 10 ∷ [] in
    let line = ids_text c.args.members.now in
    let old = g.D.Desk.outside c.args.desk.now in
    let mid = g.D.Desk.outside c.put_each_id.new.desk in
    let new = g.D.Desk.outside c.put_all.new.desk in
    two_puts c.args.port first second _ old mid new c.put_all.result line c.in_ok-put_each_id.ensures c.put_all.ensures
