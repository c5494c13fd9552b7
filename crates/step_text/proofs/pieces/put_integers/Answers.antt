use Rattle.std.proofs.lemmas.Result.{err_from_is_err_and}
use Rattle.std.proofs.Common.{flat_map, ◌∷◌, ◌++◌, []}
use Rattle.step_text.specs.Spaced.{spaced_integer}
use Rattle.step_text.proofs.Puts.{first_fails, two_puts, integers_text}
use Rattle.step_text.proofs.pieces.put_integers.Goals as goal

pub returns-in_err-put_each_integer : goal.returns-in_err-put_each_integer
returns-in_err-put_each_integer g c =
    let p = err_from_is_err_and c.from_residual.result c.from_residual.ensures.1 in
    let first = flat_map spaced_integer c.args.members.now in
    let second = 32 ∷ 48 ∷ (c.args.after.now ++ []) in
    let line = integers_text c.args.members.now c.args.after.now in
    let old = g.D.Desk.outside c.args.desk.now in
    let new = g.D.Desk.outside c.put_each_integer.new.desk in
    rw p.1 (first_fails c.args.port first second _ old new line c.in_err-put_each_integer.ensures)

pub returns : goal.returns
returns g c =
    let first = flat_map spaced_integer c.args.members.now in
    let second = 32 ∷ 48 ∷ (c.args.after.now ++ []) in
    let line = integers_text c.args.members.now c.args.after.now in
    let old = g.D.Desk.outside c.args.desk.now in
    let mid = g.D.Desk.outside c.put_each_integer.new.desk in
    let new = g.D.Desk.outside c.put_pieces.new.desk in
    two_puts c.args.port first second _ old mid new c.put_pieces.result line c.in_ok-put_each_integer.ensures c.put_pieces.ensures
