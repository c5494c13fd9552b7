use Rattle.std.proofs.lemmas.Result.{err_from_is_err_and}
use Rattle.std.proofs.Common.{decimal, ◌++◌, []}
use Rattle.cx_texts.specs.Grammar.{spelled_list}
use Rattle.step_text.specs.Spaced.{spaced}
use Rattle.step_text.proofs.Puts.{first_fails, two_puts, head_text}
use Rattle.step_text.proofs.pieces.put_head.Goals as goal

pub returns-in_err-put_id : goal.returns-in_err-put_id
returns-in_err-put_id g c =
    let p = err_from_is_err_and c.from_residual.result c.from_residual.ensures.1 in
    let first = c.args.head.before.now ++ (decimal c.args.head.id ++ []) in
    let second = spaced (spelled_list c.args.head.literals.now) ++ [] in
    let text = head_text c.args.head.before.now c.args.head.id c.args.head.literals.now in
    let old = g.D.Desk.outside c.args.desk.now in
    let new = g.D.Desk.outside c.put_id.new.desk in
    rw p.1 (first_fails c.args.port first second _ old new text c.in_err-put_id.ensures)

pub returns : goal.returns
returns g c =
    let first = c.args.head.before.now ++ (decimal c.args.head.id ++ []) in
    let second = spaced (spelled_list c.args.head.literals.now) ++ [] in
    let text = head_text c.args.head.before.now c.args.head.id c.args.head.literals.now in
    let old = g.D.Desk.outside c.args.desk.now in
    let mid = g.D.Desk.outside c.put_id.new.desk in
    let new = g.D.Desk.outside c.put_integers.new.desk in
    two_puts c.args.port first second _ old mid new c.put_integers.result text c.in_ok-put_id.ensures c.put_integers.ensures
