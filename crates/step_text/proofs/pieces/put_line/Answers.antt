use Rattle.std.proofs.lemmas.Result.{err_from_is_err_and}
use Rattle.std.proofs.Common.{subst, decimal, flat_map, ◌++◌}
use Rattle.cx_desk.specs.Outside.{Bytes}
use Rattle.cx_desk.specs.Calls.{PutsAll}
use Rattle.cx_texts.specs.Grammar.{spelled, spelled_list}
use Rattle.step_text.specs.Spaced.{spaced}
use Rattle.step_text.specs.Tails.{tail_fields, tail_text}
use Rattle.step_text.proofs.Puts.{first_fails, two_puts, whole_line, line_in_two}
use Rattle.step_text.proofs.pieces.put_line.Goals as goal

pub returns-then-has_room : goal.returns-then-has_room
returns-then-has_room g c =
    let head = c.args.head in
    let line = whole_line head.before.now head.id head.literals.now (flat_map spelled (tail_fields c.args.tail)) in
    let old = g.D.Desk.outside c.args.desk.now in
    let new = g.D.Desk.outside c.put_whole_line.new.desk in
    subst (λ (t : Bytes). PutsAll c.args.port t old c.put_whole_line.result new) line c.put_whole_line.ensures

pub returns-in_err-put_head : goal.returns-in_err-put_head
returns-in_err-put_head g c =
    let p = err_from_is_err_and c.from_residual.result c.from_residual.ensures.1 in
    let head = c.args.head in
    let first = head.before.now ++ (decimal head.id ++ spaced (spelled_list head.literals.now)) in
    let line = line_in_two head.before.now head.id head.literals.now (flat_map spelled (tail_fields c.args.tail)) in
    let old = g.D.Desk.outside c.args.desk.now in
    let new = g.D.Desk.outside c.put_head.new.desk in
    rw p.1 (first_fails c.args.port first (tail_text c.args.tail) _ old new line c.in_err-put_head.ensures)

pub returns : goal.returns
returns g c =
    let head = c.args.head in
    let first = head.before.now ++ (decimal head.id ++ spaced (spelled_list head.literals.now)) in
    let line = line_in_two head.before.now head.id head.literals.now (flat_map spelled (tail_fields c.args.tail)) in
    let old = g.D.Desk.outside c.args.desk.now in
    let mid = g.D.Desk.outside c.put_head.new.desk in
    let new = g.D.Desk.outside c.put_tail.new.desk in
    two_puts c.args.port first (tail_text c.args.tail) _ old mid new c.put_tail.result line c.in_ok-put_head.ensures c.put_tail.ensures
