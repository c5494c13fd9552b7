use Rattle.std.proofs.lemmas.Result.{err_from_is_err_and}
use Rattle.model_out.proofs.Puts.{value_taken, value_fails, all_taken}
use Rattle.model_out.proofs.put.add_values.Goals as goal

pub returns-in_err-add_value : goal.returns-in_err-add_value
returns-in_err-add_value g c =
    let p = err_from_is_err_and c.from_residual.result c.from_residual.ensures.1 in
    let old = g.D.Desk.outside c.args.desk.now in
    let mid = g.D.Desk.outside c.loop-place.desk in
    let new = g.D.Desk.outside c.add_value.new.desk in
    rw p.1 (value_fails c.args.values.now c.loop-place.place old mid new c.args.waiting.now.items c.loop-place.waiting.items c.loop-place-test.true c.loop-place.invariant c.in_err-add_value.ensures)

pub loop-place-preserved : goal.loop-place-preserved
loop-place-preserved g c =
    let old = g.D.Desk.outside c.args.desk.now in
    let mid = g.D.Desk.outside c.loop-place.desk in
    let new = g.D.Desk.outside c.add_value.new.desk in
    value_taken c.args.values.now c.loop-place.place old mid new c.args.waiting.now.items c.loop-place.waiting.items c.add_value.new.waiting.items c.loop-place-test.true c.loop-place.invariant
    c.in_ok-add_value.ensures

pub returns : goal.returns
returns g c =
    let old = g.D.Desk.outside c.args.desk.now in
    let mid = g.D.Desk.outside c.loop-place.desk in
    all_taken c.args.values.now c.loop-place.place old mid c.args.waiting.now.items c.loop-place.waiting.items c.loop-place-test.false c.loop-place.invariant
