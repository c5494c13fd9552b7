use Rattle.std.proofs.Common.{[], arith}
use Rattle.std.proofs.lemmas.Result.{err_from_is_err_and}
use Rattle.gf2_space.specs.AffineText.{vector_text}
use Rattle.gf2_space.proofs.Printing.{each_taken, each_fails, all_taken}
use Rattle.gf2_space.proofs.put.add_vectors.Goals as goal

pub returns-in_err-add_vector : goal.returns-in_err-add_vector
returns-in_err-add_vector g c =
    let p = err_from_is_err_and c.from_residual.result c.from_residual.ensures.1 in
    let old = g.D.Desk.outside c.args.desk.now in
    let mid = g.D.Desk.outside c.loop-place.desk in
    let new = g.D.Desk.outside c.add_vector.new.desk in
    let count = c.dimension-place-end.ensures.count in
    let as_many = c.dimension-place-end.ensures.space.one_each in
    let test = c.loop-place-test.true in
    rw p.1 (each_fails vector_text c.args.space.now.vectors c.loop-place.place [] old mid new c.args.waiting.now.items c.loop-place.waiting.items (omega arith) c.loop-place.invariant c.in_err-add_vector.ensures)

pub loop-place-preserved : goal.loop-place-preserved
loop-place-preserved g c =
    let old = g.D.Desk.outside c.args.desk.now in
    let mid = g.D.Desk.outside c.loop-place.desk in
    let new = g.D.Desk.outside c.add_vector.new.desk in
    let count = c.dimension-place-end.ensures.count in
    let as_many = c.dimension-place-end.ensures.space.one_each in
    let test = c.loop-place-test.true in
    each_taken vector_text c.args.space.now.vectors c.loop-place.place [] old mid new c.args.waiting.now.items c.loop-place.waiting.items c.add_vector.new.waiting.items (omega arith) c.loop-place.invariant
    c.in_ok-add_vector.ensures

pub returns : goal.returns
returns g c =
    let old = g.D.Desk.outside c.args.desk.now in
    let mid = g.D.Desk.outside c.loop-place.desk in
    let count = c.dimension-place-end.ensures.count in
    let as_many = c.dimension-place-end.ensures.space.one_each in
    let past = c.loop-place-test.false in
    all_taken vector_text c.args.space.now.vectors c.loop-place.place old mid c.args.waiting.now.items c.loop-place.waiting.items (omega arith) c.loop-place.invariant
