use Rattle.std.proofs.Common.{◌≡◌, ◌∙◌, ◌+◌, subst, ap, get_or, ◌++◌, decimal, false, arith}
use Rattle.std.specs.List.{enumerate_from}
use Rattle.cx_base.specs.Literals.{value_of}
use Rattle.std.proofs.lemmas.Result.{err_from_is_err_and}
use Rattle.cx_desk.specs.Outside.{Bytes}
use Rattle.model_out.specs.Waiting.{Takes, Fails}
use Rattle.gf2_space.specs.AffineText.{point_literal}
use Rattle.gf2_space.proofs.Printing.{each_taken, each_fails, all_taken, literal_is, all_placed, placed_in}
use Rattle.gf2_space.proofs.put.add_point.Goals as goal

pub returns-in_err-add_number : goal.returns-in_err-add_number
returns-in_err-add_number g c =
    let p = err_from_is_err_and c.from_residual.result c.from_residual.ensures.1 in
    let old = g.D.Desk.outside c.args.desk.now in
    let mid = g.D.Desk.outside c.loop-x.desk in
    let new = g.D.Desk.outside c.add_number.new.desk in
    let point = c.args.space.now.point in
    let x = c.loop-x.x in
    let test = c.loop-x-test.true in
    let size = c.vars-x-end.ensures.is in
    let long = c.dimension-dimension.ensures.space.point_solves.one_each in
    let is : c.sign_of.result.now ++ decimal (c.from.result + 1) ≡ point_literal (get_or (enumerate_from 0 point) x (0, false)) =
    literal_is point x c.point-value.result c.sign_of.result.now (c.from.result + 1) (omega arith) (c.point-value.ensures ∙ ap (value_of point) c.new.ensures) c.sign_of.ensures (ap (λ n. n + 1) c.from.ensures) in
    rw p.1 (each_fails point_literal (enumerate_from 0 point) x (0, false) old mid new c.args.waiting.now.items c.loop-x.waiting.items (placed_in point x (omega arith)) c.loop-x.invariant
    (subst (λ (t : Bytes). Fails (c.loop-x.waiting.items ++ t) mid new) is c.in_err-add_number.ensures))

pub loop-x-preserved : goal.loop-x-preserved
loop-x-preserved g c =
    let old = g.D.Desk.outside c.args.desk.now in
    let mid = g.D.Desk.outside c.loop-x.desk in
    let new = g.D.Desk.outside c.add_number.new.desk in
    let point = c.args.space.now.point in
    let x = c.loop-x.x in
    let test = c.loop-x-test.true in
    let size = c.vars-x-end.ensures.is in
    let long = c.dimension-dimension.ensures.space.point_solves.one_each in
    let is : c.sign_of.result.now ++ decimal (c.from.result + 1) ≡ point_literal (get_or (enumerate_from 0 point) x (0, false)) =
    literal_is point x c.point-value.result c.sign_of.result.now (c.from.result + 1) (omega arith) (c.point-value.ensures ∙ ap (value_of point) c.new.ensures) c.sign_of.ensures (ap (λ n. n + 1) c.from.ensures) in
    each_taken point_literal (enumerate_from 0 point) x (0, false) old mid new c.args.waiting.now.items c.loop-x.waiting.items c.add_number.new.waiting.items (placed_in point x (omega arith)) c.loop-x.invariant
    (subst (λ (t : Bytes). Takes t mid c.loop-x.waiting.items new c.add_number.new.waiting.items) is c.in_ok-add_number.ensures)

pub returns : goal.returns
returns g c =
    let old = g.D.Desk.outside c.args.desk.now in
    let mid = g.D.Desk.outside c.loop-x.desk in
    let point = c.args.space.now.point in
    let size = c.vars-x-end.ensures.is in
    let past = c.loop-x-test.false in
    let long = c.dimension-dimension.ensures.space.point_solves.one_each in
    all_taken point_literal (enumerate_from 0 point) c.loop-x.x old mid c.args.waiting.now.items c.loop-x.waiting.items (all_placed point c.loop-x.x (omega arith)) c.loop-x.invariant
