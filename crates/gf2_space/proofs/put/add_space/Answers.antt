use Rattle.std.proofs.Common.{◌∷◌, ◌++◌, refl, subst, length, codes, flat_map, decimal}
use Rattle.std.specs.List.{enumerate_from}
use Rattle.std.proofs.lemmas.Result.{err_from_is_err_and}
use Rattle.cx_desk.specs.Outside.{Bytes}
use Rattle.model_out.specs.Waiting.{Takes, Fails}
use Rattle.model_out.proofs.Puts.{takes_more, fails_before, adds_more}
use Rattle.gf2_space.specs.Spaces.{AffineSpace}
use Rattle.gf2_space.specs.AffineText.{point_literal, line_end, vector_text, affine_text}
use Rattle.gf2_space.proofs.Printing.{piece_fails, first_of_five, two_of_five, three_of_five}
use Rattle.gf2_space.proofs.put.add_space.Goals as goal

head : AffineSpace → Bytes
head s = codes "s AFFINE " ++ decimal (length s.free)

next : Bytes
next = 10 ∷ codes "t"

literals : AffineSpace → Bytes
literals s = flat_map point_literal (enumerate_from 0 s.point)

lines : AffineSpace → Bytes
lines s = flat_map vector_text s.vectors

pub returns-in_err-add_number : goal.returns-in_err-add_number
unfolding head next literals lines
returns-in_err-add_number g c =
    let p = err_from_is_err_and c.from_residual.result c.from_residual.ensures.1 in
    let old = g.D.Desk.outside c.args.desk.now in
    let new = g.D.Desk.outside c.add_number.new.desk in
    let s = c.args.space.now in
    let u : Bytes = c.args.waiting.now.items in
    let first = subst (λ n. Fails (u ++ (codes "s AFFINE " ++ decimal n)) old new) c.dimension.ensures.count c.in_err-add_number.ensures in
    rw p.1
    (subst (λ (t : Bytes). Fails (u ++ t) old new) (first_of_five (head s) next (literals s) line_end (lines s)) (fails_before (head s) (next ++ (literals s ++ (line_end ++ lines s))) old new u first))

pub returns-in_err-add : goal.returns-in_err-add
unfolding head next literals lines
returns-in_err-add g c =
    let p = err_from_is_err_and c.from_residual-in_err-add.result c.from_residual-in_err-add.ensures.1 in
    let old = g.D.Desk.outside c.args.desk.now in
    let one = g.D.Desk.outside c.add_number.new.desk in
    let new = g.D.Desk.outside c.add.new.desk in
    let s = c.args.space.now in
    let u : Bytes = c.args.waiting.now.items in
    let a = subst (λ n. Takes (codes "s AFFINE " ++ decimal n) old u one c.add_number.new.waiting.items) c.dimension.ensures.count c.in_ok-add_number.ensures in
    rw p.1
    (piece_fails (head s) next (literals s ++ (line_end ++ lines s)) (affine_text s) old one new u c.add_number.new.waiting.items (two_of_five (head s) next (literals s) line_end (lines s)) a c.in_err-add.ensures)

pub returns-in_err-add_point : goal.returns-in_err-add_point
unfolding head next literals lines
returns-in_err-add_point g c =
    let p = err_from_is_err_and c.from_residual-in_err-add_point.result c.from_residual-in_err-add_point.ensures.1 in
    let old = g.D.Desk.outside c.args.desk.now in
    let one = g.D.Desk.outside c.add_number.new.desk in
    let two = g.D.Desk.outside c.add.new.desk in
    let new = g.D.Desk.outside c.add_point.new.desk in
    let s = c.args.space.now in
    let u : Bytes = c.args.waiting.now.items in
    let a = subst (λ n. Takes (codes "s AFFINE " ++ decimal n) old u one c.add_number.new.waiting.items) c.dimension.ensures.count c.in_ok-add_number.ensures in
    let b = takes_more (head s) next old one two u c.add_number.new.waiting.items c.add.new.waiting.items a c.in_ok-add.ensures in
    rw p.1
    (piece_fails (head s ++ next) (literals s) (line_end ++ lines s) (affine_text s) old two new u c.add.new.waiting.items (three_of_five (head s) next (literals s) line_end (lines s)) b c.in_err-add_point.ensures)

pub returns-in_err-add-2 : goal.returns-in_err-add-2
unfolding head next literals lines
returns-in_err-add-2 g c =
    let p = err_from_is_err_and c.from_residual-in_err-add-2.result c.from_residual-in_err-add-2.ensures.1 in
    let old = g.D.Desk.outside c.args.desk.now in
    let one = g.D.Desk.outside c.add_number.new.desk in
    let two = g.D.Desk.outside c.add.new.desk in
    let three = g.D.Desk.outside c.add_point.new.desk in
    let new = g.D.Desk.outside c.add-2.new.desk in
    let s = c.args.space.now in
    let u : Bytes = c.args.waiting.now.items in
    let a = subst (λ n. Takes (codes "s AFFINE " ++ decimal n) old u one c.add_number.new.waiting.items) c.dimension.ensures.count c.in_ok-add_number.ensures in
    let b = takes_more (head s) next old one two u c.add_number.new.waiting.items c.add.new.waiting.items a c.in_ok-add.ensures in
    let d = takes_more (head s ++ next) (literals s) old two three u c.add.new.waiting.items c.add_point.new.waiting.items b c.in_ok-add_point.ensures in
    rw p.1
    (piece_fails ((head s ++ next) ++ literals s) line_end (lines s) (affine_text s) old three new u c.add_point.new.waiting.items refl d c.in_err-add-2.ensures)

pub returns : goal.returns
unfolding head next literals lines
returns g c =
    let old = g.D.Desk.outside c.args.desk.now in
    let one = g.D.Desk.outside c.add_number.new.desk in
    let two = g.D.Desk.outside c.add.new.desk in
    let three = g.D.Desk.outside c.add_point.new.desk in
    let four = g.D.Desk.outside c.add-2.new.desk in
    let new = g.D.Desk.outside c.add_vectors.new.desk in
    let s = c.args.space.now in
    let u : Bytes = c.args.waiting.now.items in
    let a = subst (λ n. Takes (codes "s AFFINE " ++ decimal n) old u one c.add_number.new.waiting.items) c.dimension.ensures.count c.in_ok-add_number.ensures in
    let b = takes_more (head s) next old one two u c.add_number.new.waiting.items c.add.new.waiting.items a c.in_ok-add.ensures in
    let d = takes_more (head s ++ next) (literals s) old two three u c.add.new.waiting.items c.add_point.new.waiting.items b c.in_ok-add_point.ensures in
    let e = takes_more ((head s ++ next) ++ literals s) line_end old three four u c.add_point.new.waiting.items c.add-2.new.waiting.items d c.in_ok-add-2.ensures in
    adds_more (((head s ++ next) ++ literals s) ++ line_end) (lines s) old four new u c.add-2.new.waiting.items c.add_vectors.new.waiting.items c.add_vectors.result e c.add_vectors.ensures
