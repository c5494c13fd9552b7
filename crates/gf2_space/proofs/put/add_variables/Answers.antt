use Rattle.std.proofs.Common.{◌≡◌, subst, get_or, ◌++◌, ℕ, List, ◌<◌, length}
use Rattle.model_out.specs.Waiting.{Takes, Fails}
use Rattle.std.proofs.lemmas.Result.{err_from_is_err_and}
use Rattle.gf2_space.specs.AffineText.{listed_variable}
use Rattle.gf2_space.proofs.Printing.{each_taken, each_fails, all_taken}
use Rattle.gf2_space.proofs.put.add_variables.Goals as goal

read : (xs : List ℕ) (i n : ℕ) → n ≡ get_or xs i 0 → i < length xs → n ≡ get_or xs i 0
read xs i n e lt = e

pub returns-in_err-add_number : goal.returns-in_err-add_number
returns-in_err-add_number g c =
    let p = err_from_is_err_and c.from_residual.result c.from_residual.ensures.1 in
    let old = g.D.Desk.outside c.args.desk.now in
    let mid = g.D.Desk.outside c.loop-place.desk in
    let new = g.D.Desk.outside c.add_number.new.desk in
    rw p.1 (each_fails listed_variable c.args.variables.now c.loop-place.place 0 old mid new c.args.waiting.now.items c.loop-place.waiting.items c.loop-place-test.true c.loop-place.invariant (subst (λ n. Fails (c.loop-place.waiting.items ++ listed_variable n) mid new) (read c.args.variables.now c.loop-place.place c.from.result c.from.ensures c.loop-place-test.true) c.in_err-add_number.ensures))

pub loop-place-preserved : goal.loop-place-preserved
loop-place-preserved g c =
    let old = g.D.Desk.outside c.args.desk.now in
    let mid = g.D.Desk.outside c.loop-place.desk in
    let new = g.D.Desk.outside c.add_number.new.desk in
    each_taken listed_variable c.args.variables.now c.loop-place.place 0 old mid new c.args.waiting.now.items c.loop-place.waiting.items c.add_number.new.waiting.items c.loop-place-test.true c.loop-place.invariant
    (subst (λ n. Takes (listed_variable n) mid c.loop-place.waiting.items new c.add_number.new.waiting.items) (read c.args.variables.now c.loop-place.place c.from.result c.from.ensures c.loop-place-test.true) c.in_ok-add_number.ensures)

pub returns : goal.returns
returns g c =
    let old = g.D.Desk.outside c.args.desk.now in
    let mid = g.D.Desk.outside c.loop-place.desk in
    all_taken listed_variable c.args.variables.now c.loop-place.place old mid c.args.waiting.now.items c.loop-place.waiting.items c.loop-place-test.false c.loop-place.invariant
