use Rattle.std.proofs.Common.{◌≡◌, ◌∙◌, ◌++◌, subst, decimal}
use Rattle.std.proofs.lemmas.Result.{err_from_is_err_and}
use Rattle.cx_desk.specs.Outside.{Bytes}
use Rattle.model_out.specs.Waiting.{Adds}
use Rattle.model_out.proofs.Puts.{fails_before, adds_more}
use Rattle.gf2_space.proofs.put.add_number.Goals as goal

pub returns-in_err-add : goal.returns-in_err-add
returns-in_err-add g c =
    let p = err_from_is_err_and c.from_residual.result c.from_residual.ensures.1 in
    let old = g.D.Desk.outside c.args.desk.now in
    let new = g.D.Desk.outside c.add.new.desk in
    rw p.1 (fails_before c.args.before.now (decimal c.args.number) old new c.args.waiting.now.items c.in_err-add.ensures)

pub returns : goal.returns
returns g c =
    let old = g.D.Desk.outside c.args.desk.now in
    let mid = g.D.Desk.outside c.add.new.desk in
    let new = g.D.Desk.outside c.add-2.new.desk in
    let number : c.as_bytes.result.now ≡ decimal c.args.number = c.as_bytes.ensures.value ∙ c.format-text.ensures.text in
    subst (λ (t : Bytes). Adds (c.args.before.now ++ t) old c.args.waiting.now.items c.add-2.result new c.add-2.new.waiting.items) number
    (adds_more c.args.before.now c.as_bytes.result.now old mid new c.args.waiting.now.items c.add.new.waiting.items c.add-2.new.waiting.items c.add-2.result c.in_ok-add.ensures c.add-2.ensures)
