use Rattle.std.proofs.Common.{◌≡◌, [], ap, subst, arith}
use Rattle.std.proofs.lemmas.Result.{err_from_is_err_and}
use Rattle.cx_base.specs.declared.constraint.Constraint.TheVariants.{Clause}
use Rattle.cx_desk.specs.Outside.{Bytes}
use Rattle.cx_desk.specs.Calls.{gained}
use Rattle.cx_desk.proofs.Moves.{pieces-fail}
use Rattle.cnfx_reader.specs.PrintedFormula.{printed_constraint}
use Rattle.cnfx_reader.proofs.Groups.{line_put}
use Rattle.cnfx_reader.proofs.Puts.{Fails}
use Rattle.cnfx_reader.proofs.printing.put_each.Goals as goal

pub loop-place-preserved : goal.loop-place-preserved
loop-place-preserved g c = λ start h.
    let before = g.D.Desk.outside c.loop-place.desk in
    let after = g.D.Desk.outside c.put_constraint.new.desk in
    let now = subst (λ (b : Bytes). after ≡ gained c.args.port b before) (ap printed_constraint c.item.ensures.item) c.in_ok-put_constraint.ensures in
    line_put printed_constraint c.args.formula.now.constraints c.loop-place.place (Clause []) (omega arith) c.args.port start before after (c.loop-place.invariant start h) now

pub returns-in_err-put_constraint : goal.returns-in_err-put_constraint
returns-in_err-put_constraint g c =
    let p = err_from_is_err_and c.from_residual.result c.from_residual.ensures.1 in
    let before = g.D.Desk.outside c.loop-place.desk in
    let after = g.D.Desk.outside c.put_constraint.new.desk in
    let fault = subst (λ (b : Bytes). Fails c.args.port b before after) (ap printed_constraint c.item.ensures.item) c.in_err-put_constraint.ensures in
    λ start h. rw p.1 (pieces-fail printed_constraint c.args.formula.now.constraints c.loop-place.place (Clause []) c.args.port start before after (omega arith) (c.loop-place.invariant start h) fault)
