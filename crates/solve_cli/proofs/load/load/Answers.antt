use Rattle.std.proofs.Common.{sym, ap, ◌∙◌, subst, Err}
use Rattle.std.proofs.lemmas.Result.{err_from_is_err_and}
use Rattle.solve_cli.proofs.Acting.{acts_then}
use Rattle.solve_cli.proofs.Works.{second_failed, loaded}
use Rattle.solve_cli.specs.Seen.{seen}
use Rattle.solve_cli.specs.Steps.{Acts, Loads}
use Rattle.solve_cli.proofs.load.load.Goals as goal

pub read_slot-requires : goal.read_slot-requires
read_slot-requires g c = record { started = c.in_ok-formula.ensures.ready.started }

pub returns-in_err-formula : goal.returns-in_err-formula
returns-in_err-formula g c = λ p is_formula is_second is_proof.
    let o = g.D.Desk.outside c.args.desk.now in
    let n = g.D.Desk.outside c.prepare.new.desk in
    let is = err_from_is_err_and c.from_residual.result c.from_residual.ensures.1 in
    subst (λ r. Acts c.args.limit o n (λ w. Loads p c.args.limit (seen w o) r (seen w n))) (sym (is.1 ∙ ap Err is.2)) (c.in_err-formula.ensures.prepares p is_formula is_second is_proof)

pub returns-in_err-second : goal.returns-in_err-second
returns-in_err-second g c = λ p is_formula is_second is_proof.
    let o = g.D.Desk.outside c.args.desk.now in
    let m = g.D.Desk.outside c.prepare.new.desk in
    let n = g.D.Desk.outside c.read_slot.new.desk in
    let e = c.in_err-second.field-0.0 in
    let is = err_from_is_err_and c.from_residual-in_err-second.result c.from_residual-in_err-second.ensures.1 in
    subst (λ r. Acts c.args.limit o n (λ w. Loads p c.args.limit (seen w o) r (seen w n))) (sym (is.1 ∙ ap Err is.2))
    (acts_then (c.in_ok-formula.ensures.prepares p is_formula is_second is_proof) (c.in_err-second.ensures c.args.second c.in_ok-formula.ensures.ready)
    (λ w begun h. second_failed p c.args.second c.args.limit (seen w o) c.in_ok-formula.formula (seen w m) e (seen w n) is_second begun.0 begun.1 h))

pub returns : goal.returns
returns g c = λ p is_formula is_second is_proof.
    let o = g.D.Desk.outside c.args.desk.now in
    let m = g.D.Desk.outside c.prepare.new.desk in
    let n = g.D.Desk.outside c.read_slot.new.desk in
    acts_then (c.in_ok-formula.ensures.prepares p is_formula is_second is_proof) (c.in_ok-second.ensures c.args.second c.in_ok-formula.ensures.ready)
    (λ w begun h. loaded p c.args.second c.args.limit (seen w o) c.in_ok-formula.formula c.in_ok-second.second (seen w m) (seen w n) is_second begun.0 begun.1 h)
