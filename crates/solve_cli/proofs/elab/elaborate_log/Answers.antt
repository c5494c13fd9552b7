use Rattle.std.proofs.Common.{ap, sym, subst, ◌∙◌, Result, Err, IfOk, IfErr}
use Rattle.std.proofs.lemmas.Result.{err_from_is_err_and}
use Rattle.solve_cli.specs.declared.ending.Ending.{Ending}
use Rattle.solve_cli.specs.declared.ending.Outcome.{Outcome}
use Rattle.solve_cli.specs.Seen.{seen}
use Rattle.solve_cli.specs.Steps.{Acts}
use Rattle.solve_cli.specs.SlotTexts.{Elaborates}
use Rattle.solve_cli.proofs.Acting.{acts_then, acts_as}
use Rattle.solve_cli.proofs.SlotTexts.{rest_acts}
use Rattle.solve_cli.proofs.Gaining.{LeftWith, elaboration_failed, elaboration_left, log_with}
use Rattle.solve_cli.proofs.elab.elaborate_log.Goals as goal

pub returns-in_err-ending : goal.returns-in_err-ending
returns-in_err-ending g c = λ name ready.
    let f = c.args.formula.now in
    let limit = c.args.limit in
    let o = g.D.Desk.outside c.args.desk.now in
    let m = g.D.Desk.outside c.elaborate_on-judged.new.desk in
    let r = c.elaborate_on-judged.result in
    let made = c.elaborate_on-judged.ensures.elaborated name limit c.new-reader.ensures ready in
    let failed = subst (λ (x : Result Ending Outcome). Acts limit o m (λ w. IfErr x (λ e. Elaborates f name limit (seen w o) (Err e) (seen w m)))) (sym c.in_err-ending.ensures)
    (acts_as made (λ w h. elaboration_failed f name limit (seen w o) (seen w m) r h)) in
    let is = err_from_is_err_and c.from_residual.result c.from_residual.ensures.1 in
    subst (λ x. Acts limit o m (λ w. Elaborates f name limit (seen w o) x (seen w m))) (sym (is.1 ∙ ap Err is.2)) failed

pub returns : goal.returns
returns g c = λ name ready.
    let f = c.args.formula.now in
    let limit = c.args.limit in
    let o = g.D.Desk.outside c.args.desk.now in
    let m = g.D.Desk.outside c.elaborate_on-judged.new.desk in
    let p = g.D.Desk.outside c.drain_from-rest.new.desk in
    let s = c.elaborate_on-judged.new.reader.bytes in
    let r = c.elaborate_on-judged.result in
    let e = c.in_ok-ending.ending in
    let made = c.elaborate_on-judged.ensures.elaborated name limit c.new-reader.ensures ready in
    let left = subst (λ (x : Result Ending Outcome). Acts limit o m (λ w. IfOk x (LeftWith f name limit (seen w o) (seen w m)))) (sym c.in_ok-ending.ensures)
    (acts_as made (λ w h. elaboration_left f name limit (seen w o) (seen w m) r h)) in
    let rest = rest_acts name limit o ready s m (c.elaborate_on-judged.ensures.read name limit c.new-reader.ensures ready) c.drain_from-rest.result p c.drain_from-rest.ensures in
    subst (λ (x : Result Ending Outcome). Acts limit o p (λ w. Elaborates f name limit (seen w o) x (seen w p))) (sym c.drained.ensures)
    (acts_then left rest (λ w l h. log_with f name limit (seen w o) (seen w m) e c.drain_from-rest.result (seen w p) l h))
