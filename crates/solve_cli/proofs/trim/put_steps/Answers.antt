use Rattle.std.proofs.Common.{subst, ap, length, arith}
use Rattle.std.specs.List.{AllByRecursion}
use Rattle.std.proofs.lemmas.Result.{err_from_is_err_and}
use Rattle.cx_texts.specs.Printed.{HasProofText}
use Rattle.solve_cli.proofs.PutSteps.{none_put, one_put, all_put, one_failed}
use Rattle.solve_cli.proofs.trim.put_steps.Goals as goal

pub each-init : goal.each-init
each-init g c = record { put = none_put c.args.steps.steps (g.D.Desk.outside c.args.desk.now); texts = c.requires }

pub put_kept-requires : goal.put_kept-requires
put_kept-requires g c =
    let taken = c.advance.ensures.taken c.each-test.true in
    (subst (λ steps. AllByRecursion HasProofText steps) taken c.each.invariant.texts).0

pub each-preserved : goal.each-preserved
each-preserved g c =
    let taken = c.advance.ensures.taken c.each-test.true in
    record {
      put = one_put c.args.steps.steps c.each.steps.steps c.advance.new.self.steps c.advance.new.self.here (g.D.Desk.outside c.args.desk.now) (g.D.Desk.outside c.each.desk)
          (g.D.Desk.outside c.put_kept.new.desk) c.each.invariant.put taken c.in_ok-put_kept.ensures;
      texts = (subst (λ steps. AllByRecursion HasProofText steps) taken c.each.invariant.texts).1;
    }

pub each-smaller : goal.each-smaller
each-smaller g c = omega (arith, ap length (c.advance.ensures.taken c.each-test.true))

pub returns-in_err-put_kept : goal.returns-in_err-put_kept
returns-in_err-put_kept g c =
    let taken = c.advance.ensures.taken c.each-test.true in
    let p = err_from_is_err_and c.from_residual.result c.from_residual.ensures.1 in
    rw p.1 (one_failed c.args.steps.steps c.each.steps.steps c.advance.new.self.steps c.advance.new.self.here (g.D.Desk.outside c.args.desk.now) (g.D.Desk.outside c.each.desk)
    (g.D.Desk.outside c.put_kept.new.desk) c.each.invariant.put taken c.in_err-put_kept.ensures)

pub returns : goal.returns
returns g c = all_put c.args.steps.steps c.each.steps.steps (g.D.Desk.outside c.args.desk.now) (g.D.Desk.outside c.each.desk) c.each.invariant.put (c.advance.ensures.end c.each-test.false)
