use Rattle.std.proofs.Common.{ap, sym, subst, ◌∙◌, Ok, Err, take}
use Rattle.std.proofs.lemmas.Result.{err_from_is_err_and}
use Rattle.cx_desk.specs.declared.desk.Port.TheVariants as port
use Rattle.cx_texts.specs.Printed.{printed_proof}
use Rattle.proof_trim.specs.declared.outcome.TrimOf.{TrimOf}
use Rattle.solve_cli.specs.declared.ending.Core.{Core}
use Rattle.solve_cli.specs.declared.ending.Ending.TheVariants as ending
use Rattle.solve_cli.specs.Seen.{seen}
use Rattle.solve_cli.specs.Steps.{Acts}
use Rattle.solve_cli.specs.SlotTexts.{IsRightTrimming, ReadsTrimmed, TrimsProof}
use Rattle.solve_cli.proofs.Acting.{acts_then, acts_as, acts_puts, acts_torn}
use Rattle.solve_cli.proofs.SlotTrims.{not_read, not_trimmed, trimmed_put, trimmed_torn}
use Rattle.solve_cli.proofs.trim.trim_proof.Goals as goal

pub put_trimmed-requires : goal.put_trimmed-requires
put_trimmed-requires g c = (subst (λ (t : TrimOf). IsRightTrimming c.args.formula.now t) c.in-Done.is c.in_ok-left.ensures.right).0

pub returns-in_err-left : goal.returns-in_err-left
returns-in_err-left g c = λ name ready.
    let f = c.args.formula.now in
    let limit = c.args.limit in
    let o = g.D.Desk.outside c.args.desk.now in
    let m = g.D.Desk.outside c.read_trimmed.new.desk in
    let is = err_from_is_err_and c.from_residual.result c.from_residual.ensures.1 in
    subst (λ x. Acts limit o m (λ w. TrimsProof f name limit (seen w o) x (seen w m))) (sym (is.1 ∙ ap Err is.2))
    (acts_as (c.in_err-left.ensures.read name ready) (λ w h. not_read f name limit (seen w o) _ (seen w m) h))

pub returns-in-Refused : goal.returns-in-Refused
returns-in-Refused g c = λ name ready.
    let f = c.args.formula.now in
    let limit = c.args.limit in
    let o = g.D.Desk.outside c.args.desk.now in
    let m = g.D.Desk.outside c.read_trimmed.new.desk in
    acts_as (subst (λ (t : TrimOf). Acts limit o m (λ w. ReadsTrimmed f name limit (seen w o) (Ok t) (seen w m))) c.in-Refused.is (c.in_ok-left.ensures.read name ready))
    (λ w h. not_trimmed f name limit (seen w o) c.in-Refused.step c.in-Refused.cause (seen w m) h)

pub returns-in-Ok : goal.returns-in-Ok
returns-in-Ok g c = λ name ready.
    let f = c.args.formula.now in
    let limit = c.args.limit in
    let o = g.D.Desk.outside c.args.desk.now in
    let m = g.D.Desk.outside c.read_trimmed.new.desk in
    let p = g.D.Desk.outside c.put_trimmed.new.desk in
    let t = c.in-Done.trimmed in
    let read = subst (λ (t : TrimOf). Acts limit o m (λ w. ReadsTrimmed f name limit (seen w o) (Ok t) (seen w m))) c.in-Done.is (c.in_ok-left.ensures.read name ready) in
    let right = subst (λ (t : TrimOf). IsRightTrimming f t) c.in-Done.is c.in_ok-left.ensures.right in
    subst (λ (x : Core). Acts limit o p (λ w. TrimsProof f name limit (seen w o) (Ok (ending.Trimmed x)) (seen w p))) (sym c.in-Ok.ensures.core)
    (acts_then read (acts_puts limit port.Proof (printed_proof t.steps.steps) m p c.in-Ok.ensures.puts) (λ w h puts. trimmed_put f name limit (seen w o) t w m h right p c.in-Ok.ensures.puts))

pub returns-in-Err : goal.returns-in-Err
returns-in-Err g c = λ name ready.
    let f = c.args.formula.now in
    let limit = c.args.limit in
    let o = g.D.Desk.outside c.args.desk.now in
    let m = g.D.Desk.outside c.read_trimmed.new.desk in
    let p = g.D.Desk.outside c.put_trimmed.new.desk in
    let t = c.in-Done.trimmed in
    let h = c.in-Err.ensures.puts in
    let read = subst (λ (t : TrimOf). Acts limit o m (λ w. ReadsTrimmed f name limit (seen w o) (Ok t) (seen w m))) c.in-Done.is (c.in_ok-left.ensures.read name ready) in
    let right = subst (λ (t : TrimOf). IsRightTrimming f t) c.in-Done.is c.in_ok-left.ensures.right in
    acts_then read (acts_torn limit port.Proof (take h.0 (printed_proof t.steps.steps)) m p h.2) (λ w read puts. trimmed_torn f name limit (seen w o) t w m read right p h)
