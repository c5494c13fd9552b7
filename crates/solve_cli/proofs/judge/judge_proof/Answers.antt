use Rattle.std.proofs.Common.{ap, sym, subst, ◌∙◌, Result, Err, IfOk, IfErr}
use Rattle.std.proofs.lemmas.Result.{err_from_is_err_and}
use Rattle.cx_desk.specs.declared.desk.Slot.TheVariants.{Second}
use Rattle.cx_desk.specs.Outside.{Bytes}
use Rattle.cx_texts.specs.ProofText.{proof_steps}
use Rattle.step_text.specs.Slots.{SlotState, SlotFrame, IsPossible, is_too_long}
use Rattle.step_text.specs.SlotAnswers.{PairLeaves}
use Rattle.xlrup_check.specs.Verdicts.{IsJudgedBy, HasCause}
use Rattle.solve_cli.specs.declared.ending.Ending.{Ending}
use Rattle.solve_cli.specs.declared.ending.Outcome.{Outcome}
use Rattle.solve_cli.specs.Seen.{seen}
use Rattle.solve_cli.specs.Steps.{Acts}
use Rattle.solve_cli.specs.SlotTexts.{JudgesProof, first_state}
use Rattle.solve_cli.proofs.Acting.{acts_then}
use Rattle.solve_cli.proofs.SlotTexts.{Checks, has_read, check_acts, rest_acts, judged_with, still_started}
use Rattle.solve_cli.proofs.judge.judge_proof.Goals as goal

pub drain_from-rest-requires : goal.drain_from-rest-requires
drain_from-rest-requires g c =
    let o = g.D.Desk.outside c.args.desk.now in
    let m = g.D.Desk.outside c.check_on-judged.new.desk in
    let s = c.check_on-judged.new.reader.bytes in
    let frame = subst (λ (x : SlotState). SlotFrame x.bytes o s m) c.new-reader.ensures c.check_on-judged.ensures.slot.frame in
    still_started (first_state Second c.args.limit).bytes o s m frame c.requires.started

pub returns-in_err-ending : goal.returns-in_err-ending
returns-in_err-ending g c = λ name ready.
    let f = c.args.formula.now in
    let limit = c.args.limit in
    let o = g.D.Desk.outside c.args.desk.now in
    let m = g.D.Desk.outside c.check_on-judged.new.desk in
    let s = c.check_on-judged.new.reader.bytes in
    let r = c.check_on-judged.result in
    let first = c.new-reader.ensures in
    let frame = subst (λ (x : SlotState). SlotFrame x.bytes o s m) first c.check_on-judged.ensures.slot.frame in
    let judged = subst (λ (x : SlotState). (text : Bytes) → IsPossible s m text → IfOk r (IsJudgedBy (PairLeaves proof_steps text) f (x, o))) first c.check_on-judged.ensures.judged in
    let cause = subst (λ (x : SlotState). (text : Bytes) → IsPossible s m text → IfErr r (HasCause (is_too_long x.bytes o text) o.faults.reads m.faults.reads)) first c.check_on-judged.ensures.cause in
    let checks = subst (λ (x : Result Ending Outcome). Acts limit o m (λ w. Checks f name limit (seen w o) x (seen w m))) (sym c.in_err-ending.ensures) (check_acts f name limit o ready s m frame r judged cause c.check_on-judged.ensures.slot.reads) in
    let is = err_from_is_err_and c.from_residual.result c.from_residual.ensures.1 in
    subst (λ x. Acts limit o m (λ w. JudgesProof f name limit (seen w o) x (seen w m))) (sym (is.1 ∙ ap Err is.2)) checks

pub returns : goal.returns
returns g c = λ name ready.
    let f = c.args.formula.now in
    let limit = c.args.limit in
    let o = g.D.Desk.outside c.args.desk.now in
    let m = g.D.Desk.outside c.check_on-judged.new.desk in
    let p = g.D.Desk.outside c.drain_from-rest.new.desk in
    let s = c.check_on-judged.new.reader.bytes in
    let r = c.check_on-judged.result in
    let first = c.new-reader.ensures in
    let e = c.in_ok-ending.ending in
    let frame = subst (λ (x : SlotState). SlotFrame x.bytes o s m) first c.check_on-judged.ensures.slot.frame in
    let judged = subst (λ (x : SlotState). (text : Bytes) → IsPossible s m text → IfOk r (IsJudgedBy (PairLeaves proof_steps text) f (x, o))) first c.check_on-judged.ensures.judged in
    let cause = subst (λ (x : SlotState). (text : Bytes) → IsPossible s m text → IfErr r (HasCause (is_too_long x.bytes o text) o.faults.reads m.faults.reads)) first c.check_on-judged.ensures.cause in
    let checks = subst (λ (x : Result Ending Outcome). Acts limit o m (λ w. Checks f name limit (seen w o) x (seen w m))) (sym c.in_ok-ending.ensures) (check_acts f name limit o ready s m frame r judged cause c.check_on-judged.ensures.slot.reads) in
    let rest = rest_acts name limit o ready s m (has_read name limit o s m ready frame) c.drain_from-rest.result p c.drain_from-rest.ensures in
    subst (λ (x : Result Ending Outcome). Acts limit o p (λ w. JudgesProof f name limit (seen w o) x (seen w p))) (sym c.drained.ensures)
    (acts_then checks rest (λ w j h. judged_with f name limit (seen w o) (seen w m) (seen w p) e c.drain_from-rest.result j h))
