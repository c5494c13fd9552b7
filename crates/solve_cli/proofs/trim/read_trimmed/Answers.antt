use Rattle.std.proofs.Common.{ap, sym, subst, ◌∙◌, Result, Err, IfOk, IfErr}
use Rattle.std.proofs.lemmas.Result.{err_from_is_err_and}
use Rattle.cx_desk.specs.declared.desk.Slot.TheVariants.{Second}
use Rattle.cx_desk.specs.Outside.{Bytes}
use Rattle.cx_texts.specs.ProofText.{proof_steps}
use Rattle.step_text.specs.Slots.{SlotState, SlotFrame, IsPossible, is_too_long}
use Rattle.step_text.specs.SlotAnswers.{PairLeaves}
use Rattle.step_text.specs.SlotLeft.{some_text}
use Rattle.xlrup_check.specs.Verdicts.{HasCause}
use Rattle.proof_trim.specs.Outcomes.{AnswersAsJudged, IsTrimOf, WhereDone}
use Rattle.proof_trim.specs.declared.outcome.TrimOf.{TrimOf}
use Rattle.solve_cli.specs.declared.ending.Outcome.{Outcome}
use Rattle.solve_cli.specs.Seen.{seen}
use Rattle.solve_cli.specs.Steps.{Acts}
use Rattle.solve_cli.specs.SlotTexts.{IsRightTrimming, ReadsTrimmed, first_state}
use Rattle.solve_cli.proofs.Acting.{acts_then}
use Rattle.solve_cli.proofs.SlotTexts.{has_read, rest_acts, still_started}
use Rattle.solve_cli.proofs.SlotTrims.{TrimsText, right_of, right_with, trim_acts, trimmed_with}
use Rattle.solve_cli.proofs.trim.read_trimmed.Goals as goal

pub drain_from-rest-requires : goal.drain_from-rest-requires
drain_from-rest-requires g c =
    let o = g.D.Desk.outside c.args.desk.now in
    let m = g.D.Desk.outside c.trim_on-judged.new.desk in
    let s = c.trim_on-judged.new.reader.bytes in
    let frame = subst (λ (x : SlotState). SlotFrame x.bytes o s m) c.new-reader.ensures c.trim_on-judged.ensures.slot.frame in
    still_started (first_state Second c.args.limit).bytes o s m frame c.requires.started

pub returns-in_err-trimmed-clause-read : goal.returns-in_err-trimmed-clause-read
returns-in_err-trimmed-clause-read g c = λ name ready.
    let f = c.args.formula.now in
    let limit = c.args.limit in
    let o = g.D.Desk.outside c.args.desk.now in
    let m = g.D.Desk.outside c.trim_on-judged.new.desk in
    let s = c.trim_on-judged.new.reader.bytes in
    let r = c.trim_on-judged.result in
    let first = c.new-reader.ensures in
    let frame = subst (λ (x : SlotState). SlotFrame x.bytes o s m) first c.trim_on-judged.ensures.slot.frame in
    let judged = subst (λ (x : SlotState). (text : Bytes) → IsPossible s m text → IfOk r (AnswersAsJudged (PairLeaves proof_steps text) f (x, o))) first c.trim_on-judged.ensures.judged in
    let kept = subst (λ (x : SlotState). (text : Bytes) → IsPossible s m text → WhereDone r (IsTrimOf (PairLeaves proof_steps text) f (x, o))) first c.trim_on-judged.ensures.trimmed in
    let cause = subst (λ (x : SlotState). (text : Bytes) → IsPossible s m text → IfErr r (HasCause (is_too_long x.bytes o text) o.faults.reads m.faults.reads)) first c.trim_on-judged.ensures.cause in
    let trims = subst (λ (x : Result TrimOf Outcome). Acts limit o m (λ w. TrimsText f name limit (seen w o) x (seen w m))) (sym c.in_err-trimmed.ensures)
    (trim_acts f name limit o ready s m frame r judged kept cause c.trim_on-judged.ensures.slot.reads) in
    let is = err_from_is_err_and c.from_residual.result c.from_residual.ensures.1 in
    subst (λ x. Acts limit o m (λ w. ReadsTrimmed f name limit (seen w o) x (seen w m))) (sym (is.1 ∙ ap Err is.2)) trims

pub returns-clause-read : goal.returns-clause-read
returns-clause-read g c = λ name ready.
    let f = c.args.formula.now in
    let limit = c.args.limit in
    let o = g.D.Desk.outside c.args.desk.now in
    let m = g.D.Desk.outside c.trim_on-judged.new.desk in
    let p = g.D.Desk.outside c.drain_from-rest.new.desk in
    let t = c.in_ok-trimmed.trimmed in
    let s = c.trim_on-judged.new.reader.bytes in
    let r = c.trim_on-judged.result in
    let first = c.new-reader.ensures in
    let frame = subst (λ (x : SlotState). SlotFrame x.bytes o s m) first c.trim_on-judged.ensures.slot.frame in
    let judged = subst (λ (x : SlotState). (text : Bytes) → IsPossible s m text → IfOk r (AnswersAsJudged (PairLeaves proof_steps text) f (x, o))) first c.trim_on-judged.ensures.judged in
    let kept = subst (λ (x : SlotState). (text : Bytes) → IsPossible s m text → WhereDone r (IsTrimOf (PairLeaves proof_steps text) f (x, o))) first c.trim_on-judged.ensures.trimmed in
    let cause = subst (λ (x : SlotState). (text : Bytes) → IsPossible s m text → IfErr r (HasCause (is_too_long x.bytes o text) o.faults.reads m.faults.reads)) first c.trim_on-judged.ensures.cause in
    let trims = subst (λ (x : Result TrimOf Outcome). Acts limit o m (λ w. TrimsText f name limit (seen w o) x (seen w m))) (sym c.in_ok-trimmed.ensures)
    (trim_acts f name limit o ready s m frame r judged kept cause c.trim_on-judged.ensures.slot.reads) in
    let rest = rest_acts name limit o ready s m (has_read name limit o s m ready frame) c.drain_from-rest.result p c.drain_from-rest.ensures in
    subst (λ (x : Result TrimOf Outcome). Acts limit o p (λ w. ReadsTrimmed f name limit (seen w o) x (seen w p))) (sym c.drained.ensures)
    (acts_then trims rest (λ w j h. trimmed_with f name limit (seen w o) (seen w m) (seen w p) t c.drain_from-rest.result j h))

pub returns-clause-right : goal.returns-clause-right
returns-clause-right g c =
    let f = c.args.formula.now in
    let o = g.D.Desk.outside c.args.desk.now in
    let m = g.D.Desk.outside c.trim_on-judged.new.desk in
    let r = c.trim_on-judged.result in
    let some = some_text c.trim_on-judged.new.reader.bytes m in
    let kept = subst (λ (x : SlotState). WhereDone r (IsTrimOf (PairLeaves proof_steps some.0) f (x, o))) c.new-reader.ensures (c.trim_on-judged.ensures.trimmed some.0 some.1) in
    let right = subst (λ (x : Result TrimOf Outcome). IfOk x (IsRightTrimming f)) (sym c.in_ok-trimmed.ensures) (right_of f c.args.limit o some.0 r kept c.trim_on-judged.ensures.accepted c.trim_on-judged.ensures.core) in
    subst (λ (x : Result TrimOf Outcome). IfOk x (IsRightTrimming f)) (sym c.drained.ensures) (right_with f c.in_ok-trimmed.trimmed c.drain_from-rest.result right)
