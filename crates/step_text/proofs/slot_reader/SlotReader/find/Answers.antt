use Rattle.std.proofs.Common.{◌≡◌, ◌∙◌, sym, ap, subst, ◌≤◌, ◌-◌, ◌+◌, ℕ, Bool, true, cond, Err, arith}
use Rattle.std.proofs.lemmas.Result.{err_from_is_err_and}
use Rattle.cx_desk.specs.Outside.{started_in}
use Rattle.cx_desk.specs.SlotBytes.{taken_by, to_read}
use Rattle.step_text.specs.Slots.{SlotState, ReadsOn, ReadingFails}
use Rattle.step_text.proofs.AnswerLaws.{answer_then, failed_answer}
use Rattle.step_text.proofs.SlotLaws.{reads_itself, reads_then, started_still}
use Rattle.step_text.proofs.slot_reader.SlotReader.find.Goals as goal

pub loop-answer-init : goal.loop-answer-init
loop-answer-init g c = record {
  on = reads_itself c.args.self.now (g.D.Desk.outside c.args.desk.now);
  started = c.requires.started;
  fresh = c.requires.fresh;
  within = c.requires.within;
}

pub returns-in-Some : goal.returns-in-Some
returns-in-Some g c =
    let steps = g.G.StepGrammar.steps in
    let old = g.D.Desk.outside c.args.desk.now in
    let mid = g.D.Desk.outside c.loop-answer.desk in
    let before = reads_then c.args.self.now old c.loop-answer.self mid c.pass_blanks.new.self mid c.loop-answer.invariant.on (c.pass_blanks.ensures.on mid) in
    answer_then steps c.args.self.now old c.pass_blanks.new.self mid c.in-Some.answer c.take_found.new.self mid before (c.in-Some.ensures.answer mid)

pub read_twice-requires-clause-within : goal.read_twice-requires-clause-within
read_twice-requires-clause-within g c =
    let mid = g.D.Desk.outside c.loop-answer.desk in
    let on = c.pass_blanks.ensures.on mid in
    let now : taken_by c.pass_blanks.new.self.bytes ≤ c.pass_blanks.new.self.bytes.limit = omega (arith, c.pass_blanks.ensures.taken, on.kept.limit, c.loop-answer.invariant.within) in
    subst (λ (x : SlotState). taken_by x.bytes ≤ x.bytes.limit) (sym c.in-None.ensures.answer.0) now

pub loop-answer-preserved : goal.loop-answer-preserved
loop-answer-preserved g c =
    let old = g.D.Desk.outside c.args.desk.now in
    let mid = g.D.Desk.outside c.loop-answer.desk in
    let new = g.D.Desk.outside c.read_twice.new.desk in
    let before = reads_then c.args.self.now old c.loop-answer.self mid c.pass_blanks.new.self mid c.loop-answer.invariant.on (c.pass_blanks.ensures.on mid) in
    let more = subst (λ (x : SlotState). ReadsOn x mid c.read_twice.new.self new) c.in-None.ensures.answer.0 c.in_ok-read_twice-in-None.ensures.read in
    let on = reads_then c.args.self.now old c.pass_blanks.new.self mid c.read_twice.new.self new before more in
    record {
      on = on;
      started = started_still c.args.self.now old c.read_twice.new.self new on c.requires.started;
      fresh = on.refused ∙ c.requires.fresh;
      within = c.in_ok-read_twice-in-None.ensures.within;
    }

pub returns-in_err-read_twice-in-None : goal.returns-in_err-read_twice-in-None
returns-in_err-read_twice-in-None g c =
    let steps = g.G.StepGrammar.steps in
    let old = g.D.Desk.outside c.args.desk.now in
    let mid = g.D.Desk.outside c.loop-answer.desk in
    let new = g.D.Desk.outside c.read_twice.new.desk in
    let refusal = c.in_err-read_twice-in-None.field-0.0 in
    let before = reads_then c.args.self.now old c.loop-answer.self mid c.pass_blanks.new.self mid c.loop-answer.invariant.on (c.pass_blanks.ensures.on mid) in
    let stops = subst (λ (x : SlotState). ReadingFails x.bytes mid refusal c.read_twice.new.self.bytes new) c.in-None.ensures.answer.0 c.in_err-read_twice-in-None.ensures.read in
    let fails = answer_then steps c.args.self.now old c.pass_blanks.new.self mid (Err refusal) c.read_twice.new.self new before (failed_answer steps c.pass_blanks.new.self mid refusal c.read_twice.new.self new c.in-None.ensures.answer.1 stops) in
    let failed = err_from_is_err_and c.from_residual.result c.from_residual.ensures.1 in
    rw (failed.1, failed.2) fails

pub take_found-requires-clause-fresh : goal.take_found-requires-clause-fresh
take_found-requires-clause-fresh g c = (c.pass_blanks.ensures.on (g.D.Desk.outside c.loop-answer.desk)).refused ∙ c.loop-answer.invariant.fresh

pub read_twice-requires-clause-started : goal.read_twice-requires-clause-started
read_twice-requires-clause-started g c =
    let mid = g.D.Desk.outside c.loop-answer.desk in
    subst (λ (x : SlotState). started_in x.bytes.slot mid.started ≡ true) (sym c.in-None.ensures.answer.0)
    (started_still c.loop-answer.self mid c.pass_blanks.new.self mid (c.pass_blanks.ensures.on mid) c.loop-answer.invariant.started)

pub loop-answer-smaller : goal.loop-answer-smaller
loop-answer-smaller g c =
    let on = c.pass_blanks.ensures.on (g.D.Desk.outside c.loop-answer.desk) in
    let left : ℕ → ℕ → Bool → ℕ = λ l t e. (l - t) + cond e 0 1 in
    let same : to_read c.pass_blanks.new.self.bytes ≡ to_read c.loop-answer.self.bytes = λ i. left (on.kept.limit i) (c.pass_blanks.ensures.taken i) (c.pass_blanks.ensures.ended i) in
    let before : to_read c.take_found.new.self.bytes ≡ to_read c.pass_blanks.new.self.bytes = ap (λ (x : SlotState). to_read x.bytes) c.in-None.ensures.answer.0 in
    omega (arith, c.in_ok-read_twice-in-None.ensures.falls, before, same)
