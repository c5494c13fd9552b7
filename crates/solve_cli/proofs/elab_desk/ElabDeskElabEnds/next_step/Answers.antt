use Rattle.std.proofs.Common.{refl, arith, ◌∙◌}
use Rattle.cx_texts.specs.LogText.{log_steps}
use Rattle.step_text.specs.SlotAnswers.{PairLeaves}
use Rattle.step_text.proofs.AnswerLaws.{frame_of, gives_as, took_faults}
use Rattle.solve_cli.proofs.SlotTexts.{still_started}
use Rattle.solve_cli.proofs.TwoEnds.{read_on, steps_still, whole_still}
use Rattle.solve_cli.proofs.elab_desk.ElabDeskElabEnds.next_step.Goals as goal

pub invariant_of-self : goal.invariant_of-self
invariant_of-self g c =
    let s = c.args.self.now in
    let o = g.D.Desk.outside s.desk.now in
    let p = g.D.Desk.outside c.next_from.new.desk in
    let frame = frame_of s.reader.now.bytes o c.next_from.result c.next_from.new.self.bytes p c.next_from.ensures.reads.kept c.next_from.ensures.reads.counted c.next_from.ensures.bounded.past in
    record { started = still_started s.reader.now.bytes o c.next_from.new.self.bytes p frame s.started; whole = λ h. whole_still s.reader.now.bytes.slot frame.got o p frame.read ∙ s.whole h }

pub returns-clause-texts : goal.returns-clause-texts
returns-clause-texts g c = λ text may.
    let said = c.next_from.ensures.texts text may in
    record {
      step = gives_as (PairLeaves log_steps text) (λ e. (e.reader.now, g.D.Desk.outside e.desk.now)) c.args.self.now _ c.next_from.result said.step;
      narrows = said.narrows.0;
      limit = said.narrows.1;
      long = said.narrows.2;
    }

pub returns-clause-sink : goal.returns-clause-sink
returns-clause-sink g c =
    let s = c.args.self.now.reader.now.bytes in
    let o = g.D.Desk.outside c.args.self.now.desk.now in
    let p = g.D.Desk.outside c.next_from.new.desk in
    let frame = frame_of s o c.next_from.result c.next_from.new.self.bytes p c.next_from.ensures.reads.kept c.next_from.ensures.reads.counted c.next_from.ensures.bounded.past in
    record { steps = steps_still s.slot frame.got o p frame.read; faults = refl; failed = refl }

pub returns-clause-frame : goal.returns-clause-frame
returns-clause-frame g c =
    let o = g.D.Desk.outside c.args.self.now.desk.now in
    let p = g.D.Desk.outside c.next_from.new.desk in
    let s = c.args.self.now.reader.now.bytes in (
      refl,
      refl,
      read_on s c.args.self.now.failed o c.next_from.new.self.bytes p
          (frame_of s o c.next_from.result c.next_from.new.self.bytes p c.next_from.ensures.reads.kept c.next_from.ensures.reads.counted c.next_from.ensures.bounded.past),
    )

pub returns-clause-source : goal.returns-clause-source
returns-clause-source g c =
    let read = c.next_from.ensures in
    let o = g.D.Desk.outside c.args.self.now.desk.now in
    let p = g.D.Desk.outside c.next_from.new.desk in
    record { spent = read.refuses.spent; stuck = read.refuses.stuck; faults = took_faults c.args.self.now.reader.now.bytes.slot c.next_from.result o p read.reads.took }

pub returns-clause-place : goal.returns-clause-place
returns-clause-place g c =
    let read = c.next_from.ensures in
    record { rises = read.rises; within = read.bounded.within; far = omega (arith, read.bounded.few); bound = read.reads.kept.limit }
