use Rattle.std.proofs.Common.{refl, arith}
use Rattle.step_text.specs.SlotAnswers.{PairLeaves}
use Rattle.step_text.proofs.AnswerLaws.{frame_of, gives_as, took_faults}
use Rattle.step_text.proofs.slot_text.SlotTextStepSource.next_step.Goals as goal

pub returns-clause-frame : goal.returns-clause-frame
returns-clause-frame g c =
    let o = g.D.Desk.outside c.args.self.now.desk.now in
    let p = g.D.Desk.outside c.next_from.new.desk in
    (refl, frame_of c.args.self.now.reader.bytes o c.next_from.result c.next_from.new.self.bytes p c.next_from.ensures.reads.kept c.next_from.ensures.reads.counted c.next_from.ensures.bounded.past)

pub returns-clause-step : goal.returns-clause-step
returns-clause-step g c = λ text may. gives_as (PairLeaves g.G.StepGrammar.steps text) (λ s. (s.reader, g.D.Desk.outside s.desk.now)) c.args.self.now _ c.next_from.result (c.next_from.ensures.texts text may).step

pub returns-clause-narrows : goal.returns-clause-narrows
returns-clause-narrows g c = λ text may. (c.next_from.ensures.texts text may).narrows.0

pub returns-clause-limit : goal.returns-clause-limit
returns-clause-limit g c = λ text may. (c.next_from.ensures.texts text may).narrows.1

pub returns-clause-long : goal.returns-clause-long
returns-clause-long g c = λ text may. (c.next_from.ensures.texts text may).narrows.2

pub returns-clause-stands : goal.returns-clause-stands
returns-clause-stands g c =
    let read = c.next_from.ensures in
    let o = g.D.Desk.outside c.args.self.now.desk.now in
    let p = g.D.Desk.outside c.next_from.new.desk in
    record { spent = read.refuses.spent; stuck = read.refuses.stuck; faults = took_faults c.args.self.now.reader.bytes.slot c.next_from.result o p read.reads.took }

pub returns-clause-place : goal.returns-clause-place
returns-clause-place g c =
    let read = c.next_from.ensures in
    record { rises = read.rises; within = read.bounded.within; far = omega (arith, read.bounded.few); bound = read.reads.kept.limit }
