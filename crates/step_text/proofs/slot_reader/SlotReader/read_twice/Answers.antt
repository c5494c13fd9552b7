use Rattle.std.proofs.Common.{subst, ap, ◌∙◌}
use Rattle.step_text.specs.Slots.{SlotState, ReadsOn, ReadingFails}
use Rattle.step_text.proofs.SlotLaws.{reads_on}
use Rattle.step_text.proofs.slot_reader.SlotReader.read_twice.Goals as goal

pub returns-in-Ok-clause-read : goal.returns-in-Ok-clause-read
returns-in-Ok-clause-read g c =
    let o = g.D.Desk.outside c.args.desk.now in
    let p = g.D.Desk.outside c.read_twice.new.desk in
    let s : SlotState = record { bytes = c.self.inside.bytes; line = c.self.inside.line; refused = c.self.inside.refused } in
    subst (λ (x : SlotState). ReadsOn x o (record s { bytes = c.read_twice.new.self }) p) c.self.view_is (reads_on s o c.read_twice.new.self p (ap (λ (x : SlotState). x.bytes.ended) c.self.view_is ∙ c.requires.open) c.in-Ok.ensures.read)

pub returns-in-Err-clause-read : goal.returns-in-Err-clause-read
returns-in-Err-clause-read g c =
    let o = g.D.Desk.outside c.args.desk.now in
    let p = g.D.Desk.outside c.read_twice.new.desk in
    subst (λ (x : SlotState). ReadingFails x.bytes o c.from-refusal.result c.read_twice.new.self p) c.self.view_is (c.in-Err.err, c.from-refusal.ensures, c.in-Err.ensures.read)
