use Rattle.std.proofs.Common.{refl, rules, ◌∙◌}
use Rattle.cnfx_reader.proofs.SlotFormulaLaws.{goes, passed_ended, reads, ready, ready_behind, stops, started_later}
use Rattle.cnfx_reader.proofs.slot_formula.SlotFormula.read_all.Goals as goal

pub loop-self-init : goal.loop-self-init
loop-self-init g c = record { read = c.requires.begun; started = c.requires.started }

pub loop-self-preserved-in-Ok-true : goal.loop-self-preserved-in-Ok-true
loop-self-preserved-in-Ok-true g c =
    let b = c.args.self.now.bytes in
    let o = g.D.Desk.outside c.args.desk.now in
    let mid = g.D.Desk.outside c.loop-self.desk in
    let behind = goes b.slot b.limit o c.loop-self.self mid c.loop-self.invariant.read c.pass_blanks-is_last.new.self (c.pass_blanks-is_last.ensures.on c.if-is_last.false) in
    let read = goes b.slot b.limit o c.pass_blanks-is_last.new.self mid behind c.take.new.self c.in-Ok-true.ensures.0 in
    record { read = read; started = started_later b.slot b.limit o c.take.new.self mid read c.requires.started }

pub loop-self-preserved : goal.loop-self-preserved
loop-self-preserved g c =
    let b = c.args.self.now.bytes in
    let o = g.D.Desk.outside c.args.desk.now in
    let mid = g.D.Desk.outside c.loop-self.desk in
    let new = g.D.Desk.outside c.read_twice.new.desk in
    let behind = goes b.slot b.limit o c.loop-self.self mid c.loop-self.invariant.read c.pass_blanks-is_last.new.self (c.pass_blanks-is_last.ensures.on c.if-is_last.false) in
    let taken = goes b.slot b.limit o c.pass_blanks-is_last.new.self mid behind c.take.new.self c.in-Ok-false.ensures.0 in
    let more = c.in_ok-read_twice-in-Ok-false.ensures in
    let read = reads b.slot b.limit o c.take.new.self mid taken c.read_twice.new.self new more.read more.within in
    record { read = read; started = started_later b.slot b.limit o _ new read c.requires.started }

pub returns-in_err-read_twice-in-Ok-false-clause-reads : goal.returns-in_err-read_twice-in-Ok-false-clause-reads
returns-in_err-read_twice-in-Ok-false-clause-reads g c =
    let b = c.args.self.now.bytes in
    let o = g.D.Desk.outside c.args.desk.now in
    let mid = g.D.Desk.outside c.loop-self.desk in
    let new = g.D.Desk.outside c.read_twice.new.desk in
    let behind = goes b.slot b.limit o c.loop-self.self mid c.loop-self.invariant.read c.pass_blanks-is_last.new.self (c.pass_blanks-is_last.ensures.on c.if-is_last.false) in
    let taken = goes b.slot b.limit o c.pass_blanks-is_last.new.self mid behind c.take.new.self c.in-Ok-false.ensures.0 in
    let failed = stops b.slot b.limit o c.take.new.self mid taken c.in_err-read_twice-in-Ok-false.field-0.0 c.read_twice.new.self new c.in_err-read_twice-in-Ok-false.ensures.read in
    search rules

pub returns-in-Err-clause-reads : goal.returns-in-Err-clause-reads
returns-in-Err-clause-reads g c =
    let b = c.args.self.now.bytes in
    let o = g.D.Desk.outside c.args.desk.now in
    let mid = g.D.Desk.outside c.loop-self.desk in
    let behind = goes b.slot b.limit o c.loop-self.self mid c.loop-self.invariant.read c.pass_blanks-is_last.new.self (c.pass_blanks-is_last.ensures.on c.if-is_last.false) in
    c.refused.ensures b.slot b.limit o c.pass_blanks-is_last.new.self c.take.new.self behind c.in-Err.ensures refl

pub returns-then-is_last-clause-reads : goal.returns-then-is_last-clause-reads
returns-then-is_last-clause-reads g c =
    let b = c.args.self.now.bytes in
    let o = g.D.Desk.outside c.args.desk.now in
    c.read_end.ensures.reads b.slot b.limit o c.loop-self.self c.loop-self.invariant.read (c.pass_blanks-is_last.ensures.last c.if-is_last.true)

pub read_end-requires : goal.read_end-requires
read_end-requires g c =
    let b = c.args.self.now.bytes in
    let mid = g.D.Desk.outside c.loop-self.desk in
    let read = c.loop-self.invariant.read in
    let last = c.pass_blanks-is_last.ensures.last c.if-is_last.true in
    let r = ready_behind c.loop-self.self.bytes c.pass_blanks-is_last.new.self.bytes mid last.passed (ready b.slot b.limit (g.D.Desk.outside c.args.desk.now) c.loop-self.self mid read c.requires.started) in
    record { started = r.0; within = r.1; fits = last.fits read.fits }

pub take-requires : goal.take-requires
take-requires g c = record {
  line = c.pass_blanks-is_last.ensures.line c.if-is_last.false;
  fits = (c.pass_blanks-is_last.ensures.on c.if-is_last.false).fits c.loop-self.invariant.read.fits;
}

pub read_twice-requires : goal.read_twice-requires
read_twice-requires g c =
    let b = c.args.self.now.bytes in
    let o = g.D.Desk.outside c.args.desk.now in
    let mid = g.D.Desk.outside c.loop-self.desk in
    let s = c.pass_blanks-is_last.new.self in
    let behind = goes b.slot b.limit o c.loop-self.self mid c.loop-self.invariant.read s (c.pass_blanks-is_last.ensures.on c.if-is_last.false) in
    let more = c.in-Ok-false.ensures.0 in
    let r = ready_behind s.bytes c.take.new.self.bytes mid more.passed (ready b.slot b.limit o s mid behind c.requires.started) in
    record { started = r.0; within = r.1; «open» = passed_ended s.bytes c.take.new.self.bytes more.passed ∙ c.pass_blanks-is_last.ensures.open c.if-is_last.false }

pub refused-requires : goal.refused-requires
refused-requires g c =
    let b = c.args.self.now.bytes in
    let o = g.D.Desk.outside c.args.desk.now in
    let mid = g.D.Desk.outside c.loop-self.desk in
    let s = c.pass_blanks-is_last.new.self in
    let behind = goes b.slot b.limit o c.loop-self.self mid c.loop-self.invariant.read s (c.pass_blanks-is_last.ensures.on c.if-is_last.false) in
    let r = ready_behind s.bytes c.take.new.self.bytes mid c.in-Err.ensures.passed (ready b.slot b.limit o s mid behind c.requires.started) in
    record { started = r.0; within = r.1 }
