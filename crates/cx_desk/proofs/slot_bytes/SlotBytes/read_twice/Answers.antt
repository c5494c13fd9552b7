use Rattle.std.proofs.Common.{◌<◌, ◌≤◌, arith}
use Rattle.cx_desk.proofs.SlotLaws.{read_then, stops_then}
use Rattle.cx_desk.proofs.slot_bytes.SlotBytes.read_twice.Goals as goal

pub loop-self-preserved : goal.loop-self-preserved
loop-self-preserved g c =
    let old = g.D.Desk.outside c.args.desk.now in
    let mid = g.D.Desk.outside c.loop-self.desk in
    let new = g.D.Desk.outside c.read_more-in-loop-self.new.desk in
    record {
      on = read_then c.args.self.now old c.loop-self.self mid c.read_more-in-loop-self.new.self new c.loop-self.invariant.on c.in_ok-read_more-2.ensures.read;
      within = c.in_ok-read_more-2.ensures.within;
      falls = omega (arith, c.in_ok-read_more-2.ensures.falls, c.loop-self.invariant.falls);
    }

pub returns-in_err-read_more-2-clause-read : goal.returns-in_err-read_more-2-clause-read
returns-in_err-read_more-2-clause-read g c =
    let old = g.D.Desk.outside c.args.desk.now in
    let mid = g.D.Desk.outside c.loop-self.desk in
    let new = g.D.Desk.outside c.read_more-in-loop-self.new.desk in
    let stops = stops_then c.args.self.now old c.loop-self.self mid c.in_err-read_more-2.field-0.0 c.read_more-in-loop-self.new.self new c.loop-self.invariant.on c.in_err-read_more-2.ensures.read in
    search Rattle.std.proofs.Common.rules
