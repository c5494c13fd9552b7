use Rattle.std.proofs.Common.{rules, subst, Err}
use Rattle.cx_desk.specs.declared.draining.DrainErr.TheVariants as drained
use Rattle.step_text.specs.Slots.{SlotState, DrainsRest}
use Rattle.step_text.proofs.SlotLaws.{over_already}
use Rattle.step_text.proofs.slot_reader.SlotReader.drain_from.Goals as goal

pub returns-then-is_past_limit : goal.returns-then-is_past_limit
returns-then-is_past_limit g c =
    let o = g.D.Desk.outside c.args.desk.now in
    subst (λ (x : SlotState). DrainsRest {T = Unit {0}} x.bytes o (Err drained.TooLong) o) c.self.view_is (over_already c.self.inside.bytes o (c.if-is_past_limit.ensures.0 (search rules)) c.self.invariant.2)
