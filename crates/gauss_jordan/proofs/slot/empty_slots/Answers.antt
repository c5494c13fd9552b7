use Rattle.std.proofs.Common.{◌≡◌, ◌∙◌, arith}
use Rattle.gauss_jordan.proofs.ScratchEvents.{empty_none, empty_more}
use Rattle.gauss_jordan.proofs.slot.empty_slots.Goals as goal

pub loop-init : goal.loop-init
loop-init c = rw c.new-slots.ensures.items (empty_none c.args.vars c.args.parities)

pub loop-preserved : goal.loop-preserved
loop-preserved c = empty_more c.args.vars c.args.parities c.loop.slots.items c.push.new.self.items c.loop.counter c.in_ok-empty_slot.field-0 c.loop.invariant c.in_ok-push.ensures.items c.in_ok-empty_slot.ensures

pub returns : goal.returns
returns c =
    let all = c.loop.invariant in
    let end : c.loop.counter ≡ c.args.count = omega (arith, c.loop.auto.counter-end, c.loop-test.false) in
    record { count = all.long ∙ end; empty = λ k d lt. all.each k d (omega arith) }
