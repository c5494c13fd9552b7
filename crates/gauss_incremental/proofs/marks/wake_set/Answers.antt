use Rattle.std.proofs.Common.{◌∙◌, sym, arith}
use Rattle.gauss_incremental.proofs.Listing.{woken_more, woken_none, woken_set}
use Rattle.gauss_incremental.proofs.marks.wake_set.Goals as goal

pub loop-slot-init : goal.loop-slot-init
loop-slot-init c = woken_none c.args.set.now c.args.columns.now.basics.now c.args.columns.now.watched.now c.args.line.now.flags c.args.column c.args.step

pub wake_slot-requires-clause-same : goal.wake_slot-requires-clause-same
wake_slot-requires-clause-same c = c.requires.same ∙ sym c.loop-slot.invariant.long

pub wake_slot-requires-clause-alike : goal.wake_slot-requires-clause-alike
wake_slot-requires-clause-alike c = c.requires.alike ∙ sym c.loop-slot.invariant.long

pub loop-slot-preserved : goal.loop-slot-preserved
loop-slot-preserved c =
    let found = c.in-Some.ensures in
    woken_more c.args.set.now c.args.columns.now.basics.now c.args.columns.now.watched.now c.args.line.now.flags c.loop-slot.line.flags c.wake_slot.new.line.flags c.args.column c.args.step c.loop-slot.from c.in-Some.slot
    c.loop-slot.invariant found.0 found.1 c.wake_slot.ensures.wakes c.wake_slot.ensures.long

pub loop-slot-smaller : goal.loop-slot-smaller
loop-slot-smaller c = let found = c.in-Some.ensures in let inside = found.0 in let first = found.1 in let low = first.low in omega arith

pub returns-clause-wakes : goal.returns-clause-wakes
returns-clause-wakes c =
    woken_set c.args.set.now c.args.columns.now.basics.now c.args.columns.now.watched.now c.args.line.now.flags c.loop-slot.line.flags c.args.column c.args.step c.loop-slot.from c.loop-slot.invariant
    c.requires.step c.requires.some c.in_default.ensures

pub returns-clause-long : goal.returns-clause-long
returns-clause-long c = c.loop-slot.invariant.long
