use Rattle.std.proofs.Common.{ℕ, ◌+◌, ◌-◌, ◌<◌, ◌≤◌, ◌∙◌, sym, subst, arith}
use Rattle.gauss_incremental.proofs.Listing.{slot_all, slot_more, slot_none}
use Rattle.gauss_incremental.proofs.marks.wake_slot.Goals as goal

steps_nearer : {at step end : ℕ} → at < end → 1 ≤ step → end - (at + step) < end - at
steps_nearer lt some = omega arith

pub loop-row-init : goal.loop-row-init
loop-row-init c = slot_none c.args.columns.now.basics.now c.args.columns.now.watched.now c.args.column c.args.slot c.args.step c.args.line.now.flags

pub wake_row-requires-clause-same : goal.wake_row-requires-clause-same
wake_row-requires-clause-same c = c.requires.same ∙ sym c.loop-row.invariant.long

pub wake_row-requires-clause-alike : goal.wake_row-requires-clause-alike
wake_row-requires-clause-alike c = c.requires.alike ∙ sym c.loop-row.invariant.long

pub loop-row-preserved : goal.loop-row-preserved
loop-row-preserved c =
    slot_more c.args.columns.now.basics.now c.args.columns.now.watched.now c.args.column c.args.slot c.args.step c.args.line.now.flags c.loop-row.line.flags c.wake_row.new.line.flags c.loop-row.row c.loop-row.invariant
    c.wake_row.ensures.wakes c.wake_row.ensures.long

pub loop-row-smaller : goal.loop-row-smaller
loop-row-smaller c = steps_nearer (subst (λ n. c.loop-row.row < n) (c.rows.ensures ∙ c.loop-row.invariant.long) c.loop-row-test.true) c.requires.some

pub returns-clause-wakes : goal.returns-clause-wakes
returns-clause-wakes c =
    slot_all c.args.columns.now.basics.now c.args.columns.now.watched.now c.args.column c.args.slot c.args.step c.args.line.now.flags c.loop-row.line.flags c.loop-row.row c.loop-row.invariant
    (subst (λ n. n ≤ c.loop-row.row) c.rows.ensures c.loop-row-test.false)

pub returns-clause-long : goal.returns-clause-long
returns-clause-long c = c.loop-row.invariant.long
