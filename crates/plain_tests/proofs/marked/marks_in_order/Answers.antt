use Rattle.std.proofs.Common.{◌≡◌, ◌+◌, sym, subst, ℕ, filter_map, take, get_or, arith}
use Rattle.std.specs.List.{range_with_len}
use Rattle.cx_base.specs.declared.steps.LogEvent.{LogEvent}
use Rattle.cx_semantics.specs.Marked.{mark_of}
use Rattle.plain_tests.proofs.MarkingLaws.{out_of_order, marked_more, step_is_no_mark}
use Rattle.plain_tests.proofs.marked.marks_in_order.Goals.{in-Conflict+else-number-count, in-Step}
use Rattle.plain_tests.proofs.marked.marks_in_order.Goals as goal

pub returns-then-number-count : goal.returns-then-number-count
returns-then-number-count c =
    let events = c.args.events.now in
    let i = c.loop-event.event-index in
    out_of_order events i c.loop-event.count c.in-Conflict.number c.loop-event-test.true (subst (λ (e : LogEvent). e ≡ get_or events i e) c.in-Conflict.is c.event-item.is) c.loop-event.invariant.marks c.if-number-count.true

pub loop-event-preserved : goal.loop-event-preserved
loop-event-preserved c =
    let events = c.args.events.now in
    let i = c.loop-event.event-index in
    let few = c.loop-event.invariant.few in
    elim c.match-event.branch [
      | in-Conflict+else-number-count w ↦ record {
        marks = subst (λ (n : ℕ). filter_map mark_of (take (i + 1) events) ≡ range_with_len 1 n) (sym w.count-is)
            (marked_more events i c.loop-event.count w.in-Conflict.number c.loop-event-test.true (subst (λ (e : LogEvent). e ≡ get_or events i e) w.in-Conflict.is c.event-item.is) c.loop-event.invariant.marks w.if-number-count.false);
        few = let e = w.count-is in omega (arith, e, few);
      }
      | in-Step w ↦ record {
        marks = subst (λ (n : ℕ). filter_map mark_of (take (i + 1) events) ≡ range_with_len 1 n) (sym w.count-is)
            (step_is_no_mark events i c.loop-event.count w.in-Step.field-0 c.loop-event-test.true (subst (λ (e : LogEvent). e ≡ get_or events i e) w.in-Step.is c.event-item.is) c.loop-event.invariant.marks);
        few = let e = w.count-is in omega (arith, e, few);
      }
    ]
