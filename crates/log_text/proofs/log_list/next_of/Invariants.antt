use Rattle.std.proofs.Common.{◌≡◌, length}
use Rattle.std.specs.Vec.Iter.{into_iter_items, into_iter_len}
use Rattle.cx_base.specs.Events.{steps_of}
use Rattle.log_text.proofs.log_list.next_of.Given as goal

-- only marks were passed over
abbrev pub invariant-loop-event : goal.invariant-loop-event
invariant-loop-event l = (into_iter_len l.events ≡ length (into_iter_items l.events)) × (steps_of (into_iter_items l.events) ≡ steps_of (into_iter_items l.fn.events))

abbrev pub decreases-loop-event : goal.decreases-loop-event
decreases-loop-event l = length (into_iter_items l.events)
