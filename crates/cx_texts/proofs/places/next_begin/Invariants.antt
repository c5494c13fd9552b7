use Rattle.std.proofs.Common.{◌≡◌, ◌-◌, ◌≤◌, length}
use Rattle.cx_texts.specs.Passed.{left_at}
use Rattle.cx_texts.proofs.places.next_begin.Given as goal

abbrev pub invariant-loop-place : goal.invariant-loop-place
invariant-loop-place l = (l.place.at ≤ length l.text) × (left_at l.end_lines l.text l.fn.from ≡ left_at l.end_lines l.text l.place)

abbrev pub decreases-loop-place : goal.decreases-loop-place
decreases-loop-place l = length l.text - l.place.at
