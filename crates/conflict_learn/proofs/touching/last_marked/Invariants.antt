use Rattle.std.proofs.Common.{◌≡◌, ◌≤◌, ◌<◌, ℕ, false}
use Rattle.conflict_learn.specs.Learning.{literal_at}
use Rattle.conflict_learn.specs.Marks.{is_marked}
use Rattle.conflict_learn.proofs.touching.last_marked.Given as goal

abbrev pub invariant-loop-place : goal.invariant-loop-place
invariant-loop-place l = (l.place ≤ l.from) × ((q : ℕ) → l.place ≤ q → q < l.from → is_marked l.marks (literal_at l.trail q).variable ≡ false)

abbrev pub decreases-loop-place : goal.decreases-loop-place
decreases-loop-place l = l.place
