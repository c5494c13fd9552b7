use Rattle.std.proofs.Common.{◌≤◌, ◌-◌, length}
use Rattle.search_policy.specs.Assuming.{HaveValues}
use Rattle.search_policy.proofs.assumptions.first_open.Given as goal

abbrev pub invariant-loop-place : goal.invariant-loop-place
invariant-loop-place l = record { low : l.from ≤ l.place; high : l.place ≤ length l.lits; before : HaveValues l.trail l.lits l.from l.place }

abbrev pub decreases-loop-place : goal.decreases-loop-place
decreases-loop-place l = length l.lits - l.place
