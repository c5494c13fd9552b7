use Rattle.std.proofs.Common.{ℕ, ◌<◌, ◌≤◌}
use Rattle.clause_tidy.specs.Taking.{Takes, IsWide}
use Rattle.clause_tidy.proofs.units.take_units.Given as goal

abbrev pub invariant-loop-place : goal.invariant-loop-place
invariant-loop-place l = record {
  takes : Takes l.fn.arena l.arena l.units.items l.ids.items;
  wide : (q : ℕ) → l.first ≤ q → q < l.place → IsWide l.arena q;
}
