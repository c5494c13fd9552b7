use Rattle.std.proofs.Common.{◌≡◌, ℕ, ◌<◌}
use Rattle.watch_lists.specs.Attaching.{literal_at}
use Rattle.watch_lists.proofs.anew.other_one.Given as goal

abbrev pub invariant-loop-lit : goal.invariant-loop-lit
invariant-loop-lit l = (k : ℕ) → k < l.lit-index → literal_at l.lits k ≡ l.front
