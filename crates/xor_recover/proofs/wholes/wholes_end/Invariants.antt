use Rattle.std.proofs.Common.{◌≤◌, ◌<◌, ◌-◌, length, get_or, ℕ}
use Rattle.xor_recover.specs.declared.wholes.Whole.{Whole}
use Rattle.xor_recover.specs.Starts.{pair_of}
use Rattle.xor_recover.proofs.wholes.wholes_end.Given as goal

abbrev pub decreases-loop-end : goal.decreases-loop-end
decreases-loop-end l = length l.wholes - l.end

abbrev pub invariant-loop-end : goal.invariant-loop-end
invariant-loop-end l = record {
  ahead : l.at ≤ l.end;
  inside : l.end ≤ length l.wholes;
  upto : (k : ℕ) (d : Whole) → l.at ≤ k → k < l.end → pair_of (get_or l.wholes k d).start ≤ l.pair;
}
