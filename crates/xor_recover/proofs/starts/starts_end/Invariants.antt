use Rattle.std.proofs.Common.{◌≤◌, ◌<◌, ◌-◌, length, get_or, ℕ}
use Rattle.xor_recover.specs.declared.starts.Start.{Start}
use Rattle.xor_recover.specs.Starts.{pair_of}
use Rattle.xor_recover.proofs.starts.starts_end.Given as goal

abbrev pub decreases-loop-end : goal.decreases-loop-end
decreases-loop-end l = length l.starts - l.end

abbrev pub invariant-loop-end : goal.invariant-loop-end
invariant-loop-end l = record {
  ahead : l.at ≤ l.end;
  inside : l.end ≤ length l.starts;
  upto : (k : ℕ) (d : Start) → l.at ≤ k → k < l.end → pair_of (get_or l.starts k d) ≤ l.pair;
}
