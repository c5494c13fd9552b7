use Rattle.std.proofs.Common.{◌≤◌, ℕ, take}
use Rattle.cx_base.specs.Integers.{sizes}
use Rattle.rup_finder.specs.Front.{HasReached, IsFrontChain, NoneNegative}
use Rattle.rup_finder.proofs.front.chain_length.Given as goal

abbrev pub invariant-loop-place : goal.invariant-loop-place
invariant-loop-place l = record {
  reached : HasReached l.live.clauses l.target (sizes (take l.place l.hints)) l.assumed;
  plain : NoneNegative (take l.place l.hints);
  none_yet : (k : ℕ) → k ≤ l.place → ¬ IsFrontChain l.live.clauses l.target l.hints k;
}
