use Rattle.std.proofs.Common.{◌≡◌, ◌≤◌, drop, [], length}
use Rattle.xor_recover.specs.Rows.{gathered}
use Rattle.xor_recover.proofs.gathering.gather.Given as goal

abbrev pub invariant-loop-lit : goal.invariant-loop-lit
invariant-loop-lit l = record {
  gathers : gathered [] l.lits ≡ gathered l.normal.items (drop l.lit-index l.lits);
  short : length l.normal.items ≤ 6;
}
