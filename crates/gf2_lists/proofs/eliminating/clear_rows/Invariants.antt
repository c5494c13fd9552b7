use Rattle.std.proofs.Common.{length}
use Rattle.gf2_lists.proofs.Clearing.{Clearing}
use Rattle.gf2_lists.proofs.eliminating.clear_rows.Given as goal

abbrev pub invariant-loop-k : goal.invariant-loop-k
invariant-loop-k l = Clearing (length l.owners) l.fn.rows l.rows l.owners l.k
