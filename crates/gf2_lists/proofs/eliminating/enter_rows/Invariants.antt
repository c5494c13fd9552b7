use Rattle.std.proofs.Common.{length}
use Rattle.gf2_lists.specs.Eliminating.{SaySame, AreOwners}
use Rattle.gf2_lists.proofs.eliminating.enter_rows.Given as goal

abbrev pub invariant-loop-k : goal.invariant-loop-k
invariant-loop-k l = SaySame (length l.fn.owners) l.fn.rows l.rows × AreOwners (length l.fn.owners) l.rows l.owners l.k
