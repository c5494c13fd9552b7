use Rattle.std.proofs.Common.{◌≡◌, take}
use Rattle.gf2_matrix.specs.Enough.{kept}
use Rattle.gf2_matrix.proofs.independent.marked.Given as goal

abbrev pub invariant-loop-k : goal.invariant-loop-k
invariant-loop-k l = l.left.items ≡ kept (take l.k l.numbers) (take l.k l.marks)
