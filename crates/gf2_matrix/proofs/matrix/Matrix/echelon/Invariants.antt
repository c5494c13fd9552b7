use Rattle.gf2_matrix.proofs.Reduce.{EchelonSoFar}
use Rattle.gf2_matrix.proofs.matrix.Matrix.echelon.Given as goal

abbrev pub invariant-loop-k : goal.invariant-loop-k
invariant-loop-k l = EchelonSoFar l.fn.self l.self l.k
