use Rattle.gf2_matrix.specs.Enough.{AreRenamed}
use Rattle.gf2_matrix.proofs.renamed.rename_sources.Given as goal

abbrev pub invariant-loop-p : goal.invariant-loop-p
invariant-loop-p l = AreRenamed l.names l.fn.parts l.parts l.p
