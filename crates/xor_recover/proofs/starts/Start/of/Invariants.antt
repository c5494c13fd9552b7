use Rattle.std.proofs.Common.{take}
use Rattle.xor_recover.proofs.StartLaws.{AreLeast}
use Rattle.xor_recover.proofs.starts.Start.of.Given as goal

abbrev pub invariant-loop-lit : goal.invariant-loop-lit
invariant-loop-lit l = AreLeast (take l.lit-index l.lits) l.first l.second
