use Rattle.std.proofs.Common.{take}
use Rattle.clause_tidy.proofs.IntegerLaws.{AreMade}
use Rattle.clause_tidy.proofs.integers.integers.Given as goal

abbrev pub invariant-loop-lit : goal.invariant-loop-lit
invariant-loop-lit l = AreMade (take l.lit-index l.lits) l.integers.items
