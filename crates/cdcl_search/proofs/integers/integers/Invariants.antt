use Rattle.std.proofs.Common.{take}
use Rattle.cdcl_search.proofs.IntegerLaws.{AreMade}
use Rattle.cdcl_search.proofs.integers.integers.Given as goal

abbrev pub invariant-loop-lit : goal.invariant-loop-lit
invariant-loop-lit l = AreMade (take l.lit-index l.lits) l.integers.items
