use Rattle.std.proofs.Common.{◌≡◌, ◌++◌, take}
use Rattle.cdcl_core.proofs.narrowing.push_literals.Given as goal

abbrev pub invariant-loop-lit : goal.invariant-loop-lit
invariant-loop-lit l = l.builder ≡ record l.fn.builder { unfinished = l.fn.builder.unfinished ++ take l.lit-index l.lits }
