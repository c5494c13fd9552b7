use Rattle.std.proofs.Common.{◌≡◌, ◌++◌, take}
use Rattle.xor_blast.proofs.blasting.push_literals.Given as goal

abbrev pub invariant-loop-lit : goal.invariant-loop-lit
invariant-loop-lit l = l.builder ≡ record l.fn.builder { unfinished = l.fn.builder.unfinished ++ take l.lit-index l.lits }
