use Rattle.std.proofs.Common.{take}
use Rattle.xor_reason.specs.LiteralChoice.{AreLiteralsFor}
use Rattle.xor_reason.proofs.literals.literals_for.Given as goal

abbrev pub invariant-loop-lit : goal.invariant-loop-lit
invariant-loop-lit l = AreLiteralsFor l.trail l.implied (take l.lit-index l.lits) l.clause.items
