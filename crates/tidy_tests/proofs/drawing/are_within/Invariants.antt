use Rattle.std.proofs.Common.{take}
use Rattle.cx_base.specs.Problem.{AreWithin}
use Rattle.tidy_tests.proofs.drawing.are_within.Given as goal

-- the first ones are
abbrev pub invariant-loop-lit : goal.invariant-loop-lit
invariant-loop-lit l = AreWithin l.vars (take l.lit-index l.lits)
