use Rattle.std.proofs.Common.{length, take}
use Rattle.cx_base.specs.Problem.{clauses_of}
use Rattle.cdcl_core.specs.Filling.{IsFilledUpTo}
use Rattle.cdcl_core.proofs.filling.fill.Given as goal

-- the clauses among the constraints before this place are filled in
abbrev pub invariant-loop-place : goal.invariant-loop-place
invariant-loop-place l = IsFilledUpTo l.formula (length (clauses_of (take l.place l.formula.constraints))) l.filled.state l.filled.units.items l.filled.empty
