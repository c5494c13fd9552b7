use Rattle.std.proofs.Common.{◌<◌, ◌+◌, get_or, ℕ}
use Rattle.cx_base.specs.Literals.{Literal}
use Rattle.gauss_incremental.proofs.shorts.are_rising.Given as goal

abbrev pub invariant-loop-place : goal.invariant-loop-place
invariant-loop-place l = (k : ℕ) (d : Literal) → k + 1 < l.place → (get_or l.lits k d).variable < (get_or l.lits (k + 1) d).variable
