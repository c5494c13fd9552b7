use Rattle.std.proofs.Common.{ℕ, ◌<◌, [], get_or}
use Rattle.cx_base.specs.Problem.{clauses_of}
use Rattle.plain_tests.specs.Marking.{IsKept}
use Rattle.plain_tests.proofs.fitting.keeps_formula.Given as goal

-- each of the first ones is kept
abbrev pub invariant-loop-place : goal.invariant-loop-place
invariant-loop-place l = (i : ℕ) → i < l.place → IsKept l.live.clauses (get_or (clauses_of l.formula.constraints) i [])
