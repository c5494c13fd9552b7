use Rattle.std.proofs.Common.{ℕ, ◌<◌}
use Rattle.cx_base.specs.Problem.{AreWithin}
use Rattle.clause_arena.specs.Clauses.{IsLive, literals_at, id_at}
use Rattle.clause_tidy.specs.Agreeing.{IsStepId}
use Rattle.tidy_tests.proofs.drawing.are_proper.Given as goal

-- the first ones are
abbrev pub invariant-loop-place : goal.invariant-loop-place
invariant-loop-place l = (r : ℕ) → r < l.place → IsLive l.arena r → AreWithin l.formula.variables (literals_at l.arena r) × IsStepId (id_at l.arena r)
