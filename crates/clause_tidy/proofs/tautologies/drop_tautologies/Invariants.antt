use Rattle.std.proofs.Common.{ℕ, ◌<◌}
use Rattle.cx_base.specs.Problem.{Problem}
use Rattle.clause_tidy.specs.Tautologies.{IsLeft, IsFreeAt}
use Rattle.clause_tidy.proofs.Stages.{IsStage}
use Rattle.clause_tidy.proofs.tautologies.drop_tautologies.Given as goal

abbrev pub invariant-loop-place : goal.invariant-loop-place
invariant-loop-place g l = record {
  stage : (formula : Problem) (spare : ℕ) → IsStage g.L.Sink formula spare l.fn.arena l.fn.log l.arena l.log;
  left : IsLeft l.fn.arena l.arena;
  free : (q : ℕ) → q < l.place → IsFreeAt l.arena q;
}
