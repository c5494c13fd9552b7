use Rattle.std.proofs.Common.{◌≡◌, length, take}
use Rattle.cx_base.specs.Problem.{clauses_of}
use Rattle.clause_arena.specs.Clauses.{ArenaState}
use Rattle.cdcl_core.specs.Tautologies.{IsAdded}
use Rattle.cdcl_core.proofs.tautologies.add_tautologies.Given as goal

-- the tautologies among the constraints before this place are added
abbrev pub invariant-loop-place : goal.invariant-loop-place
invariant-loop-place l = record {
  count : l.number ≡ length (clauses_of (take l.place l.formula.constraints));
  added : (a : ArenaState) → IsAdded l.formula 0 a l.fn.arena → IsAdded l.formula l.number a l.arena;
}
