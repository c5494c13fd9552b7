use Rattle.std.proofs.Common.{◌≡◌, length, get_or, true, ℕ, ◌<◌, ◌+◌}
use Rattle.cx_base.specs.Problem.{clauses_of}
use Rattle.xor_recover.specs.Wholes.{AreOnce, clause_at, signs_code, signs_of}
use Rattle.xor_recover.proofs.wholes.are_once.Given as goal

abbrev pub invariant-loop-index : goal.invariant-loop-index
invariant-loop-index l = record {
  once : AreOnce (clauses_of l.formula.constraints) l.number l.index;
  seen : (j : ℕ) → j < l.index → get_or l.seen (signs_code (signs_of (clause_at (clauses_of l.formula.constraints) (l.number + j)))) true ≡ true;
  long : length l.seen ≡ 64;
}
