use Rattle.std.proofs.Common.{◌≡◌, ℕ, ◌<◌, length, true, get_or}
use Rattle.cx_base.specs.Literals.{Literal}
use Rattle.cx_semantics.specs.Chain.{has_literal}
use Rattle.cx_trail.specs.Sequence.{IsFalseBefore}
use Rattle.conflict_learn.specs.Learning.{IsOfLevel}
use Rattle.clause_tests.proofs.source.is_conflict.Given as goal

abbrev pub invariant-loop-lit : goal.invariant-loop-lit
invariant-loop-lit l = record {
  all : (k : ℕ) (d : Literal) → k < l.lit-index → IsFalseBefore l.trail.entries (length l.trail.entries) (get_or l.lits k d);
  met : l.found ≡ true → (m : Literal) × (has_literal l.lits m ≡ true) × IsOfLevel l.trail m l.trail.level × (0 < l.trail.level);
}
