use Rattle.std.proofs.Common.{◌≡◌, ◌≢◌, ℕ, ◌<◌, true, get_or}
use Rattle.cx_base.specs.Literals.{Literal}
use Rattle.cx_semantics.specs.Chain.{has_literal}
use Rattle.cx_trail.specs.Sequence.{IsFalseBefore}
use Rattle.clause_tests.proofs.source.is_antecedent.Given as goal

abbrev pub invariant-loop-lit : goal.invariant-loop-lit
invariant-loop-lit l = record {
  others : (k : ℕ) (d : Literal) → k < l.lit-index → get_or l.lits k d ≢ l.literal → IsFalseBefore l.trail.entries l.place (get_or l.lits k d);
  met : l.found ≡ true → has_literal l.lits l.literal ≡ true;
}
