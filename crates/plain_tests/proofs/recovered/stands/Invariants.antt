use Rattle.std.proofs.Common.{◌≡◌, false, take}
use Rattle.std.specs.List.{list_any}
use Rattle.cx_base.specs.Problem.{clauses_of}
use Rattle.cx_semantics.specs.Chain.{same_literals}
use Rattle.plain_tests.proofs.recovered.stands.Given as goal

-- none of the first ones has just these
abbrev pub invariant-loop-place : goal.invariant-loop-place
invariant-loop-place l = list_any (same_literals l.lits) (take l.place (clauses_of l.formula.constraints)) ≡ false
