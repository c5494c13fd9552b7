use Rattle.std.proofs.Common.{◌≡◌, false, take}
use Rattle.std.specs.List.{list_any}
use Rattle.cx_base.specs.Problem.{clauses_of}
use Rattle.cx_semantics.specs.Fresh.{is_falsified}
use Rattle.plain_tests.proofs.settled.some_is_falsified.Given as goal

abbrev pub invariant-loop-place : goal.invariant-loop-place
invariant-loop-place l = list_any (is_falsified l.known) (take l.place (clauses_of l.formula.constraints)) ≡ false
