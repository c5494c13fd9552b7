use Rattle.std.proofs.Common.{◌≡◌, false, take}
use Rattle.std.specs.List.{list_any}
use Rattle.cx_base.specs.Problem.{clauses_of}
use Rattle.plain_tests.specs.Settling.{leaves_only}
use Rattle.plain_tests.proofs.settled.is_left_alone.Given as goal

abbrev pub invariant-loop-place : goal.invariant-loop-place
invariant-loop-place l = list_any (leaves_only l.known l.lit) (take l.place (clauses_of l.formula.constraints)) ≡ false
