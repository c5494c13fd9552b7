use Rattle.std.proofs.Common.{◌≡◌, true, take}
use Rattle.std.specs.List.{list_all}
use Rattle.cx_base.specs.Literals.{literal_true}
use Rattle.plain_tests.proofs.settled.all_true.Given as goal

abbrev pub invariant-loop-lit : goal.invariant-loop-lit
invariant-loop-lit l = list_all (literal_true l.values) (take l.lit-index l.lits) ≡ true
