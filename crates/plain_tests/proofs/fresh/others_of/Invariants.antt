use Rattle.std.proofs.Common.{◌≡◌, take}
use Rattle.cx_semantics.specs.Fresh.{others}
use Rattle.plain_tests.proofs.fresh.others_of.Given as goal

abbrev pub invariant-loop-other : goal.invariant-loop-other
invariant-loop-other l = l.others.items ≡ others (take l.other-index l.lits) l.lit
