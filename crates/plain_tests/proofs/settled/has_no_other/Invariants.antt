use Rattle.std.proofs.Common.{◌≡◌, ◌||◌, true, take}
use Rattle.std.specs.List.{list_all}
use Rattle.cx_base.specs.Literals.{negate, same_literal}
use Rattle.cx_semantics.specs.Chain.{has_literal}
use Rattle.plain_tests.proofs.settled.has_no_other.Given as goal

abbrev pub invariant-loop-other : goal.invariant-loop-other
invariant-loop-other l = list_all (λ m. has_literal l.known (negate m) || same_literal l.lit m) (take l.other-index l.clause) ≡ true
