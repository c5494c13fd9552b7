use Rattle.std.proofs.Common.{◌≡◌, false, take}
use Rattle.std.specs.List.{list_any}
use Rattle.plain_tests.specs.Settling.{follows}
use Rattle.plain_tests.proofs.settled.first_following.Given as goal

abbrev pub invariant-loop-lit : goal.invariant-loop-lit
invariant-loop-lit l = list_any (follows l.formula l.parities l.known) (take l.lit-index l.waiting) ≡ false
