use Rattle.std.proofs.Common.{length}
use Rattle.plain_tests.proofs.SettlingLaws.{Stands}
use Rattle.plain_tests.proofs.settled.all_known.Given as goal

abbrev pub invariant-loop-waiting : goal.invariant-loop-waiting
invariant-loop-waiting l = Stands l.formula l.parities l.known.items l.waiting.items

abbrev pub decreases-loop-waiting : goal.decreases-loop-waiting
decreases-loop-waiting l = length l.waiting.items
