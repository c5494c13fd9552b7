use Rattle.parity_driver.specs.Driven.{IsAt}
use Rattle.parity_tests.proofs.driven.take_turns.Given as goal

abbrev pub invariant-loop-act : goal.invariant-loop-act
invariant-loop-act g l = IsAt (g.P.ParityEngine.state l.engine) l.level l.held.items
