use Rattle.parity_driver.specs.Driven.{IsAt}
use Rattle.parity_tests.proofs.driven.settle.Given as goal

abbrev pub invariant-loop : goal.invariant-loop
invariant-loop g l = IsAt (g.P.ParityEngine.state l.engine) l.level l.held
