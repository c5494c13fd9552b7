use Rattle.std.proofs.Common.{arith}
use Rattle.plain_tests.proofs.Saturating.{wait_all}
use Rattle.plain_tests.proofs.fresh.first_ready.Goals as goal

pub returns : goal.returns
returns c = wait_all c.args.live.now.clauses c.args.known.now c.args.ids.now c.loop-place.place (omega (arith, c.loop-place-test.false)) c.loop-place.invariant
