use Rattle.std.proofs.Common.{arith}
use Rattle.clause_tidy.proofs.Shrinkings.{on_ok}
use Rattle.clause_tidy.proofs.room.TidyRoom.enter.Goals as goal

pub returns-then-place-self-clause-waits : goal.returns-then-place-self-clause-waits
returns-then-place-self-clause-waits c = λ place past live low. absurd (let under = c.if-place-self.true in let is = c.place.ensures in omega (arith, past, under, is))

pub returns-clause-waits : goal.returns-clause-waits
returns-clause-waits c = on_ok c.wait.result _ _ (λ waits place past live low. waits place live low) c.wait.ensures.waits
