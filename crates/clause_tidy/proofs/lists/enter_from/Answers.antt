use Rattle.std.proofs.Common.{arith}
use Rattle.clause_tidy.proofs.lists.enter_from.Goals as goal

pub returns-then-place-first-clause-listed : goal.returns-then-place-first-clause-listed
returns-then-place-first-clause-listed c = λ past. absurd (let under = c.if-place-first.true in let is = c.place.ensures in omega (arith, past, under, is))
