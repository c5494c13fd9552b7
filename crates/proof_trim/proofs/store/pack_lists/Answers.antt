use Rattle.std.proofs.Common.{arith}
use Rattle.std.proofs.lemmas.Grind.{common_steps}
use Rattle.proof_trim.proofs.store.pack_lists.Goals as goal

pub returns : goal.returns
returns c = grind (arith, common_steps)
