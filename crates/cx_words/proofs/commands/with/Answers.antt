use Rattle.std.proofs.lemmas.Result.{IfOk-weaker}
use Rattle.cx_words.proofs.Builds.{adds}
use Rattle.cx_words.proofs.commands.with.Goals as goal

pub returns-in-Ok : goal.returns-in-Ok
returns-in-Ok c = λ a s e h. IfOk-weaker _ _ _ (λ r k. adds c.args.command _ r a s k e (rw c.in-Ok.is at h)) c.subcommand.ensures
