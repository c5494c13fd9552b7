use Rattle.std.proofs.lemmas.Result.{IfOk-weaker}
use Rattle.cx_words.proofs.Builds.{takes}
use Rattle.cx_words.proofs.commands.solve.Goals as goal

pub returns : goal.returns
returns c =
    let one = takes _ _ _ _ _ c.in_ok-arg.ensures c.in_ok-taking.ensures c.optional.ensures.rule c.optional.ensures.local in
    let two = takes _ _ _ _ _ c.in_ok-arg-2.ensures one c.optional-2.ensures.rule c.optional-2.ensures.local in
    IfOk-weaker _ _ _ (λ r h. takes _ _ _ _ _ h two c.flag.ensures.rule c.flag.ensures.local) c.arg-3.ensures
