use Rattle.std.proofs.lemmas.Result.{err_from_is_err_and}
use Rattle.solve_cli.proofs.trim.put_trimmed.Goals as goal

pub returns-in_err-put_steps-clause-puts : goal.returns-in_err-put_steps-clause-puts
returns-in_err-put_steps-clause-puts g c =
    let p = err_from_is_err_and c.from_residual.result c.from_residual.ensures.1 in
    rw p.1 c.in_err-put_steps.ensures
