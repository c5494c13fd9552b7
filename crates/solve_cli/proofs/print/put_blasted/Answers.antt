use Rattle.std.proofs.Common.{◌∙◌}
use Rattle.solve_cli.proofs.print.put_blasted.Goals as goal

pub returns : goal.returns
returns g c =
    let variables = c.as_bytes-variables.ensures.value ∙ c.format.ensures.text in
    let clauses = c.as_bytes-clauses.ensures.value ∙ c.format-2.ensures.text in
    rw (← variables, ← clauses) c.put_pieces.ensures
