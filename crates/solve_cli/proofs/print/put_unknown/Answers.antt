use Rattle.std.proofs.Common.{◌∙◌}
use Rattle.solve_cli.proofs.print.put_unknown.Goals as goal

pub returns : goal.returns
returns g c =
    let number = c.as_bytes-number.ensures.value ∙ c.format.ensures.text in
    rw (← number) c.put_pieces.ensures
