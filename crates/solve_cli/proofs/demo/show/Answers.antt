use Rattle.std.proofs.Common.{subst}
use Rattle.cx_texts.specs.Printed.{printed_log}
use Rattle.solve_cli.specs.declared.ending.Ending.{Ending}
use Rattle.solve_cli.specs.Demo.{demo_options}
use Rattle.solve_cli.specs.Solving.{ComesTo}
use Rattle.solve_cli.proofs.demo.show.Goals as goal

pub returns-in-Unknown : goal.returns-in-Unknown
returns-in-Unknown c =
    let h = subst (λ (e : Ending). ComesTo c.args.formula.now demo_options (printed_log c.args.log) e) c.in-Unknown.is c.requires in
    (h.1, h.2)
