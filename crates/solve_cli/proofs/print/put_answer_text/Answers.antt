use Rattle.std.proofs.Common.{sym, subst}
use Rattle.cx_desk.specs.declared.desk.Port.TheVariants as port
use Rattle.cx_desk.specs.Calls.{PutsAll}
use Rattle.solve_cli.specs.declared.ending.Ending.{Ending}
use Rattle.solve_cli.specs.Endings.{answer_text}
use Rattle.solve_cli.proofs.print.put_answer_text.Goals as goal

pub returns-in-Demonstrated : goal.returns-in-Demonstrated
unfolding answer_text
returns-in-Demonstrated g c =
    subst (λ (e : Ending). PutsAll port.Answer (answer_text e) (g.D.Desk.outside c.args.desk.now) c.put_demo.result (g.D.Desk.outside c.put_demo.new.desk)) (sym c.in-Demonstrated.is) c.put_demo.ensures
