use Rattle.solve_cli.proofs.FormulaTexts.{answer_put, answer_torn}
use Rattle.solve_cli.proofs.program.answer.Goals as goal

pub returns-in-Ok : goal.returns-in-Ok
returns-in-Ok g c = λ limit. answer_put limit c.args.ending (g.D.Desk.outside c.args.desk.now) (g.D.Desk.outside c.put_answer_text.new.desk) c.in-Ok.ensures

pub returns-in-Err : goal.returns-in-Err
returns-in-Err g c = λ limit. answer_torn limit c.args.ending (g.D.Desk.outside c.args.desk.now) (g.D.Desk.outside c.put_answer_text.new.desk) c.in-Err.ensures
