use Rattle.solve_cli.proofs.print.put_wrong.Goals as goal

pub returns-in-Missing : goal.returns-in-Missing
returns-in-Missing g c = rw c.in-Missing.is (rw c.from.ensures at c.put_wrong_at-in-Missing.ensures)

pub returns-in-Twice : goal.returns-in-Twice
returns-in-Twice g c = rw c.in-Twice.is (rw c.from-in-Twice.ensures at c.put_wrong_at-in-Twice.ensures)

pub returns-in-Unmet : goal.returns-in-Unmet
returns-in-Unmet g c = rw c.in-Unmet.is c.put_wrong_at-in-Unmet.ensures
