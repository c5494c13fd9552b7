use Rattle.std.proofs.Common.{rules}
use Rattle.xlrup_check.proofs.step.take_step.Goals as goal

pub returns-in-Clause : goal.returns-in-Clause
returns-in-Clause c =
    let is = c.new-added.ensures in
    rw c.in-Clause.is (rw (c.in-Clause.is, is.kind, is.id, is.lits) at c.take_added.ensures)

pub returns-in-Parity : goal.returns-in-Parity
returns-in-Parity c =
    let is = c.new-added-in-Parity.ensures in
    rw c.in-Parity.is (rw (c.in-Parity.is, is.kind, is.id, is.lits) at c.take_added-in-Parity.ensures)

pub returns-in-ClauseOfParity : goal.returns-in-ClauseOfParity
returns-in-ClauseOfParity c =
    let is = c.new-added-in-ClauseOfParity.ensures in
    rw c.in-ClauseOfParity.is (rw (c.in-ClauseOfParity.is, is.kind, is.id, is.lits) at c.take_added-in-ClauseOfParity.ensures)

pub returns-in-ParityOfClauses : goal.returns-in-ParityOfClauses
returns-in-ParityOfClauses c =
    let is = c.new-added-in-ParityOfClauses.ensures in
    rw c.in-ParityOfClauses.is (rw (c.in-ParityOfClauses.is, is.kind, is.id, is.lits) at c.take_added-in-ParityOfClauses.ensures)

pub returns-in-DeleteClauses : goal.returns-in-DeleteClauses
returns-in-DeleteClauses c = search rules
