use Rattle.std.proofs.Common.{length}
use Rattle.std.specs.List.{AllByRecursion}
use Rattle.cx_texts.specs.Printed.{HasProofText}
use Rattle.solve_cli.proofs.PutSteps.{ArePut}
use Rattle.solve_cli.proofs.trim.put_steps.Given as goal

abbrev pub invariant-each : goal.invariant-each
invariant-each g l = record {
  put : ArePut l.fn.steps.steps l.steps.steps (g.D.Desk.outside l.initial.desk) (g.D.Desk.outside l.desk);
  texts : AllByRecursion HasProofText l.steps.steps;
}

abbrev pub decreases-each : goal.decreases-each
decreases-each g l = length l.steps.steps
