use Rattle.std.proofs.Common.{◌≡◌, drop}
use Rattle.proof_rules.specs.Kinds.{drop_constraints}
use Rattle.xlrup_check.proofs.step.delete.Given as goal

abbrev pub invariant-loop-id : goal.invariant-loop-id
invariant-loop-id l = drop_constraints l.kind l.live (drop l.id-index l.id-items) ≡ drop_constraints l.kind l.fn.live l.id-items
