use Rattle.std.proofs.Common.{◌-◌}
use Rattle.std.specs.List.{AllByRecursion}
use Rattle.cx_base.specs.Problem.{clauses_of}
use Rattle.xor_recover.specs.Wholes.{IsWhole, starts_of_all}
use Rattle.xor_recover.proofs.StartRows.{AreUpTo}
use Rattle.xor_recover.proofs.ordered.in_file_order.Given as goal

abbrev pub invariant-loop-next : goal.invariant-loop-next
invariant-loop-next l = record {
  upto : AreUpTo (clauses_of l.formula.constraints) l.starts.items (starts_of_all l.wholes.items) l.next;
  wholes : AllByRecursion (IsWhole (clauses_of l.formula.constraints)) l.wholes.items;
}

abbrev pub decreases-loop-next : goal.decreases-loop-next
decreases-loop-next l = l.len - l.next
