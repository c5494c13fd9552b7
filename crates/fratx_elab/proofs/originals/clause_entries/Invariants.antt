use Rattle.std.proofs.Common.{◌≡◌, length}
use Rattle.std.specs.List.{All}
use Rattle.cx_base.specs.Problem.{clauses_of}
use Rattle.proof_rules.specs.Contents.{IsClauseContent}
use Rattle.fratx_elab.specs.Contents.{HasFront, AreNumbered, SayFirst}
use Rattle.fratx_elab.proofs.originals.clause_entries.Given as goal

abbrev pub invariant-loop-index : goal.invariant-loop-index
invariant-loop-index l = record {
  count : length l.entries.items ≡ l.index;
  fronts : All HasFront l.entries.items;
  numbered : AreNumbered l.entries.items;
  say : SayFirst IsClauseContent (clauses_of l.formula.constraints) l.entries.items;
}
