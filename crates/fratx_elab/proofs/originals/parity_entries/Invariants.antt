use Rattle.std.proofs.Common.{◌≡◌, length}
use Rattle.std.specs.List.{All}
use Rattle.cx_base.specs.Problem.{parities_of}
use Rattle.proof_rules.specs.Contents.{IsParityContent}
use Rattle.fratx_elab.specs.Contents.{HasFront, AreNumbered, SayFirst}
use Rattle.fratx_elab.proofs.originals.parity_entries.Given as goal

abbrev pub invariant-loop-index : goal.invariant-loop-index
invariant-loop-index l = record {
  count : length l.entries.items ≡ l.index;
  fronts : All HasFront l.entries.items;
  numbered : AreNumbered l.entries.items;
  say : SayFirst IsParityContent (parities_of l.formula.constraints) l.entries.items;
}
