use Rattle.std.proofs.Common.{◌≡◌, ◌++◌, drop}
use Rattle.cx_base.specs.Numbers.{AreStepIntegers}
use Rattle.fratx_elab.specs.Names.{hints_for}
use Rattle.fratx_elab.proofs.take.renamed_hints.Given as goal

abbrev pub invariant-loop-id : goal.invariant-loop-id
invariant-loop-id l = record {
  so_far : l.hints.items ++ hints_for l.names (drop l.id-index l.ids) ≡ hints_for l.names l.ids;
  proper : AreStepIntegers l.hints.items;
}
