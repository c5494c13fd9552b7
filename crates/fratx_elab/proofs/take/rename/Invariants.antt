use Rattle.std.proofs.Common.{◌≡◌, ◌≤◌, ◌++◌, take, drop, vec_len}
use Rattle.cx_base.specs.Integers.{sizes}
use Rattle.cx_base.specs.Numbers.{AreStepIntegers}
use Rattle.fratx_elab.specs.Names.{hints_for}
use Rattle.fratx_elab.proofs.take.rename.Given as goal

abbrev pub invariant-loop-place : goal.invariant-loop-place
invariant-loop-place l = record {
  so_far : take l.kept l.list.items ++ hints_for l.names (sizes (drop l.place l.list.items)) ≡ hints_for l.names (sizes l.fn.hints);
  proper : AreStepIntegers l.list.items;
  kept_before : l.kept ≤ l.place;
  same_count : vec_len l.list ≡ l.count;
}
