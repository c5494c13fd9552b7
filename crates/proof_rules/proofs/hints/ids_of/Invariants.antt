use Rattle.std.proofs.Common.{◌≡◌, take, length}
use Rattle.cx_base.specs.Integers.{sizes}
use Rattle.proof_rules.proofs.hints.ids_of.Given as goal

abbrev pub invariant-loop-place : goal.invariant-loop-place
invariant-loop-place l = record {
  so_far : take l.place l.ids.items ≡ sizes (take l.place l.hints);
  count : length l.ids.items ≡ length l.hints;
}
