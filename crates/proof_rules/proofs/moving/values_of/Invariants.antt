use Rattle.std.proofs.Common.{◌≡◌, length, take, vec_capacity}
use Rattle.proof_rules.specs.Moving.{values_for}
use Rattle.proof_rules.proofs.moving.values_of.Given as goal

abbrev pub invariant-loop-place : goal.invariant-loop-place
invariant-loop-place g l = record {
  found : l.found.items ≡ values_for l.values (take l.place l.moves);
  count : length l.found.items ≡ l.place;
  room : vec_capacity l.found ≡ vec_capacity l.initial.found;
}
