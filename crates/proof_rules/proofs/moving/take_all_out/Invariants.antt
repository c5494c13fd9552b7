use Rattle.std.proofs.Common.{◌≡◌, drop}
use Rattle.cx_semantics.specs.Moves.{old_ids, without_ids}
use Rattle.proof_rules.specs.Moving.{meets_none}
use Rattle.proof_rules.proofs.moving.take_all_out.Given as goal

abbrev pub invariant-loop-place : goal.invariant-loop-place
invariant-loop-place g l = record {
  none : meets_none l.values (drop l.place l.moves) ≡ meets_none l.initial.values l.moves;
  out : without_ids l.values (old_ids (drop l.place l.moves)) ≡ without_ids l.initial.values (old_ids l.moves);
}
