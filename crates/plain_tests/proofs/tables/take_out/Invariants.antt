use Rattle.std.proofs.Common.{◌≡◌, take}
use Rattle.cx_semantics.specs.Moves.{old_ids}
use Rattle.proof_rules.specs.Kinds.{drop_constraints}
use Rattle.plain_tests.proofs.tables.take_out.Given as goal

abbrev pub invariant-loop-id_move : goal.invariant-loop-id_move
invariant-loop-id_move l = l.live ≡ drop_constraints l.kind l.fn.live (old_ids (take l.id_move-index l.moves))
