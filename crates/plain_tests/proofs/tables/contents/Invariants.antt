use Rattle.std.proofs.Common.{◌≡◌, map, take}
use Rattle.cx_base.specs.declared.id_moves.IdMove.{IdMove}
use Rattle.cx_semantics.specs.Tables.{get}
use Rattle.proof_rules.specs.Kinds.{chosen}
use Rattle.plain_tests.proofs.tables.contents.Given as goal

abbrev pub invariant-loop-id_move : goal.invariant-loop-id_move
invariant-loop-id_move l = l.contents.items ≡ map (λ (m : IdMove). get (chosen l.kind l.live) m.from) (take l.id_move-index l.moves)
