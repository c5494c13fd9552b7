use Rattle.std.proofs.Common.{◌≡◌, take}
use Rattle.std.specs.List.{flat_map}
use Rattle.cx_desk.specs.Calls.{gained}
use Rattle.step_text.specs.Spaced.{spaced_move}
use Rattle.step_text.proofs.pieces.put_each_move.Given as goal

abbrev pub invariant-loop-member : goal.invariant-loop-member
invariant-loop-member g l = g.D.Desk.outside l.desk ≡ gained l.port (flat_map spaced_move (take l.member-index l.moves)) (g.D.Desk.outside l.initial.desk)
