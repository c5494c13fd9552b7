use Rattle.std.proofs.Common.{take}
use Rattle.std.specs.List.{flat_map, enumerate_from}
use Rattle.gf2_space.specs.AffineText.{point_literal}
use Rattle.model_out.specs.Waiting.{Takes}
use Rattle.gf2_space.proofs.put.add_point.Given as goal

abbrev pub invariant-loop-x : goal.invariant-loop-x
invariant-loop-x g l = Takes (flat_map point_literal (take l.x (enumerate_from 0 l.space.point))) (g.D.Desk.outside l.initial.desk) l.initial.waiting.items (g.D.Desk.outside l.desk) l.waiting.items
