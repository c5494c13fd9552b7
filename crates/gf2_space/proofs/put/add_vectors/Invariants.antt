use Rattle.std.proofs.Common.{take}
use Rattle.std.specs.List.{flat_map}
use Rattle.gf2_space.specs.AffineText.{vector_text}
use Rattle.model_out.specs.Waiting.{Takes}
use Rattle.gf2_space.proofs.put.add_vectors.Given as goal

abbrev pub invariant-loop-place : goal.invariant-loop-place
invariant-loop-place g l = Takes (flat_map vector_text (take l.place l.space.vectors)) (g.D.Desk.outside l.initial.desk) l.initial.waiting.items (g.D.Desk.outside l.desk) l.waiting.items
