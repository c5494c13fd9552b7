use Rattle.std.proofs.Common.{take}
use Rattle.std.specs.List.{flat_map, enumerate_from}
use Rattle.cx_texts.specs.AnswerText.{printed_value}
use Rattle.model_out.specs.Waiting.{Takes}
use Rattle.model_out.proofs.put.add_values.Given as goal

abbrev pub invariant-loop-place : goal.invariant-loop-place
invariant-loop-place g l = Takes (flat_map printed_value (take l.place (enumerate_from 0 l.values))) (g.D.Desk.outside l.initial.desk) l.initial.waiting.items (g.D.Desk.outside l.desk) l.waiting.items
