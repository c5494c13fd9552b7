use Rattle.std.proofs.Common.{length}
use Rattle.cx_texts.specs.Words.{placed_words}
use Rattle.step_text.specs.Taking.{Takes, fields_of_pairs}
use Rattle.step_text.proofs.fields.take_moves.Given as goal

abbrev pub invariant-loop-members : goal.invariant-loop-members
invariant-loop-members l = Takes (fields_of_pairs l.members.items) (placed_words l.initial.tokens) (placed_words l.tokens)

abbrev pub decreases-loop-members : goal.decreases-loop-members
decreases-loop-members l = length l.tokens
