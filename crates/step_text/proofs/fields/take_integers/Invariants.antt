use Rattle.std.proofs.Common.{length, map}
use Rattle.cx_texts.specs.Words.{placed_words}
use Rattle.cx_texts.specs.Grammar.{integer}
use Rattle.step_text.specs.Taking.{Takes}
use Rattle.step_text.proofs.fields.take_integers.Given as goal

abbrev pub invariant-loop-members : goal.invariant-loop-members
invariant-loop-members l = Takes (map integer l.members.items) (placed_words l.initial.tokens) (placed_words l.tokens)

abbrev pub decreases-loop-members : goal.decreases-loop-members
decreases-loop-members l = length l.tokens
