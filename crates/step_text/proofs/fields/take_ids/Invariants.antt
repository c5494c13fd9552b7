use Rattle.std.proofs.Common.{length, map}
use Rattle.cx_texts.specs.Words.{placed_words}
use Rattle.cx_texts.specs.Grammar.{id}
use Rattle.step_text.specs.Taking.{Takes}
use Rattle.step_text.proofs.fields.take_ids.Given as goal

abbrev pub invariant-loop-name : goal.invariant-loop-name
invariant-loop-name l = Takes (map id l.members.items) (placed_words l.initial.tokens) (placed_words l.tokens)

abbrev pub decreases-loop-name : goal.decreases-loop-name
decreases-loop-name l = length l.tokens
