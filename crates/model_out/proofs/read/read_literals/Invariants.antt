use Rattle.std.proofs.Common.{◌≡◌, List, [], ℤ, length}
use Rattle.model_out.specs.Mentions.{AreMentionsOf}
use Rattle.model_out.specs.Reading.{ahead, scan}
use Rattle.model_out.proofs.read.read_literals.Given as goal

abbrev pub invariant-loop-next : goal.invariant-loop-next
invariant-loop-next l = (length l.mentions ≡ length l.fn.mentions) × ((lits : List ℤ) × (scan l.len [] (ahead l.fn.first l.fn.tokens) ≡ scan l.len lits (ahead l.next l.tokens)) × AreMentionsOf lits l.mentions)

abbrev pub decreases-loop-next : goal.decreases-loop-next
decreases-loop-next l = length (ahead l.next l.tokens)
