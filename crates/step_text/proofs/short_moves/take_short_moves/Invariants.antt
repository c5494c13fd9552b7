use Rattle.std.proofs.Common.{◌≡◌, ◌+◌, ◌++◌, List, length, drop}
use Rattle.cx_base.specs.declared.id_moves.IdMove.{IdMove}
use Rattle.cx_texts.specs.Tokens.{tokens_within}
use Rattle.step_text.specs.Short.{TakesPairs}
use Rattle.step_text.proofs.short_moves.take_short_moves.Given as goal

abbrev pub invariant-loop-pair : goal.invariant-loop-pair
invariant-loop-pair l = (more : List IdMove) × (l.members.items ≡ l.initial.members.items ++ more) × TakesPairs l.text l.fn.from more l.at

abbrev pub decreases-loop-pair : goal.decreases-loop-pair
decreases-loop-pair l = length (tokens_within (0 + l.at) (drop l.at l.text))
