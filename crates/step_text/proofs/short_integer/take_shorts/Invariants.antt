use Rattle.std.proofs.Common.{◌≡◌, ◌+◌, ◌++◌, ℤ, List, false, length, drop}
use Rattle.cx_texts.specs.Tokens.{tokens_within}
use Rattle.step_text.specs.Short.{TakesFrom}
use Rattle.step_text.proofs.short_integer.take_shorts.Given as goal

abbrev pub invariant-loop-short : goal.invariant-loop-short
invariant-loop-short l = (more : List ℤ) × (l.members.items ≡ l.initial.members.items ++ more) × TakesFrom l.text l.fn.from more false l.at

abbrev pub decreases-loop-short : goal.decreases-loop-short
decreases-loop-short l = length (tokens_within (0 + l.at) (drop l.at l.text))
