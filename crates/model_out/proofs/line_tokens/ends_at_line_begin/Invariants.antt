use Rattle.std.proofs.Common.{◌≡◌, ◌≤◌, length, take}
use Rattle.model_out.specs.LineTokens.{at_line_begin}
use Rattle.model_out.proofs.line_tokens.ends_at_line_begin.Given as goal

abbrev pub invariant-loop-at : goal.invariant-loop-at
invariant-loop-at l = (l.at ≤ length l.before) × (at_line_begin (take l.at l.before) ≡ at_line_begin l.before)

abbrev pub decreases-loop-at : goal.decreases-loop-at
decreases-loop-at l = l.at
