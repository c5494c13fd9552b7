use Rattle.std.proofs.Common.{◌≡◌, ◌+◌, ◌-◌, ◌≤◌, ℕ, List, ◌++◌, length, drop}
use Rattle.cx_texts.specs.Pieces.{tokens_in_by}
use Rattle.cx_texts.proofs.pieces.pass_blanks.Given as goal

abbrev pub invariant-loop-at : goal.invariant-loop-at
invariant-loop-at l = (l.at ≤ length l.piece) × ((place : ℕ) (more : List ℕ) → tokens_in_by l.fn.end_lines l.fn.line place (l.piece ++ more) ≡ tokens_in_by l.fn.end_lines l.state (place + l.at) (drop l.at l.piece ++ more))

abbrev pub decreases-loop-at : goal.decreases-loop-at
decreases-loop-at l = length l.piece - l.at
