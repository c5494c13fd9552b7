use Rattle.std.proofs.Common.{◌≡◌, length}
use Rattle.cx_texts.specs.Words.{placed_formula_words}
use Rattle.cnfx_reader.specs.Body.{outcome, IsPendingIn}
use Rattle.cnfx_reader.proofs.body.read_body.Given as goal

abbrev pub invariant-loop-at : goal.invariant-loop-at
invariant-loop-at l = IsPendingIn l.state l.builder × (outcome l.len l.fn.pending l.fn.builder (placed_formula_words l.fn.tokens) ≡ outcome l.len l.state l.builder (placed_formula_words l.tokens))

abbrev pub decreases-loop-at : goal.decreases-loop-at
decreases-loop-at l = length l.tokens
