use Rattle.std.proofs.Common.{◌≡◌, ℕ, List, ◌∷◌, ◌++◌, length}
use Rattle.cx_texts.specs.Tokens.{Token}
use Rattle.cx_texts.specs.Words.{placed_formula_words, formula_words_of}
use Rattle.cnfx_reader.specs.Body.{outcome, IsPendingIn}
use Rattle.cnfx_reader.specs.Meanings.{Says}
use Rattle.cnfx_reader.proofs.body.read_but_last.Given as goal

abbrev pub invariant-loop-next : goal.invariant-loop-next
invariant-loop-next l = record {
  text : List ℕ;
  before : List Token;
  split : l.fn.tokens ≡ before ++ record { place = l.last.place; text = text } ∷ l.tokens;
  says : Says l.last.token (formula_words_of text);
  fits : IsPendingIn l.state l.builder;
  same : (len : ℕ) (more : List Token) → outcome len l.fn.pending l.fn.builder (placed_formula_words (l.fn.tokens ++ more))
      ≡ outcome len l.state l.builder (placed_formula_words (record { place = l.last.place; text = text } ∷ l.tokens ++ more));
}

abbrev pub decreases-loop-next : goal.decreases-loop-next
decreases-loop-next l = length l.tokens
