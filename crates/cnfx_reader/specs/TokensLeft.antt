-- What is left of a formula's tokens. A `%` line ends the text.
use Rattle.std.specs.Prelude.{ℕ, List}
use Rattle.cx_texts.specs.Tokens.{Token, tokens_from_by, tokens_within_by}
use Rattle.cx_texts.specs.Pieces.{tokens_in_by}
use Rattle.cx_texts.specs.declared.line_state.EndLines.TheVariants as end_line
use Rattle.cx_texts.specs.declared.line_state.LineState.{LineState}

-- the tokens of a part of a text that begins at a line, at this place; of one that begins within a kept line, or where its reader is
abbrev pub formula_tokens_from : ℕ → List ℕ → List Token
formula_tokens_from place text = tokens_from_by end_line.End place text

abbrev pub formula_tokens_within : ℕ → List ℕ → List Token
formula_tokens_within place text = tokens_within_by end_line.End place text

abbrev pub formula_tokens_in : LineState → ℕ → List ℕ → List Token
formula_tokens_in line place text = tokens_in_by end_line.End line place text
