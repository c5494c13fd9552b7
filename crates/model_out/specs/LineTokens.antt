-- The tokens of an answer, and which of them are the first of their line.
use Rattle.std.specs.Prelude.{ℕ, Bool, true, ◌||◌, ◌&&◌, ◌==◌, List, [], ◌∷◌, map, take, fold}
use Rattle.cx_texts.specs.Tokens.{Token, is_blank, tokens}

-- a token of the text, with the place of its first byte
pub record LineToken : Type 0 where
  pub place : ℕ
  -- whether it is the first of its line
  pub begins : Bool
  pub text : List ℕ

-- after these bytes at most blanks came since the last line feed, or since the beginning
abbrev pub step_in_line : Bool → ℕ → Bool
step_in_line first b = b == 10 || is_blank b && first

abbrev pub at_line_begin : List ℕ → Bool
at_line_begin before = fold step_in_line true before

abbrev pub line_token : List ℕ → Token → LineToken
line_token text t = record { place = t.place; begins = at_line_begin (take t.place text); text = t.text }

-- comment lines have no tokens
abbrev pub line_tokens : List ℕ → List LineToken
line_tokens text = map (line_token text) (tokens text)

-- no token is left, or the next one begins a line
abbrev pub begins_line : List LineToken → Bool
begins_line [] = true
begins_line (t ∷ ts) = t.begins
