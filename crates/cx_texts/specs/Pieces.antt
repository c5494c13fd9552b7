-- A text that is read in pieces: the kind of line that its reader is in between two bytes, and the tokens from there on.
use Rattle.std.specs.Prelude.{◌≡◌, ℕ, Bool, true, List, [], ◌∷◌, if◌then◌else◌, ◌==◌}
use Rattle.cx_texts.specs.Tokens.{Token, is_blank, lines_from, tokens_by, tokens_from_by, tokens_within_by}
use Rattle.cx_texts.specs.declared.line_state.Behind.{Behind}
use Rattle.cx_texts.specs.declared.line_state.Behind.TheVariants.{Line, Token as AToken, End}
use Rattle.cx_texts.specs.declared.line_state.EndLines.{EndLines}
use Rattle.cx_texts.specs.declared.line_state.EndLines.TheVariants as end_line
use Rattle.cx_texts.specs.declared.line_state.LineState.{LineState}
use Rattle.cx_texts.specs.declared.line_state.LineState.TheVariants.{Start, Kept, Comment}

-- the tokens of all lines but the first, which is dropped
abbrev pub but_first_by : EndLines → List (List (ℕ × ℕ)) → List Token
but_first_by rule [] = []
but_first_by rule (line ∷ lines) = tokens_by rule lines

-- the tokens of what is left of a text at this place, where its reader is in such a line
abbrev pub tokens_in_by : EndLines → LineState → ℕ → List ℕ → List Token
tokens_in_by rule Start place text = tokens_from_by rule place text
tokens_in_by rule Kept place text = tokens_within_by rule place text
tokens_in_by rule Comment place text = but_first_by rule (lines_from place text)

-- these tokens, where `%` lines are like any others
abbrev pub tokens_in : LineState → ℕ → List ℕ → List Token
tokens_in line place text = tokens_in_by end_line.Kept line place text

-- what a `%` does where a line may begin
abbrev pub behind_percent : EndLines → Behind
behind_percent end_line.Kept = AToken
behind_percent end_line.End = End

-- a byte leaves a state, begins a token, or ends the text
abbrev pub behind_byte : EndLines → LineState → ℕ → Behind
behind_byte rule Start b = if is_blank b then Line Start else if b == 99 then Line Comment else if b == 37 then behind_percent rule else AToken
behind_byte rule Kept b = if is_blank b then if b == 10 then Line Start else Line Kept else AToken
behind_byte rule Comment b = if b == 10 then Line Start else Line Comment

-- the kind of line that the reader is in after a byte, and after these bytes, where `%` lines are like any others: a token is in a kept line
abbrev pub line_of : Behind → LineState
line_of (Line line) = line
line_of AToken = Kept
line_of End = Kept

abbrev pub line_behind : LineState → List ℕ → LineState
line_behind line [] = line
line_behind line (b ∷ bs) = line_behind (line_of (behind_byte end_line.Kept line b)) bs

-- whether the last byte is a blank, or else what is said of no byte
abbrev pub last_is_blank : Bool → List ℕ → Bool
last_is_blank none [] = none
last_is_blank none (b ∷ bs) = last_is_blank (is_blank b) bs

-- the last byte, if there is one, is a blank
abbrev pub EndsBlank : List ℕ → Type 0
EndsBlank text = last_is_blank true text ≡ true
