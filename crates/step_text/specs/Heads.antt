-- What comes first in a text's words.
use Rattle.std.specs.Prelude.{ℕ, Bool, false, ◌==◌, List, [], ◌∷◌, Option, Some, None}
use Rattle.cx_texts.specs.Tokens.{Token}
use Rattle.cx_texts.specs.Words.{Word, number, letter, conflict, other, Placed}
use Rattle.step_text.specs.declared.ahead.SeenWord.{SeenWord}
use Rattle.step_text.specs.Seen.{seen}

abbrev pub seen_head : List Placed → Option SeenWord
seen_head [] = None
seen_head (p ∷ placed) = Some (record { place = p.place; word = seen p.word })

abbrev pub is_letter : ℕ → Word → Bool
is_letter c (letter b) = b == c
is_letter c (number z) = false
is_letter c (conflict k) = false
is_letter c other = false

abbrev pub is_head_letter : ℕ → List Placed → Bool
is_head_letter c [] = false
is_head_letter c (p ∷ placed) = is_letter c p.word

-- the place of the next token, or the text's length at the end
abbrev pub head_place : ℕ → List Token → ℕ
head_place size [] = size
head_place size (t ∷ tokens) = t.place
