-- What the reader says of a token, against the words of the grammar.
use Rattle.std.specs.Prelude.{◌≡◌, ◌≢◌, ℕ, ℤ, List, [], ◌∷◌, map, ⊤}
use Rattle.cx_texts.specs.Words.{Word, number, letter, conflict, other, Placed, formula_words_of}
use Rattle.cx_texts.specs.LiteralTokens.{IsInteger}
use Rattle.cnfx_reader.specs.declared.body_token.BodyToken.{BodyToken}
use Rattle.cnfx_reader.specs.declared.body_token.BodyToken.TheVariants as body

-- no integer, no `x` and no `a`
abbrev pub IsStrange : Word → Type 0
IsStrange (number z) = ⊥
IsStrange (letter c) = (c ≢ 120) × (c ≢ 97)
IsStrange (conflict k) = ⊤
IsStrange other = ⊤

-- the words of a token
abbrev pub Says : BodyToken → List Word → Type 0
Says (body.Integer i) ws = (z : ℤ) × IsInteger i z × (ws ≡ number z ∷ [])
Says body.Mark ws = ws ≡ letter 120 ∷ []
Says (body.MarkedInteger i) ws = (z : ℤ) × IsInteger i z × (ws ≡ letter 120 ∷ number z ∷ [])
Says body.Assume ws = ws ≡ letter 97 ∷ []
Says body.Other ws = (w : Word) × IsStrange w × (ws ≡ w ∷ [])

-- the words of a token's bytes
abbrev pub SaysOf : BodyToken → List ℕ → Type 0
SaysOf token text = Says token (formula_words_of text)

-- words at one place
abbrev pub placed_at : ℕ → List Word → List Placed
placed_at place ws = map (λ w. record { place = place; word = w }) ws
