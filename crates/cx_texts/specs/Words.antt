-- What a token says: an integer, a letter, or nothing that a grammar knows.
use Rattle.std.specs.Prelude.{ℕ, ◌≤◌, ℤ, pos, neg_ℤ, nat_abs, Bool, ◌&&◌, List, [], ◌∷◌, map, flat_map, nat_le, ◌==◌, if◌then◌else◌, Option, Some, None, option_map, ⊤}
use Rattle.std.specs.List.{list_all}
use Rattle.std.specs.Str.Parse.{digits_value}
use Rattle.cx_texts.specs.Tokens.{Token}

pub data Word : Type 0 where
  number : ℤ → Word
  letter : ℕ → Word
  -- a line `c conflict K` of a log, which is no token
  conflict : ℕ → Word
  other : Word

-- a word with the place of its token
pub record Placed : Type 0 where
  pub place : ℕ
  pub word : Word

abbrev pub is_digit : ℕ → Bool
is_digit b = nat_le 48 b && nat_le b 57

-- one or more digits, and their value
abbrev pub natural : List ℕ → Option ℕ
natural [] = None
natural (b ∷ bs) = if list_all is_digit (b ∷ bs) then Some (digits_value 10 (b ∷ bs)) else None

-- an optional minus and one or more digits
abbrev pub integer : List ℕ → Option ℤ
integer [] = None
integer (b ∷ bs) = if b == 45 then option_map (λ n. neg_ℤ (pos n)) (natural bs) else option_map pos (natural (b ∷ bs))

abbrev pub letter_or_other : List ℕ → Word
letter_or_other (b ∷ []) = letter b
letter_or_other _ = other

abbrev pub number_or : Word → Option ℤ → Word
number_or w (Some z) = number z
number_or w None = w

-- the word of a token's text
abbrev pub word_of : List ℕ → Word
word_of text = number_or (letter_or_other text) (integer text)

abbrev pub joined_words : Option ℤ → List Word
joined_words (Some z) = letter 120 ∷ number z ∷ []
joined_words None = other ∷ []

-- in a formula an `x` joined to an integer is the letter and the integer
abbrev pub formula_words_of : List ℕ → List Word
formula_words_of (b ∷ c ∷ bs) = if b == 120 then joined_words (integer (c ∷ bs)) else word_of (b ∷ c ∷ bs) ∷ []
formula_words_of text = word_of text ∷ []

-- the words of a proof's or a log's tokens, and of a formula's
abbrev pub placed_words : List Token → List Placed
placed_words tokens = map (λ t. record { place = t.place; word = word_of t.text }) tokens

abbrev pub placed_formula_words : List Token → List Placed
placed_formula_words tokens = flat_map (λ t. map (λ w. record { place = t.place; word = w }) (formula_words_of t.text)) tokens

abbrev pub words : List Placed → List Word
words placed = map (λ p. p.word) placed

-- the number's magnitude is at most the limit
abbrev pub IsWithin : ℕ → Word → Type 0
IsWithin limit (number z) = nat_abs z ≤ limit
IsWithin limit (letter c) = ⊤
IsWithin limit (conflict k) = ⊤
IsWithin limit other = ⊤
