-- Words that are integers of a few digits.
use Rattle.std.specs.Prelude.{◌≡◌, ◌<◌, ◌≤◌, ◌+◌, ℤ, nat_abs, Bool, true, false, List, ℕ, [], ◌∷◌, map, Some, length, take, drop, slice_index}
use Rattle.cx_base.specs.declared.id_moves.IdMove.{IdMove}
use Rattle.cx_texts.specs.Tokens.{Token, is_blank, tokens_within, NoBlank}
use Rattle.cx_texts.specs.Words.{Placed, integer, number, word_of, placed_words}
use Rattle.cx_texts.specs.Grammar.{end, integer as int}
use Rattle.step_text.specs.Taking.{Takes, fields_of_pairs}
use Rattle.step_text.specs.Seen.{limit}
use Rattle.step_text.specs.declared.short_integer.ShortInteger.{ShortInteger}

-- such an integer is at the start of the text, and a blank after it
pub record IsShortFront (text : List ℕ) (s : ShortInteger) : Type 0 where
  pub some : 0 < s.len
  pub inside : s.len < length text
  pub run : NoBlank (take s.len text)
  pub blank : is_blank (slice_index text s.len) ≡ true
  pub reads : integer (take s.len text) ≡ Some s.value
  pub small : nat_abs s.value ≤ limit

-- the first of the tokens is this number, and the others are left
pub record TakesNumber (old : List Token) (z : ℤ) (new : List Token) : Type 0 where
  pub token : Token
  pub split : old ≡ token ∷ new
  pub word : word_of token.text ≡ number z
  pub small : nat_abs z ≤ limit

-- the words after some numbers begin with the zero that ends them, or are left
abbrev pub Closes : Bool → List Placed → List Placed → Type 0
Closes true behind new = Takes (end ∷ []) behind new
Closes false behind new = new ≡ behind

-- the first of the words are these integers, and then the zero that ends them, if it came
pub record TakesShorts (old : List Placed) (more : List ℤ) (ended : Bool) (new : List Placed) : Type 0 where
  pub behind : List Placed
  pub numbers : Takes (map int more) old behind
  pub closes : Closes ended behind new

-- what was taken from the tokens that begin at a place of a text, wherever the text is
abbrev pub TakesFrom : List ℕ → ℕ → List ℤ → Bool → ℕ → Type 0
TakesFrom text at more ended next =
    (next ≤ length text) × (next < length text → is_blank (slice_index text next) ≡ false)
    × ((from : ℕ) → TakesShorts (placed_words (tokens_within (from + at) (drop at text))) more ended (placed_words (tokens_within (from + next) (drop next text))))

-- pairs that were taken from the tokens that begin at a place of a text, wherever the text is
abbrev pub TakesPairs : List ℕ → ℕ → List IdMove → ℕ → Type 0
TakesPairs text at moves next =
    (next ≤ length text) × (next < length text → is_blank (slice_index text next) ≡ false)
    × ((from : ℕ) → Takes (fields_of_pairs moves) (placed_words (tokens_within (from + at) (drop at text))) (placed_words (tokens_within (from + next) (drop next text))))
