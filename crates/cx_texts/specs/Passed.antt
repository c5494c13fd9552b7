-- What is at a place of a text, by a rule of `%` lines.
use Rattle.std.specs.Prelude.{◌≡◌, ℕ, ◌<◌, ◌≤◌, false, List, [], length, drop, slice_index}
use Rattle.cx_texts.specs.Tokens.{Token, is_blank, tokens_left_by, tokens_within_by}
use Rattle.cx_texts.specs.declared.line_state.EndLines.{EndLines}
use Rattle.cx_texts.specs.declared.places.Place.{Place}
use Rattle.cx_texts.specs.declared.places.Passed.{Passed}
use Rattle.cx_texts.specs.declared.places.Passed.TheVariants.{To, Token as ABegin, End}

-- the tokens that are left after a place
abbrev pub left_at : EndLines → List ℕ → Place → List Token
left_at rule text p = tokens_left_by rule p.in_line p.at (drop p.at text)

abbrev pub IsPassed : EndLines → List ℕ → Place → Passed → Type 0
IsPassed rule text from (To next) = (from.at < next.at) × (next.at ≤ length text) × (left_at rule text from ≡ left_at rule text next)
IsPassed rule text from ABegin = (is_blank (slice_index text from.at) ≡ false) × (left_at rule text from ≡ tokens_within_by rule from.at (drop from.at text))
IsPassed rule text from End = left_at rule text from ≡ []
