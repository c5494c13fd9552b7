-- A text always has some steps left and an ending.
use Rattle.std.specs.Prelude.{refl, ℕ, List, [], Option, Some, None}
use Rattle.cx_texts.specs.Tokens.{Token}
use Rattle.cx_texts.specs.Words.{placed_words}
use Rattle.cx_texts.specs.Grammar.{Grammar}
use Rattle.cx_base.specs.Endings.{Ending, finished, bad_token, too_big, unterminated}
use Rattle.cx_texts.proofs.Forms.{Forms}
use Rattle.cx_texts.proofs.Readings.{reading_of}
use Rattle.step_text.specs.Texts.{TextState, IsEnding, LeftOf, Leaves}
use Rattle.step_text.specs.declared.source.TextRefusal.{TextRefusal}
use Rattle.step_text.specs.declared.source.TextRefusal.TheVariants.{BadToken, Unterminated, TooBig, TooLong, Memory, Failed}

some_ending : (refusal : TextRefusal) → (ending : Ending) × IsEnding refusal ending
some_ending (BadToken place) = (bad_token place, refl)
some_ending (Unterminated place) = (unterminated place, refl)
some_ending (TooBig place) = (too_big place, refl)
some_ending TooLong = (finished, tt)
some_ending Memory = (finished, tt)
some_ending Failed = (finished, tt)

pub left_of : {S : Type 0} (g : Grammar S) (all : Forms g) (tokens : List Token) (size : ℕ) (refused : Option TextRefusal) → (steps : List S) × (ending : Ending) × LeftOf g tokens size refused steps ending
left_of g all tokens size None = reading_of g all size (placed_words tokens)
left_of g all tokens size (Some refusal) = let e = some_ending refusal in ([], e.0, (refl, e.1))

-- whatever the grammar is, if it is given by forms
pub text_is_left : {S : Type 0} (g : Grammar S) (all : Forms g) (s : TextState) → (steps : List S) × (ending : Ending) × Leaves g s steps ending
text_is_left g all s = left_of g all s.tokens s.size s.refused
