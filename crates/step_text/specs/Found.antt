-- What the bytes of a text that were read so far say of the next step.
use Rattle.std.specs.Prelude.{◌≡◌, ◌<◌, ◌≤◌, ◌+◌, ℕ, Bool, true, false, List, [], ◌++◌, length, drop}
use Rattle.cx_texts.specs.Tokens.{tokens_within}
use Rattle.cx_texts.specs.Pieces.{tokens_in}
use Rattle.cx_texts.specs.declared.line_state.LineState.{LineState}
use Rattle.cx_texts.specs.Words.{placed_words}
use Rattle.cx_texts.specs.Grammar.{Grammar, Spells}
use Rattle.step_text.specs.Reading.{IsRefusal}
use Rattle.step_text.specs.declared.slot_reader.StepFinding.{StepFinding}
use Rattle.step_text.specs.declared.slot_reader.StepFinding.TheVariants.{Step, End, Refused, Unknown}

-- A text begins at a place within a kept line with bytes that were read. Whatever may follow them, and nothing does
-- where the end was seen, ...
module _ {S : Type 0} (g : Grammar S) (ended : Bool) (place : ℕ) (bytes : List ℕ) where
  -- ... the step comes first, and what is left after it begins at the other place, in such a line
  pub record FoundStep (step : S) (next : ℕ) (line : LineState) : Type 0 where
    pub behind : ℕ
    pub at : next ≡ place + behind
    pub some : 0 < behind
    pub inside : behind ≤ length bytes
    pub spells : (more : List ℕ) → (ended ≡ true → more ≡ []) → Spells g step (placed_words (tokens_within place (bytes ++ more))) (placed_words (tokens_in line next (drop behind bytes ++ more)))

  abbrev pub IsFound : StepFinding S → Type 0
  IsFound (Step step next line) = FoundStep step next line
  IsFound End = (ended ≡ true) × (tokens_within place bytes ≡ [])
  IsFound (Refused refusal) = (0 < length bytes) × ((more : List ℕ) → (ended ≡ true → more ≡ []) → IsRefusal g ((place + length bytes) + length more) refusal (placed_words (tokens_within place (bytes ++ more))))
  IsFound Unknown = ended ≡ false
