-- Endings of texts.
use Rattle.std.specs.Prelude.{ℕ}

-- how a text goes on after its steps
pub data Ending : Type 0 where
  finished : Ending
  bad_token : ℕ → Ending
  too_big : ℕ → Ending
  unterminated : ℕ → Ending
