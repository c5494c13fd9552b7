-- What one call reads of a text's words.
use Rattle.std.specs.Prelude.{ℕ, List, Result, MatchResult, ⊤}
use Rattle.cx_texts.specs.Words.{Placed}
use Rattle.cx_texts.specs.Grammar.{Grammar, Spells, EndsAs}
use Rattle.cx_base.specs.Endings.{bad_token, too_big, unterminated}
use Rattle.step_text.specs.declared.source.TextRefusal.{TextRefusal}
use Rattle.step_text.specs.declared.source.TextRefusal.TheVariants.{BadToken, Unterminated, TooBig, TooLong, Memory, Failed}

module _ {S : Type 0} (g : Grammar S) (size : ℕ) where
  -- no step is read of the words, for this reason; out of memory says nothing of them
  abbrev pub IsRefusal : TextRefusal → List Placed → Type 0
  IsRefusal (BadToken place) placed = EndsAs g size (bad_token place) placed
  IsRefusal (Unterminated place) placed = EndsAs g size (unterminated place) placed
  IsRefusal (TooBig place) placed = EndsAs g size (too_big place) placed
  IsRefusal TooLong placed = ⊥
  IsRefusal Memory placed = ⊤
  IsRefusal Failed placed = ⊥

  abbrev pub ReadsStep : List Placed → Result S TextRefusal → List Placed → Type 0
  ReadsStep old result new = MatchResult result (λ step. Spells g step old new) (λ refusal. IsRefusal refusal old)
