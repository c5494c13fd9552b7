-- Parts of a log step that are taken from a text's words, and how the words refuse what must follow.
use Rattle.std.specs.Prelude.{◌≡◌, ℕ, ℤ, Bool, false, List, [], ◌∷◌, cond, ⊤, Result, MatchResult}
use Rattle.cx_base.specs.declared.steps.LogStep.{LogStep}
use Rattle.cx_base.specs.declared.steps.LogStep.TheVariants.{Clause}
use Rattle.cx_texts.specs.Words.{Placed}
use Rattle.cx_texts.specs.Grammar.{Field, mark, id, integers}
use Rattle.cx_texts.specs.LogText.{log_fields}
use Rattle.cx_texts.proofs.Shapes.{Kind, a_mark, an_id, some_integers}
use Rattle.cx_texts.proofs.LogSteps.{log_rows}
use Rattle.step_text.specs.declared.source.TextRefusal.{TextRefusal}
use Rattle.step_text.specs.Heads.{is_head_letter}
use Rattle.step_text.specs.Taking.{Takes, RefusedIn}
use Rattle.log_text.specs.declared.plain.Plain.{Plain}
use Rattle.log_text.specs.declared.plain.Plain.TheVariants as plain

-- the letters o, d and f
abbrev pub letter_of : Plain → ℕ
letter_of plain.Original = 111
letter_of plain.Delete = 100
letter_of plain.Final = 102

-- an id and literals, after the letter x where they are of a parity
abbrev pub listed_fields : Bool → ℕ → List ℤ → List Field
listed_fields of_parity n lits = cond of_parity (mark 120 ∷ id n ∷ integers lits ∷ []) (id n ∷ integers lits ∷ [])

abbrev pub listed_rows : List (List Kind)
listed_rows = (an_id ∷ some_integers ∷ []) ∷ (a_mark 120 ∷ an_id ∷ some_integers ∷ []) ∷ []

-- after a clause without hints no letter l follows
abbrev pub StandsAlone : LogStep → List Placed → Type 0
StandsAlone (Clause n lits) rest = is_head_letter 108 rest ≡ false
StandsAlone _ rest = ⊤

abbrev pub TakesLogStep : ℕ → List Placed → Result LogStep TextRefusal → List Placed → Type 0
TakesLogStep size old result new = MatchResult result (λ s. Takes (log_fields s) old new × StandsAlone s new) (λ r. RefusedIn log_rows size r old)
