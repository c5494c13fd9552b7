-- What the printers write: a step's words parted by one space, without leading zeros, and a line feed.
use Rattle.std.specs.Prelude.{◌^◌, ◌<◌, ℕ, ℤ, pos, negsuc, suc, List, [], ◌∷◌, ◌++◌, map, flat_map, codes, decimal}
use Rattle.std.specs.List.{join_with_byte, AllByRecursion}
use Rattle.cx_base.specs.declared.steps.ProofStep.{ProofStep}
use Rattle.cx_base.specs.declared.steps.LogEvent.{LogEvent}
use Rattle.cx_base.specs.declared.steps.LogEvent.TheVariants.{Step, Conflict}
use Rattle.cx_base.specs.Lines.{Line, item, tidy}
use Rattle.cx_texts.specs.Words.{Word, number, letter, conflict, other, IsWithin}
use Rattle.cx_texts.specs.Grammar.{spelling, IsProper}
use Rattle.cx_texts.specs.ProofText.{proof_steps, proof_fields}
use Rattle.cx_texts.specs.LogText.{log_events, log_steps, log_fields}

abbrev pub printed_integer : ℤ → List ℕ
printed_integer (pos n) = decimal n
printed_integer (negsuc n) = 45 ∷ decimal (suc n)

abbrev pub printed_word : Word → List ℕ
printed_word (number z) = printed_integer z
printed_word (letter c) = c ∷ []
printed_word (conflict k) = codes "c conflict " ++ decimal k
printed_word other = []

abbrev pub printed_line : List Word → List ℕ
printed_line words = join_with_byte 32 (map printed_word words) ++ 10 ∷ []

-- the lines of a proof's steps, and of a log's steps and marks
abbrev pub printed_proof : List ProofStep → List ℕ
printed_proof steps = flat_map (λ s. printed_line (spelling proof_steps s)) steps

abbrev pub printed_log : List LogEvent → List ℕ
printed_log events = flat_map (λ e. printed_line (spelling log_events e)) events

-- the line of an event, or the line `c tidy R`; and these one after another
abbrev pub printed_log_line : Line LogEvent → List ℕ
printed_log_line (item e) = printed_line (spelling log_events e)
printed_log_line (tidy r) = codes "c tidy " ++ (decimal r ++ 10 ∷ [])

abbrev pub printed_lines : List (Line LogEvent) → List ℕ
printed_lines lines = flat_map printed_log_line lines

-- events that a text can have: proper fields within the limit, and marks of 64 bits
abbrev pub HasText : LogEvent → Type 0
HasText (Step step) = AllByRecursion IsProper (log_fields step) × AllByRecursion (IsWithin log_steps.limit) (spelling log_steps step)
HasText (Conflict k) = k < 2 ^ 64

-- lines that a text can have: such events, and numbers of 64 bits
abbrev pub LineHasText : Line LogEvent → Type 0
LineHasText (item e) = HasText e
LineHasText (tidy r) = r < 2 ^ 64

-- steps that a text can have
abbrev pub HasProofText : ProofStep → Type 0
HasProofText step = AllByRecursion IsProper (proof_fields step) × AllByRecursion (IsWithin proof_steps.limit) (spelling proof_steps step)
