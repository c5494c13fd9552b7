-- The grammar of logs.
use Rattle.std.specs.Prelude.{ℕ, true, false, ◌&&◌, List, [], ◌∷◌, flat_map, length, Option, Some, None, codes}
use Rattle.std.specs.Str.{bytes_eq}
use Rattle.cx_base.specs.declared.steps.LogEvent.{LogEvent}
use Rattle.cx_base.specs.declared.steps.LogEvent.TheVariants as events
use Rattle.cx_base.specs.declared.steps.LogStep.{LogStep}
use Rattle.cx_base.specs.declared.steps.LogStep.TheVariants.{Original, OriginalParity, Clause, ClauseWithHints, Parity, ClauseOfParity, ParityOfClauses, Delete, DeleteParity, Final, FinalParity, MoveClauses, MoveParities}
use Rattle.cx_texts.specs.Tokens.{Token, tokens, lines_from, tokens_of_line, is_comment}
use Rattle.cx_texts.specs.Words.{conflict, Placed, placed_words, natural}
use Rattle.cx_texts.specs.Grammar.{Field, mark, conflict_line, id, end, ids, integers, pairs, Grammar, Reading}
use Rattle.cx_base.specs.Endings.{Ending}

-- `a`, `d`, `f`, `i`, `l`, `o`, `r` and `x` are the bytes 97, 100, 102, 105, 108, 111, 114 and 120
abbrev pub log_fields : LogStep → List Field
log_fields (Original n lits) = mark 111 ∷ id n ∷ integers lits ∷ []
log_fields (OriginalParity n lits) = mark 111 ∷ mark 120 ∷ id n ∷ integers lits ∷ []
log_fields (Clause n lits) = mark 97 ∷ id n ∷ integers lits ∷ []
log_fields (ClauseWithHints n lits hints) = mark 97 ∷ id n ∷ integers lits ∷ mark 108 ∷ integers hints ∷ []
log_fields (Parity n lits sources) = mark 97 ∷ mark 120 ∷ id n ∷ integers lits ∷ mark 108 ∷ ids sources ∷ []
log_fields (ClauseOfParity n lits source) = mark 105 ∷ id n ∷ integers lits ∷ mark 108 ∷ id source ∷ end ∷ []
log_fields (ParityOfClauses n lits sources) = mark 105 ∷ mark 120 ∷ id n ∷ integers lits ∷ mark 108 ∷ ids sources ∷ []
log_fields (Delete n lits) = mark 100 ∷ id n ∷ integers lits ∷ []
log_fields (DeleteParity n lits) = mark 100 ∷ mark 120 ∷ id n ∷ integers lits ∷ []
log_fields (Final n lits) = mark 102 ∷ id n ∷ integers lits ∷ []
log_fields (FinalParity n lits) = mark 102 ∷ mark 120 ∷ id n ∷ integers lits ∷ []
log_fields (MoveClauses moves) = mark 114 ∷ pairs moves ∷ []
log_fields (MoveParities moves) = mark 114 ∷ mark 120 ∷ pairs moves ∷ []

abbrev pub log_steps : Grammar LogStep
log_steps = record { fields = log_fields; limit = 9223372036854775807 }

-- the text is these steps and this ending
abbrev pub LogReads : List ℕ → List LogStep → Ending → Type 0
LogReads text steps ending = Reading log_steps (length text) (placed_words (tokens text)) steps ending

-- The events of a log are its steps and its conflict lines in order: a line whose tokens are `c`, `conflict` and a number is a word of its own, and other `c` lines are dropped.
abbrev pub conflict_number : List Token → Option ℕ
conflict_number (c ∷ word ∷ number ∷ []) = elim (bytes_eq c.text (codes "c") && bytes_eq word.text (codes "conflict")) [ true ↦ natural number.text | false ↦ None ]
conflict_number _ = None

-- A line whose tokens are `c`, `tidy` and a number says that the clauses are tidy. It is passed over among the events.
abbrev pub tidy_number : List Token → Option ℕ
tidy_number (c ∷ word ∷ number ∷ []) = elim (bytes_eq c.text (codes "c") && bytes_eq word.text (codes "tidy")) [ true ↦ natural number.text | false ↦ None ]
tidy_number _ = None

abbrev pub tidy_of_line : List (ℕ × ℕ) → Option ℕ
tidy_of_line line = elim (is_comment line) [ true ↦ tidy_number (tokens_of_line line) | false ↦ None ]

abbrev pub conflict_or : List Placed → ℕ → Option ℕ → List Placed
conflict_or placed place (Some k) = record { place = place; word = conflict k } ∷ []
conflict_or placed place None = placed

abbrev pub event_words_of_line : List (ℕ × ℕ) → List Placed
event_words_of_line [] = []
event_words_of_line (b ∷ line) = elim (is_comment (b ∷ line)) [ true ↦ conflict_or [] b.0 (conflict_number (tokens_of_line (b ∷ line))) | false ↦ placed_words (tokens_of_line (b ∷ line)) ]

abbrev pub event_fields : LogEvent → List Field
event_fields (events.Step step) = log_fields step
event_fields (events.Conflict k) = conflict_line k ∷ []

abbrev pub log_events : Grammar LogEvent
log_events = record { fields = event_fields; limit = 9223372036854775807 }

-- the text is these events and this ending
abbrev pub EventsRead : List ℕ → List LogEvent → Ending → Type 0
EventsRead text list ending = Reading log_events (length text) (flat_map event_words_of_line (lines_from 0 text)) list ending
