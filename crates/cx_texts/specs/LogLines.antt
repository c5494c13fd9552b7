-- The lines of a log: its events and its tidy lines in order.
use Rattle.std.specs.Prelude.{◌≡◌, ℕ, List, [], ◌∷◌, ◌++◌, map, length, MatchOption}
use Rattle.cx_base.specs.declared.steps.LogEvent.{LogEvent}
use Rattle.cx_base.specs.Endings.{finished}
use Rattle.cx_base.specs.Lines.{Line, item, tidy}
use Rattle.cx_texts.specs.Tokens.{lines_from}
use Rattle.cx_texts.specs.Words.{Placed}
use Rattle.cx_texts.specs.Grammar.{Reading}
use Rattle.cx_texts.specs.LogText.{log_events, event_words_of_line, tidy_of_line}

-- the lines are those of the events that these words are read as, a tidy line, and others
abbrev pub CutAt : ℕ → List Placed → List (Line LogEvent) → (List (Line LogEvent) → Type 0) → ℕ → Type 0
CutAt len placed lines AreOthers r =
    (events : List LogEvent) × (more : List (Line LogEvent)) × (lines ≡ map item events ++ tidy r ∷ more) × Reading log_events len placed events finished × AreOthers more

-- Between two tidy lines are whole events: these words, and those of the lines up to the next tidy line, are read as events.
abbrev pub LinesAfter : ℕ → List Placed → List (List (ℕ × ℕ)) → List (Line LogEvent) → Type 0
LinesAfter len placed [] lines = (events : List LogEvent) × (lines ≡ map item events) × Reading log_events len placed events finished
LinesAfter len placed (l ∷ ls) lines = MatchOption (tidy_of_line l) (LinesAfter len (placed ++ event_words_of_line l) ls lines) (CutAt len placed lines (LinesAfter len [] ls))

-- the whole text is these lines
abbrev pub LinesRead : List ℕ → List (Line LogEvent) → Type 0
LinesRead text lines = LinesAfter (length text) [] (lines_from 0 text) lines
