-- The steps of a log's events are the steps of its text.
use Rattle.std.proofs.Common.{◌≡◌, refl, sym, ap, ◌∙◌, subst, ℕ, ℤ, Bool, true, false, cond, not, List, [], ◌∷◌, ◌++◌, filter, flat_map, length, Option, Some, None, append-nil}
use Rattle.std.specs.List.{AllByRecursion}
use Rattle.std.proofs.lemmas.List.{map-append}
use Rattle.cx_base.specs.declared.steps.LogStep.{LogStep}
use Rattle.cx_base.specs.declared.steps.LogEvent.{LogEvent}
use Rattle.cx_base.specs.declared.steps.LogEvent.TheVariants.{Step, Conflict}
use Rattle.cx_texts.specs.Tokens.{Token, tokens, lines_from, tokens_of_line, tokens_of_lines, is_comment}
use Rattle.cx_texts.specs.Words.{Word, number, letter, conflict, other, Placed, words, placed_words, word_of, number_or, letter_or_other, integer}
use Rattle.cx_texts.specs.Grammar.{IsStep, Stops, Reading}
use Rattle.cx_base.specs.Endings.{finished}
use Rattle.cx_texts.specs.LogText.{log_steps, log_events, LogReads, EventsRead, event_words_of_line, conflict_or, conflict_number}
use Rattle.cx_base.specs.Events.{steps_of}
use Rattle.cx_texts.proofs.SpokenWords.{IsSpoken, spoken_log_step}
use Rattle.cx_texts.proofs.LogSteps.{IsFirst, first_word, no_more}

-- ---- words but for conflict lines

abbrev is_said : Word → Bool
is_said (number z) = true
is_said (letter c) = true
is_said (conflict k) = false
is_said other = true

abbrev said : List Placed → List Placed
said placed = filter (λ p. is_said p.word) placed

said-append : (a b : List Placed) → said (a ++ b) ≡ said a ++ said b
said-append [] b = refl
said-append (p ∷ a) b = elim (is_said p.word) as (λ x. cond x (p ∷ said (a ++ b)) (said (a ++ b)) ≡ cond x (p ∷ said a) (said a) ++ said b) [
  | true ↦ ap (λ r. p ∷ r) (said-append a b)
  | false ↦ said-append a b
]

number_said : (w : Word) (o : Option ℤ) → is_said w ≡ true → is_said (number_or w o) ≡ true
number_said w (Some z) h = refl
number_said w None h = h

letter_said : (text : List ℕ) → is_said (letter_or_other text) ≡ true
letter_said [] = refl
letter_said (b ∷ []) = refl
letter_said (b ∷ c ∷ bs) = refl

said-tokens : (ts : List Token) → said (placed_words ts) ≡ placed_words ts
said-tokens [] = refl
said-tokens (t ∷ ts) =
    ap (λ x. cond x (record { place = t.place; word = word_of t.text } ∷ said (placed_words ts)) (said (placed_words ts))) (number_said (letter_or_other t.text) (integer t.text) (letter_said t.text))
    ∙ ap (λ r. record { place = t.place; word = word_of t.text } ∷ r) (said-tokens ts)

abbrev Line : Type 0
Line = List (ℕ × ℕ)

said-conflict : (place : ℕ) (o : Option ℕ) → said (conflict_or [] place o) ≡ []
said-conflict place (Some k) = refl
said-conflict place None = refl

line_step : (line : Line) (rest : List Token) → said (event_words_of_line line) ++ placed_words rest ≡ placed_words (flat_map tokens_of_line (cond (not (is_comment line)) (line ∷ []) []) ++ rest)
line_step [] rest = refl
line_step (b ∷ line) rest = elim (is_comment (b ∷ line)) as (λ x. said (elim x [ true ↦ conflict_or [] b.0 (conflict_number (tokens_of_line (b ∷ line))) | false ↦ placed_words (tokens_of_line (b ∷ line)) ]) ++ placed_words rest
    ≡ placed_words (flat_map tokens_of_line (cond (not x) ((b ∷ line) ∷ []) []) ++ rest)) [
      | true ↦ ap (λ r. r ++ placed_words rest) (said-conflict b.0 (conflict_number (tokens_of_line (b ∷ line))))
      | false ↦ ap (λ r. r ++ placed_words rest) (said-tokens (tokens_of_line (b ∷ line))) ∙ sym (map-append _ (tokens_of_line (b ∷ line)) rest)
          ∙ ap (λ r. placed_words (r ++ rest)) (sym (append-nil (tokens_of_line (b ∷ line))))
    ]

kept_first : (line : Line) (lines : List Line) → flat_map tokens_of_line (cond (not (is_comment line)) (line ∷ []) []) ++ tokens_of_lines lines ≡ tokens_of_lines (line ∷ lines)
kept_first line lines = elim (not (is_comment line)) as (λ x. flat_map tokens_of_line (cond x (line ∷ []) []) ++ tokens_of_lines lines ≡ flat_map tokens_of_line (cond x (line ∷ filter (λ l. not (is_comment l)) lines) (filter (λ l. not (is_comment l)) lines))) [
  | true ↦ ap (λ r. r ++ tokens_of_lines lines) (append-nil (tokens_of_line line))
  | false ↦ refl
]

-- the words of the events but for conflict lines are those of the tokens
said-lines : (lines : List Line) → said (flat_map event_words_of_line lines) ≡ placed_words (tokens_of_lines lines)
said-lines [] = refl
said-lines (line ∷ lines) =
    said-append (event_words_of_line line) (flat_map event_words_of_line lines)
    ∙ ap (λ r. said (event_words_of_line line) ++ r) (said-lines lines)
    ∙ line_step line (tokens_of_lines lines) ∙ ap placed_words (kept_first line lines)

-- ---- readings

-- the words of a step are said
abbrev AllSaid : List Word → Type 0
AllSaid ws = AllByRecursion (λ w. is_said w ≡ true) ws

spoken_said : (w : Word) → IsSpoken w → is_said w ≡ true
spoken_said (number z) h = refl
spoken_said (letter c) h = refl
spoken_said (conflict k) h = absurd h
spoken_said other h = absurd h

all_said : (ws : List Word) → AllByRecursion IsSpoken ws → AllSaid ws
all_said [] h = tt
all_said (w ∷ ws) h = (spoken_said w h.0, all_said ws h.1)

said_all : (placed : List Placed) → AllSaid (words placed) → said placed ≡ placed
said_all [] h = refl
said_all (p ∷ placed) h = ap (λ x. cond x (p ∷ said placed) (said placed)) h.0 ∙ ap (λ r. p ∷ r) (said_all placed h.1)

-- the first word of what is read as steps begins one
reading_first : (len : ℕ) (placed : List Placed) (steps : List LogStep) → Reading log_steps len placed steps finished → (p : Placed) (rest : List Placed) → placed ≡ p ∷ rest → IsFirst p.word
reading_first len placed [] r p rest e = let k : ◌≡◌ {A = List Placed} [] (p ∷ rest) = sym r ∙ e in cc
reading_first len placed (s ∷ steps) (more, sp, r) p rest e = first_word s placed sp.front more p rest sp.step sp.split e

stops_said : (len : ℕ) (s : LogStep) (front rest : List Placed) (steps : List LogStep) → IsStep log_steps (words front) s → Reading log_steps len rest steps finished → Stops log_steps (words front) rest
stops_said len s front [] steps h r = tt
stops_said len s front (p ∷ rest) steps h r = no_more s (words front) p.word h (reading_first len (p ∷ rest) steps r p rest refl)

words_conflict : (k : ℕ) (front : List Placed) → words front ≡ conflict k ∷ [] → said front ≡ []
words_conflict k [] e = refl
words_conflict k (p ∷ []) e = let h : p.word ≡ conflict k = cc (e) in ap (λ w. cond (is_said w) (p ∷ []) []) h
words_conflict k (p ∷ q ∷ front) e = cc

pub steps_reading : (len : ℕ) (placed : List Placed) (events : List LogEvent) → Reading log_events len placed events finished → Reading log_steps len (said placed) (steps_of events) finished
steps_reading len placed [] r = ap said r
steps_reading len placed (Conflict k ∷ events) (rest, sp, r) =
    subst (λ x. Reading log_steps len x (steps_of events) finished)
    (sym (ap said sp.split ∙ said-append sp.front rest ∙ ap (λ x. x ++ said rest) (words_conflict k sp.front (sym sp.step.1)))) (steps_reading len rest events r)
steps_reading len placed (Step s ∷ events) (rest, sp, r) =
    let more = steps_reading len rest events r in
    let same : said sp.front ≡ sp.front = said_all sp.front (subst AllSaid sp.step.1 (all_said _ (spoken_log_step s))) in (
      said rest,
      record {
        front = sp.front;
        split = ap said sp.split ∙ said-append sp.front rest ∙ ap (λ x. x ++ said rest) same;
        step = sp.step;
        within = sp.within;
        stops = stops_said len s sp.front (said rest) (steps_of events) sp.step more;
      },
      more,
    )

-- where a text's events are these, its steps are theirs
pub events_give_steps : (text : List ℕ) (events : List LogEvent) → EventsRead text events finished → LogReads text (steps_of events) finished
unfolding tokens
events_give_steps text events r = subst (λ x. Reading log_steps (length text) x (steps_of events) finished) (said-lines (lines_from 0 text)) (steps_reading (length text) _ events r)
