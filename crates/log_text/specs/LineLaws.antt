-- What a port that was given lines of events and tidy lines tells.
use Rattle.std.proofs.Common.{◌≡◌, refl, sym, ap, ◌∙◌, subst, ℕ, ◌+◌, ◌^◌, ◌<◌, ◌≤◌, true, List, [], ◌∷◌, ◌++◌, map, flat_map, length, take, append_assoc, append-nil, length-append, arith, Option, Some, None}
use Rattle.std.specs.List.{AllByRecursion, enumerate_from}
use Rattle.std.proofs.lemmas.Grind.{flat_map-append}
use Rattle.std.proofs.lemmas.List.{take-append-le}
use Rattle.cx_desk.specs.declared.desk.Port.TheVariants.{Proof}
use Rattle.cx_desk.specs.Outside.{Bytes, Outside}
use Rattle.cx_desk.specs.Calls.{gained}
use Rattle.cx_base.specs.Endings.{Ending, finished}
use Rattle.cx_base.specs.Lines.{Line, item, tidy, items_of}
use Rattle.cx_base.specs.declared.steps.LogEvent.{LogEvent}
use Rattle.cx_texts.specs.Tokens.{lines_from}
use Rattle.cx_texts.specs.LogText.{log_events, EventsRead, event_words_of_line, tidy_of_line}
use Rattle.cx_texts.specs.Printed.{printed_log_line, printed_lines, printed_log, HasText, LineHasText}
use Rattle.cx_texts.proofs.Grammars.{event_forms}
use Rattle.cx_texts.proofs.Readings.{one_reading}
use Rattle.cx_texts.proofs.Lines.{NoFeed, lines-line}
use Rattle.cx_texts.proofs.PrintedLogs.{line_text, no_feed_event, printed_log_reads}
use Rattle.cx_texts.proofs.LogLines.{tidy_text, no_feed_tidy, tidy_is_read, event_no_tidy, tidy_has_no_word, items_of_items, items_of_both}
use Rattle.proof_text.specs.Told.{whole_lines, begun_line, is_none, is_whole}
use Rattle.proof_text.proofs.ToldLaws.{no_feed_front, lines-append, begun-append, no_line, all_begun, one_line, line_ends, none_left}
use Rattle.step_text.specs.Sinks.{with_tidy}
use Rattle.step_text.proofs.Puts.{Fails}
use Rattle.log_text.specs.Told.{event_line, events_read, told_events, events_told}
use Rattle.log_text.specs.Lines.{tidy_alone, tidy_or, lines_read, told_lines, lines_told}

-- ---- a printed event

pub event_is_read : (s : LogEvent) → HasText s → events_read (event_line s) ≡ s ∷ []
event_is_read s h =
    let reads = printed_log_reads (s ∷ []) (h, tt) in
    let text : printed_log (s ∷ []) ≡ event_line s = append-nil (event_line s) in
    let one = (one_reading log_events event_forms (length (event_line s)) (flat_map event_words_of_line (lines_from 0 (event_line s)))).2 (s ∷ [], finished) (subst (λ (t : Bytes). EventsRead t (s ∷ []) finished) text reads) in
    ap (λ (x : List LogEvent × Ending). x.0) (sym one)

-- ---- a printed line has one line feed, at its end

abbrev words_text : Line LogEvent → Bytes
words_text (item e) = line_text e
words_text (tidy r) = tidy_text r

is_words : (l : Line LogEvent) → printed_log_line l ≡ words_text l ++ 10 ∷ []
is_words (item e) = refl
is_words (tidy r) = refl

no_feed_line : (l : Line LogEvent) → LineHasText l → NoFeed (words_text l)
no_feed_line (item e) h = no_feed_event e h
no_feed_line (tidy r) h = no_feed_tidy r h

-- ---- it is read as itself

one_whole : (text : Bytes) → NoFeed text → tidy_alone (lines_from 0 (text ++ 10 ∷ [])) ≡ tidy_of_line (enumerate_from 0 text)
one_whole text h = ap tidy_alone (lines-line 0 text [] h)

line_is_read : (l : Line LogEvent) → LineHasText l → lines_read (printed_log_line l) ≡ l ∷ []
line_is_read (item e) h = ap (tidy_or (events_read (event_line e))) (one_whole (line_text e) (no_feed_event e h) ∙ event_no_tidy 0 e h) ∙ ap (map item) (event_is_read e h)
line_is_read (tidy r) h = ap (tidy_or (events_read (printed_log_line (tidy r)))) (one_whole (tidy_text r) (no_feed_tidy r h) ∙ tidy_is_read 0 r h)

pub told_line : (b : Bytes) (l : Line LogEvent) → begun_line [] b ≡ [] → LineHasText l → told_lines (b ++ printed_log_line l) ≡ told_lines b ++ l ∷ []
told_line b l e h =
    ap (flat_map lines_read) (lines-append [] b (printed_log_line l) ∙ ap (λ x. whole_lines [] b ++ whole_lines x (printed_log_line l)) e
    ∙ ap (λ ls. whole_lines [] b ++ ls) (ap (whole_lines []) (is_words l) ∙ one_line (words_text l) (no_feed_line l h) ∙ ap (λ x. x ∷ []) (sym (is_words l))))
    ∙ flat_map-append lines_read (whole_lines [] b) (printed_log_line l ∷ [])
    ∙ ap (λ x. told_lines b ++ x) (append-nil (lines_read (printed_log_line l)) ∙ line_is_read l h)

pub whole_again : (b : Bytes) (l : Line LogEvent) → begun_line [] b ≡ [] → LineHasText l → begun_line [] (b ++ printed_log_line l) ≡ []
whole_again b l e h = begun-append [] b (printed_log_line l) ∙ ap (λ x. begun_line x (printed_log_line l)) e ∙ ap (begun_line []) (is_words l) ∙ line_ends (words_text l) (no_feed_line l h)

-- a proper prefix of a line is a prefix of its words
front_of_words : (l : Line LogEvent) (k : ℕ) → k < length (printed_log_line l) → take k (printed_log_line l) ≡ take k (words_text l)
front_of_words l k low =
    let n : length (printed_log_line l) ≡ length (words_text l) + 1 = ap (λ (x : Bytes). length x) (is_words l) ∙ length-append (words_text l) (10 ∷ []) in
    let within : k ≤ length (words_text l) = omega arith in
    ap (take k) (is_words l) ∙ take-append-le k (words_text l) (10 ∷ []) within

pub told_line_front : (b : Bytes) (l : Line LogEvent) (k : ℕ) → LineHasText l → k < length (printed_log_line l) → told_lines (b ++ take k (printed_log_line l)) ≡ told_lines b
told_line_front b l k h low =
    ap (λ x. told_lines (b ++ x)) (front_of_words l k low)
    ∙ ap (flat_map lines_read) (lines-append [] b (take k (words_text l)) ∙ ap (λ ls. whole_lines [] b ++ ls) (no_line (begun_line [] b) (take k (words_text l)) (no_feed_front k (words_text l) (no_feed_line l h))) ∙ append-nil (whole_lines [] b))

-- a port of whole lines that was given these lines tells them besides
pub told_all : (b : Bytes) (lines : List (Line LogEvent)) → begun_line [] b ≡ [] → AllByRecursion LineHasText lines → told_lines (b ++ printed_lines lines) ≡ told_lines b ++ lines
told_all b [] e h = ap told_lines (append-nil b) ∙ sym (append-nil (told_lines b))
told_all b (l ∷ lines) e h =
    ap told_lines (sym (append_assoc b (printed_log_line l) (printed_lines lines)))
    ∙ told_all (b ++ printed_log_line l) lines (whole_again b l e h.0) h.1
    ∙ ap (λ x. x ++ lines) (told_line b l e h.0) ∙ append_assoc (told_lines b) (l ∷ []) lines

-- lines leave no line begun
pub begun_lines : (b : Bytes) (lines : List (Line LogEvent)) → begun_line [] b ≡ [] → AllByRecursion LineHasText lines → begun_line [] (b ++ printed_lines lines) ≡ []
begun_lines b [] e h = ap (begun_line []) (append-nil b) ∙ e
begun_lines b (l ∷ lines) e h = ap (begun_line []) (sym (append_assoc b (printed_log_line l) (printed_lines lines))) ∙ begun_lines (b ++ printed_log_line l) lines (whole_again b l e h.0) h.1

-- a prefix of a line after whole lines is the line that is begun
pub begun_part : (b : Bytes) (l : Line LogEvent) (k : ℕ) → begun_line [] b ≡ [] → LineHasText l → k < length (printed_log_line l) → begun_line [] (b ++ take k (printed_log_line l)) ≡ take k (printed_log_line l)
begun_part b l k e h low =
    let front = front_of_words l k low in
    begun-append [] b (take k (printed_log_line l)) ∙ ap (λ x. begun_line x (take k (printed_log_line l))) e ∙ ap (begun_line []) front
    ∙ all_begun [] (take k (words_text l)) (no_feed_front k (words_text l) (no_feed_line l h)) ∙ sym front

-- ---- the items among them are the events

events_of_words : ℕ → List (List (ℕ × ℕ)) → List LogEvent
events_of_words len ls = (one_reading log_events event_forms len (flat_map event_words_of_line ls)).0.0

no_event : (len : ℕ) (line : List (ℕ × ℕ)) (r : ℕ) → tidy_of_line line ≡ Some r → [] ≡ events_of_words len (line ∷ [] ∷ [])
unfolding events_of_words
no_event len line r h =
    let none : flat_map event_words_of_line (line ∷ [] ∷ []) ≡ [] = append-nil (event_words_of_line line) ∙ tidy_has_no_word line r h in
    ap (λ (x : List LogEvent × Ending). x.0) ((one_reading log_events event_forms len (flat_map event_words_of_line (line ∷ [] ∷ []))).2 ([], finished) none)

items_by : (len : ℕ) (ls : List (List (ℕ × ℕ))) → items_of (tidy_or (events_of_words len ls) (tidy_alone ls)) ≡ events_of_words len ls
items_by len [] = items_of_items (events_of_words len [])
items_by len (line ∷ []) = items_of_items (events_of_words len (line ∷ []))
items_by len (line ∷ [] ∷ []) = go (tidy_of_line line) (no_event len line)
  where
    go : (t : Option ℕ) → ((r : ℕ) → t ≡ Some r → [] ≡ events_of_words len (line ∷ [] ∷ [])) → items_of (tidy_or (events_of_words len (line ∷ [] ∷ [])) t) ≡ events_of_words len (line ∷ [] ∷ [])
    go None none = items_of_items (events_of_words len (line ∷ [] ∷ []))
    go (Some r) none = none r refl
items_by len (line ∷ [] ∷ other ∷ ls) = items_of_items (events_of_words len (line ∷ [] ∷ other ∷ ls))
items_by len (line ∷ (b ∷ bs) ∷ ls) = items_of_items (events_of_words len (line ∷ (b ∷ bs) ∷ ls))

items_read : (text : Bytes) → items_of (lines_read text) ≡ events_read text
unfolding events_of_words
items_read text = items_by (length text) (lines_from 0 text)

items_of_all : (texts : List Bytes) → flat_map events_read texts ≡ items_of (flat_map lines_read texts)
items_of_all [] = refl
items_of_all (t ∷ texts) = (λ i. sym (items_read t) i ++ items_of_all texts i) ∙ sym (items_of_both (lines_read t) (flat_map lines_read texts))

pub items_told : (b : Bytes) → told_events b ≡ items_of (told_lines b)
items_told b = items_of_all (whole_lines [] b)

same_items : (a b : Bytes) → told_lines a ≡ told_lines b → told_events a ≡ told_events b
same_items a b e = items_told a ∙ ap items_of e ∙ sym (items_told b)

-- ---- a tidy line on the outside

module _ (o : Outside) (r : ℕ) (small : r < 2 ^ 64) where
  pub gained_tidy : is_whole o ≡ true → lines_told (gained Proof (printed_log_line (tidy r)) o) ≡ with_tidy r (lines_told o)
  gained_tidy w = ap Some (told_line o.written.proof (tidy r) (none_left _ w) small)

  pub gained_no_event : is_whole o ≡ true → events_told (gained Proof (printed_log_line (tidy r)) o) ≡ events_told o
  gained_no_event w =
      ap Some (items_told (o.written.proof ++ printed_log_line (tidy r)) ∙ ap items_of (told_line o.written.proof (tidy r) (none_left _ w) small) ∙ items_of_both (told_lines o.written.proof) (tidy r ∷ [])
      ∙ append-nil (items_of (told_lines o.written.proof)) ∙ sym (items_told o.written.proof))

  pub tidied_whole : is_whole o ≡ true → is_whole (gained Proof (printed_log_line (tidy r)) o) ≡ true
  tidied_whole w = ap is_none (whole_again o.written.proof (tidy r) (none_left _ w) small)

  module _ (new : Outside) (fails : Fails Proof (printed_log_line (tidy r)) o new) where
    front_told : told_lines new.written.proof ≡ told_lines o.written.proof
    front_told = ap (λ (x : Outside). told_lines x.written.proof) fails.2.else_same ∙ told_line_front o.written.proof (tidy r) fails.0 small fails.1

    pub torn_lines : lines_told new ≡ lines_told o
    torn_lines = ap Some front_told

    pub torn_no_event : events_told new ≡ events_told o
    torn_no_event = ap Some (same_items new.written.proof o.written.proof front_told)
