-- The lines of a log: what is printed is read, in one way, and its items are the text's events.
use Rattle.std.proofs.Common.{◌≡◌, refl, sym, ap, ◌∙◌, subst, ℕ, ◌+◌, ◌^◌, ◌<◌, Bool, true, false, ◌&&◌, lit<, lt_trans, List, [], ◌∷◌, ◌++◌, map, flat_map, length, Option, Some, None, MatchOption, append_assoc, append-nil, codes, decimal}
use Rattle.std.specs.List.{AllByRecursion, enumerate_from, join_with_byte}
use Rattle.std.specs.Str.{bytes_eq}
use Rattle.std.proofs.lemmas.Fmt.{decimal_is_IsNumeral_wide}
use Rattle.std.proofs.lemmas.Slice.Eq.{bytes_eq-Decides}
use Rattle.std.proofs.lemmas.List.Elements.{filter_map-append}
use Rattle.cx_base.specs.declared.steps.LogEvent.{LogEvent}
use Rattle.cx_base.specs.declared.steps.LogEvent.TheVariants.{Step, Conflict}
use Rattle.cx_base.specs.Endings.{Ending, finished}
use Rattle.cx_base.specs.Lines.{Line, item, tidy, item_of, items_of}
use Rattle.cx_texts.specs.Tokens.{Token, is_comment, lines_from, tokens_of_line}
use Rattle.cx_texts.specs.Words.{Placed, words, natural, placed_words}
use Rattle.cx_texts.specs.Grammar.{Reading}
use Rattle.cx_texts.specs.LogText.{log_events, EventsRead, event_words_of_line, conflict_or, conflict_number, tidy_number, tidy_of_line}
use Rattle.cx_texts.specs.LogLines.{CutAt, LinesAfter, LinesRead}
use Rattle.cx_texts.specs.Printed.{printed_lines, HasText, LineHasText}
use Rattle.cx_texts.proofs.DigitLaws.{digits_are, natural_all}
use Rattle.cx_texts.proofs.Grammars.{event_forms}
use Rattle.cx_texts.proofs.Lines.{NoFeed, lines-line}
use Rattle.cx_texts.proofs.PrintedLogs.{mark_pieces, are_pieces, line_text, no_feed_event, step_no_comment, event_on, event_stops}
use Rattle.cx_texts.proofs.PrintedWords.{IsPiece, decimal_piece, texts, texts-joined, no_feed_joined}
use Rattle.cx_texts.proofs.Readings.{one_reading}

abbrev ByteLine : Type 0
ByteLine = List (ℕ × ℕ)

-- ---- tidy lines and events

-- a tidy line is no conflict line
no_conflict : (ts : List Token) (r : ℕ) → tidy_number ts ≡ Some r → conflict_number ts ≡ None
no_conflict [] r e = refl
no_conflict (a ∷ []) r e = refl
no_conflict (a ∷ b ∷ []) r e = refl
no_conflict (a ∷ b ∷ d ∷ []) r e = go (bytes_eq a.text (codes "c")) (bytes_eq b.text (codes "tidy")) ((bytes_eq-Decides b.text (codes "tidy")).0) e
  where
    go : (x y : Bool) → (y ≡ true → b.text ≡ codes "tidy") → ◌≡◌ {A = Option ℕ} (elim (x && y) [ true ↦ natural d.text | false ↦ None ]) (Some r)
        → ◌≡◌ {A = Option ℕ} (elim (x && bytes_eq b.text (codes "conflict")) [ true ↦ natural d.text | false ↦ None ]) None
    go false y is e = refl
    go true false is e = cc
    go true true is e = ap (λ t. elim (bytes_eq t (codes "conflict")) [ true ↦ natural d.text | false ↦ None ]) (is refl)
no_conflict (a ∷ b ∷ d ∷ f ∷ ts) r e = refl

-- it has no word of an event
pub tidy_has_no_word : (line : ByteLine) (r : ℕ) → tidy_of_line line ≡ Some r → event_words_of_line line ≡ []
tidy_has_no_word [] r e = refl
tidy_has_no_word (b ∷ line) r e = go (is_comment (b ∷ line)) e
  where
    go : (x : Bool) → ◌≡◌ {A = Option ℕ} (elim x [ true ↦ tidy_number (tokens_of_line (b ∷ line)) | false ↦ None ]) (Some r)
        → ◌≡◌ {A = List Placed} (elim x [ true ↦ conflict_or [] b.0 (conflict_number (tokens_of_line (b ∷ line))) | false ↦ placed_words (tokens_of_line (b ∷ line)) ]) []
    go true e = ap (conflict_or [] b.0) (no_conflict (tokens_of_line (b ∷ line)) r e)
    go false e = cc

-- an event's line is no tidy line
mark_no_tidy : (ts : List Token) (k : ℕ) → texts ts ≡ codes "c" ∷ codes "conflict" ∷ decimal k ∷ [] → tidy_number ts ≡ None
mark_no_tidy [] k e = cc
mark_no_tidy (a ∷ []) k e = cc
mark_no_tidy (a ∷ b ∷ []) k e = cc
mark_no_tidy (a ∷ b ∷ d ∷ []) k e =
    let x : a.text ≡ codes "c" = cc (e) in
    let y : b.text ≡ codes "conflict" = cc (e) in
    (λ i. elim (bytes_eq (x i) (codes "c") && bytes_eq (y i) (codes "tidy")) [ true ↦ natural d.text | false ↦ None ])
mark_no_tidy (a ∷ b ∷ d ∷ f ∷ ts) k e = cc

pub event_no_tidy : (m : ℕ) (e : LogEvent) → HasText e → tidy_of_line (enumerate_from m (line_text e)) ≡ None
event_no_tidy m (Step s) h = ap (λ x. elim x [ true ↦ tidy_number (tokens_of_line (enumerate_from m (line_text (Step s)))) | false ↦ None ]) (step_no_comment m s)
event_no_tidy m (Conflict k) h = mark_no_tidy (tokens_of_line (enumerate_from m (join_with_byte 32 (mark_pieces k)))) k (texts-joined (mark_pieces k) m (are_pieces k h))

-- ---- a printed tidy line

abbrev pub tidy_pieces : ℕ → List (List ℕ)
tidy_pieces r = codes "c" ∷ codes "tidy" ∷ decimal r ∷ []

abbrev pub tidy_text : ℕ → List ℕ
tidy_text r = join_with_byte 32 (tidy_pieces r)

small_tidy : (r : ℕ) → r < 2 ^ 64 → r < 10 ^ 64
small_tidy r h = lt_trans h (lit< tt)

are_tidy_pieces : (r : ℕ) → r < 2 ^ 64 → AllByRecursion IsPiece (tidy_pieces r)
are_tidy_pieces r h = (
  record { first = 99; rest = []; is = refl; no_blank = (refl, tt) },
  (record { first = 116; rest = codes "idy"; is = refl; no_blank = (refl, (refl, (refl, (refl, tt)))) }, (decimal_piece (decimal r) (decimal_is_IsNumeral_wide r (small_tidy r h)).0, tt)),
)

pub no_feed_tidy : (r : ℕ) → r < 2 ^ 64 → NoFeed (tidy_text r)
no_feed_tidy r h = no_feed_joined (tidy_pieces r) (are_tidy_pieces r h)

number_of_texts : (ts : List Token) (r : ℕ) → texts ts ≡ tidy_pieces r → tidy_number ts ≡ natural (decimal r)
number_of_texts [] r e = cc
number_of_texts (a ∷ []) r e = cc
number_of_texts (a ∷ b ∷ []) r e = cc
number_of_texts (a ∷ b ∷ d ∷ []) r e =
    let x : a.text ≡ codes "c" = cc (e) in
    let y : b.text ≡ codes "tidy" = cc (e) in
    let z : d.text ≡ decimal r = cc (e) in
    (λ i. elim (bytes_eq (x i) (codes "c") && bytes_eq (y i) (codes "tidy")) [ true ↦ natural (z i) | false ↦ None ])
number_of_texts (a ∷ b ∷ d ∷ f ∷ ts) r e = cc

pub tidy_is_read : (m r : ℕ) → r < 2 ^ 64 → tidy_of_line (enumerate_from m (tidy_text r)) ≡ Some r
tidy_is_read m r h =
    let d = decimal_is_IsNumeral_wide r (small_tidy r h) in
    number_of_texts (tokens_of_line (enumerate_from m (tidy_text r))) r (texts-joined (tidy_pieces r) m (are_tidy_pieces r h)) ∙ natural_all (decimal r) d.0.0 (digits_are (decimal r) d.0.1) ∙ ap Some d.1

-- ---- what is printed is read

-- an event's words before those of other lines give its line before them
event_ahead : (len m : ℕ) (e : LogEvent) → HasText e → (placed : List Placed) (ls : List ByteLine) (lines : List (Line LogEvent)) → LinesAfter len placed ls lines
    → LinesAfter len (event_words_of_line (enumerate_from m (line_text e)) ++ placed) ls (item e ∷ lines)
event_ahead len m e h placed [] lines (events, are, reads) = (e ∷ events, ap (λ x. item e ∷ x) are, event_on len m e placed events h reads)
event_ahead len m e h placed (l ∷ ls) lines r =
    let front = event_words_of_line (enumerate_from m (line_text e)) in
    elim (tidy_of_line l) as (λ t. MatchOption t (LinesAfter len (placed ++ event_words_of_line l) ls lines) (CutAt len placed lines (LinesAfter len [] ls))
    → MatchOption t (LinesAfter len ((front ++ placed) ++ event_words_of_line l) ls (item e ∷ lines)) (CutAt len (front ++ placed) (item e ∷ lines) (LinesAfter len [] ls))) [
      | Some q ↦ λ cut. (e ∷ cut.0, cut.1, ap (λ x. item e ∷ x) cut.2, event_on len m e placed cut.0 h cut.3, cut.4)
      | None ↦ λ rest. subst (λ x. LinesAfter len x ls (item e ∷ lines)) (sym (append_assoc front placed (event_words_of_line l))) (event_ahead len m e h (placed ++ event_words_of_line l) ls lines rest)
    ] r

lines_printed : (len m : ℕ) (lines : List (Line LogEvent)) → AllByRecursion LineHasText lines → LinesAfter len [] (lines_from m (printed_lines lines)) lines
lines_printed len m [] h = ([], refl, refl)
lines_printed len m (item e ∷ lines) h =
    let next : ℕ = (m + length (line_text e)) + 1 in
    let split : lines_from m (printed_lines (item e ∷ lines)) ≡ enumerate_from m (line_text e) ∷ lines_from next (printed_lines lines) =
    ap (lines_from m) (append_assoc (line_text e) (10 ∷ []) (printed_lines lines)) ∙ lines-line m (line_text e) (printed_lines lines) (no_feed_event e h.0) in
    let rest = event_ahead len m e h.0 [] (lines_from next (printed_lines lines)) lines (lines_printed len next lines h.1) in
    let other = event_no_tidy m e h.0 in
    subst (λ x. LinesAfter len [] x (item e ∷ lines)) (sym split)
    (subst (λ t. MatchOption t (LinesAfter len (event_words_of_line (enumerate_from m (line_text e))) (lines_from next (printed_lines lines)) (item e ∷ lines)) (CutAt len [] (item e ∷ lines) (LinesAfter len [] (lines_from next (printed_lines lines)))))
    (sym other) (subst (λ x. LinesAfter len x (lines_from next (printed_lines lines)) (item e ∷ lines)) (append-nil (event_words_of_line (enumerate_from m (line_text e)))) rest))
lines_printed len m (tidy r ∷ lines) h =
    let next : ℕ = (m + length (tidy_text r)) + 1 in
    let split : lines_from m (printed_lines (tidy r ∷ lines)) ≡ enumerate_from m (tidy_text r) ∷ lines_from next (printed_lines lines) =
    ap (lines_from m) (append_assoc (tidy_text r) (10 ∷ []) (printed_lines lines)) ∙ lines-line m (tidy_text r) (printed_lines lines) (no_feed_tidy r h.0) in
    subst (λ x. LinesAfter len [] x (tidy r ∷ lines)) (sym split)
    (subst (λ t. MatchOption t (LinesAfter len (event_words_of_line (enumerate_from m (tidy_text r))) (lines_from next (printed_lines lines)) (tidy r ∷ lines)) (CutAt len [] (tidy r ∷ lines) (LinesAfter len [] (lines_from next (printed_lines lines)))))
    (sym (tidy_is_read m r h.0)) ([], lines, refl, refl, lines_printed len next lines h.1))

pub printed_lines_read : (lines : List (Line LogEvent)) → AllByRecursion LineHasText lines → LinesRead (printed_lines lines) lines
printed_lines_read lines h = lines_printed (length (printed_lines lines)) 0 lines h

-- ---- the items are the events

pub items_of_items : {I : Type 0} (events : List I) → items_of (map item events) ≡ events
items_of_items [] = refl
items_of_items (e ∷ events) = ap (λ x. e ∷ x) (items_of_items events)

pub items_of_both : {I : Type 0} (a b : List (Line I)) → items_of (a ++ b) ≡ items_of a ++ items_of b
items_of_both a b = filter_map-append item_of a b

reading_both : (len : ℕ) (p q : List Placed) (xs ys : List LogEvent) → Reading log_events len p xs finished → Reading log_events len q ys finished → Reading log_events len (p ++ q) (xs ++ ys) finished
reading_both len p q [] ys r s = subst (λ x. Reading log_events len (x ++ q) ys finished) (sym r) s
reading_both len p q (e ∷ xs) ys (rest, sp, r) s =
    let more = reading_both len rest q xs ys r s in (
      rest ++ q,
      record {
        front = sp.front;
        split = ap (λ x. x ++ q) sp.split ∙ append_assoc sp.front rest q;
        step = sp.step;
        within = sp.within;
        stops = event_stops len e (words sp.front) (rest ++ q) (xs ++ ys) sp.step more;
      },
      more,
    )

events_after : (len : ℕ) (placed : List Placed) (ls : List ByteLine) (lines : List (Line LogEvent)) → LinesAfter len placed ls lines → Reading log_events len (placed ++ flat_map event_words_of_line ls) (items_of lines) finished
events_after len placed [] lines (events, are, reads) =
    subst (λ x. Reading log_events len x (items_of lines) finished) (sym (append-nil placed)) (subst (λ x. Reading log_events len placed x finished) (sym (ap items_of are ∙ items_of_items events)) reads)
events_after len placed (l ∷ ls) lines h =
    cut_or (tidy_of_line l) refl h (λ more rest. events_after len [] ls more rest) (λ rest. events_after len (placed ++ event_words_of_line l) ls lines rest)
  where
    cut_or : (t : Option ℕ) → tidy_of_line l ≡ t → MatchOption t (LinesAfter len (placed ++ event_words_of_line l) ls lines) (CutAt len placed lines (LinesAfter len [] ls))
        → ((more : List (Line LogEvent)) → LinesAfter len [] ls more → Reading log_events len (flat_map event_words_of_line ls) (items_of more) finished)
        → (LinesAfter len (placed ++ event_words_of_line l) ls lines → Reading log_events len ((placed ++ event_words_of_line l) ++ flat_map event_words_of_line ls) (items_of lines) finished)
        → Reading log_events len (placed ++ flat_map event_words_of_line (l ∷ ls)) (items_of lines) finished
    cut_or (Some r) is (events, more, are, reads, rest) after on =
        let both = reading_both len placed (flat_map event_words_of_line ls) events (items_of more) reads (after more rest) in
        let given : items_of lines ≡ events ++ items_of more = ap items_of are ∙ items_of_both (map item events) (tidy r ∷ more) ∙ ap (λ x. x ++ items_of more) (items_of_items events) in
        subst (λ x. Reading log_events len (placed ++ (x ++ flat_map event_words_of_line ls)) (items_of lines) finished) (sym (tidy_has_no_word l r is))
        (subst (λ x. Reading log_events len (placed ++ flat_map event_words_of_line ls) x finished) (sym given) both)
    cut_or None is rest after on = subst (λ x. Reading log_events len x (items_of lines) finished) (append_assoc placed (event_words_of_line l) (flat_map event_words_of_line ls)) (on rest)

pub lines_give_events : (text : List ℕ) (lines : List (Line LogEvent)) → LinesRead text lines → EventsRead text (items_of lines) finished
lines_give_events text lines h = events_after (length text) [] (lines_from 0 text) lines h

-- ---- at most one reading

same_events : (len : ℕ) (placed : List Placed) (xs ys : List LogEvent) → Reading log_events len placed xs finished → Reading log_events len placed ys finished → xs ≡ ys
same_events len placed xs ys r s =
    let one = (one_reading log_events event_forms len placed).2 in
    ap (λ (x : List LogEvent × Ending). x.0) (one (xs, finished) r ∙ sym (one (ys, finished) s))

same_lines : (len : ℕ) (placed : List Placed) (ls : List ByteLine) (a b : List (Line LogEvent)) → LinesAfter len placed ls a → LinesAfter len placed ls b → a ≡ b
same_lines len placed [] a b (xs, is, r) (ys, are, s) = is ∙ ap (map item) (same_events len placed xs ys r s) ∙ sym are
same_lines len placed (l ∷ ls) a b h k =
    elim (tidy_of_line l) as (λ t. MatchOption t (LinesAfter len (placed ++ event_words_of_line l) ls a) (CutAt len placed a (LinesAfter len [] ls))
    → MatchOption t (LinesAfter len (placed ++ event_words_of_line l) ls b) (CutAt len placed b (LinesAfter len [] ls)) → a ≡ b) [
      | Some r ↦ λ c d. c.2 ∙ (λ i. map item (same_events len placed c.0 d.0 c.3 d.3 i) ++ tidy r ∷ same_lines len [] ls c.1 d.1 c.4 d.4 i) ∙ sym d.2
      | None ↦ λ c d. same_lines len (placed ++ event_words_of_line l) ls a b c d
    ] h k

pub one_list_of_lines : (text : List ℕ) (a b : List (Line LogEvent)) → LinesRead text a → LinesRead text b → a ≡ b
one_list_of_lines text a b h k = same_lines (length text) [] (lines_from 0 text) a b h k
