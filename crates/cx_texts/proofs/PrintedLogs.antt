-- A printed log is read as its events.
use Rattle.std.proofs.Common.{◌≡◌, refl, sym, ap, ◌∙◌, subst, ℕ, ◌+◌, ◌^◌, ◌<◌, true, false, cond, ◌&&◌, lit<, lt_trans, List, [], ◌∷◌, ◌++◌, map, flat_map, length, Some, None, ◌⊎◌, inl, inr, append_assoc, append-nil, codes, decimal, ◌==◌}
use Rattle.std.specs.List.{AllByRecursion, enumerate_from, join_with_byte}
use Rattle.std.specs.Str.{bytes_eq}
use Rattle.std.proofs.lemmas.Fmt.{decimal_is_IsNumeral_wide}
use Rattle.cx_base.specs.declared.steps.LogStep.{LogStep}
use Rattle.cx_base.specs.declared.steps.LogEvent.{LogEvent}
use Rattle.cx_base.specs.declared.steps.LogEvent.TheVariants.{Step, Conflict}
use Rattle.cx_texts.specs.Tokens.{Token, is_blank, begins_with, is_comment, lines_from, tokens_of_line}
use Rattle.cx_texts.specs.Words.{Word, letter, conflict, Placed, words, placed_words, natural, IsWithin}
use Rattle.cx_texts.specs.Grammar.{spelled, spelling, IsStep, Begins, Stops, Reading}
use Rattle.cx_base.specs.Endings.{finished}
use Rattle.cx_texts.specs.LogText.{log_steps, log_fields, log_events, EventsRead, event_words_of_line, conflict_or, conflict_number}
use Rattle.cx_texts.specs.Printed.{printed_word, printed_log, HasText}
use Rattle.cx_texts.proofs.SpokenWords.{IsSpoken, spoken_log_step}
use Rattle.cx_texts.proofs.Lines.{NoFeed, lines-line}
use Rattle.cx_texts.proofs.DigitLaws.{digits_are, natural_all}
use Rattle.cx_texts.proofs.LogSteps.{IsFirst, first_of, first_word, no_more}
use Rattle.cx_texts.proofs.PrintedWords.{IsPiece, decimal_piece, texts, texts-joined, no_feed_joined, plain_pieces, plain_all, words-printed, joined, within_words}

-- ---- the words of a printed line of a log

abbrev Words : ℕ → List ℕ → List Placed
Words m text = flat_map event_words_of_line (lines_from m text)

one_line : (m : ℕ) (l rest : List ℕ) → NoFeed l → Words m ((l ++ 10 ∷ []) ++ rest) ≡ event_words_of_line (enumerate_from m l) ++ Words ((m + length l) + 1) rest
one_line m l rest h = ap (Words m) (append_assoc l (10 ∷ []) rest) ∙ ap (flat_map event_words_of_line) (lines-line m l rest h)

-- what does not begin with the byte 99 is no comment
no_comment : (m c : ℕ) (line : List ℕ) → is_blank c ≡ false → (c == 99) ≡ false → is_comment (enumerate_from m (c ∷ line)) ≡ false
no_comment m c line h k = ap (λ x. cond x (begins_with 99 (enumerate_from (m + 1) line)) (c == 99)) h ∙ k

letters_no_comment : (m c : ℕ) (ws : List Word) → is_blank c ≡ false → (c == 99) ≡ false → is_comment (enumerate_from m (joined (letter c ∷ ws))) ≡ false
letters_no_comment m c [] h k = no_comment m c [] h k
letters_no_comment m c (w ∷ ws) h k = no_comment m c (32 ∷ joined (w ∷ ws)) h k

first_no_comment : (m : ℕ) (w : Word) (ws : List Word) → IsFirst w → is_comment (enumerate_from m (joined (w ∷ ws))) ≡ false
first_no_comment m w ws (inl e) = subst (λ x. is_comment (enumerate_from m (joined (x ∷ ws))) ≡ false) (sym e) (letters_no_comment m 111 ws refl refl)
first_no_comment m w ws (inr (inl e)) = subst (λ x. is_comment (enumerate_from m (joined (x ∷ ws))) ≡ false) (sym e) (letters_no_comment m 97 ws refl refl)
first_no_comment m w ws (inr (inr (inl e))) = subst (λ x. is_comment (enumerate_from m (joined (x ∷ ws))) ≡ false) (sym e) (letters_no_comment m 105 ws refl refl)
first_no_comment m w ws (inr (inr (inr (inl e)))) = subst (λ x. is_comment (enumerate_from m (joined (x ∷ ws))) ≡ false) (sym e) (letters_no_comment m 100 ws refl refl)
first_no_comment m w ws (inr (inr (inr (inr (inl e))))) = subst (λ x. is_comment (enumerate_from m (joined (x ∷ ws))) ≡ false) (sym e) (letters_no_comment m 102 ws refl refl)
first_no_comment m w ws (inr (inr (inr (inr (inr e))))) = subst (λ x. is_comment (enumerate_from m (joined (x ∷ ws))) ≡ false) (sym e) (letters_no_comment m 114 ws refl refl)

pub step_no_comment : (m : ℕ) (s : LogStep) → is_comment (enumerate_from m (joined (spelling log_steps s))) ≡ false
step_no_comment m s =
    let o = first_of s [] in
    let e : spelling log_steps s ≡ o.0 ∷ o.1 = sym (append-nil (spelling log_steps s)) ∙ o.3 in
    subst (λ ws. is_comment (enumerate_from m (joined ws)) ≡ false) (sym e) (first_no_comment m o.0 o.1 o.2)

said_line : (line : List (ℕ × ℕ)) → is_comment line ≡ false → event_words_of_line line ≡ placed_words (tokens_of_line line)
said_line [] h = refl
said_line (b ∷ line) h = ap (λ x. elim x [ true ↦ conflict_or [] b.0 (conflict_number (tokens_of_line (b ∷ line))) | false ↦ placed_words (tokens_of_line (b ∷ line)) ]) h

step_words : (m : ℕ) (s : LogStep) → AllByRecursion (IsWithin 9223372036854775807) (spelling log_steps s) → words (event_words_of_line (enumerate_from m (joined (spelling log_steps s)))) ≡ spelling log_steps s
step_words m s h = ap words (said_line (enumerate_from m (joined (spelling log_steps s))) (step_no_comment m s)) ∙ words-printed m (spelling log_steps s) (plain_all _ (spoken_log_step s) h)

-- ---- a printed mark

number_of_texts : (ts : List Token) (k : ℕ) → texts ts ≡ codes "c" ∷ codes "conflict" ∷ decimal k ∷ [] → conflict_number ts ≡ natural (decimal k)
number_of_texts [] k e = cc
number_of_texts (a ∷ []) k e = cc
number_of_texts (a ∷ b ∷ []) k e = cc
number_of_texts (a ∷ b ∷ d ∷ []) k e =
    let x : a.text ≡ codes "c" = cc (e) in
    let y : b.text ≡ codes "conflict" = cc (e) in
    let z : d.text ≡ decimal k = cc (e) in
    (λ i. elim (bytes_eq (x i) (codes "c") && bytes_eq (y i) (codes "conflict")) [ true ↦ natural (z i) | false ↦ None ])
number_of_texts (a ∷ b ∷ d ∷ f ∷ ts) k e = cc

small_mark : (k : ℕ) → k < 2 ^ 64 → k < 10 ^ 64
small_mark k h = lt_trans h (lit< tt)

abbrev pub mark_pieces : ℕ → List (List ℕ)
mark_pieces k = codes "c" ∷ codes "conflict" ∷ decimal k ∷ []

pub are_pieces : (k : ℕ) → k < 2 ^ 64 → AllByRecursion IsPiece (mark_pieces k)
are_pieces k h = (
  record { first = 99; rest = []; is = refl; no_blank = (refl, tt) },
  (
    record { first = 99; rest = codes "onflict"; is = refl; no_blank = (refl, (refl, (refl, (refl, (refl, (refl, (refl, (refl, tt)))))))) },
    (decimal_piece (decimal k) (decimal_is_IsNumeral_wide k (small_mark k h)).0, tt),
  ),
)

mark_word : (m k : ℕ) → k < 2 ^ 64 → event_words_of_line (enumerate_from m (join_with_byte 32 (mark_pieces k))) ≡ record { place = m; word = conflict k } ∷ []
mark_word m k h =
    let d = decimal_is_IsNumeral_wide k (small_mark k h) in
    ap (conflict_or [] m) (number_of_texts (tokens_of_line (enumerate_from m (join_with_byte 32 (mark_pieces k)))) k (texts-joined (mark_pieces k) m (are_pieces k h)) ∙ natural_all (decimal k) d.0.0 (digits_are (decimal k) d.0.1) ∙ ap Some d.1)

-- ---- readings

begins_step : (ws : List Word) → (t : LogStep) (more : List Word) → IsStep log_events (ws ++ more) (Step t) → Begins log_steps ws
begins_step ws t more h = (t, more, h)

said_word : (a : List Word) (k : ℕ) (b : List Word) → AllByRecursion IsSpoken (a ++ conflict k ∷ b) → ⊥
said_word [] k b h = h.0
said_word (w ∷ a) k b h = said_word a k b h.1

no_more_event : (e : LogEvent) (ws : List Word) (w : Word) → IsStep log_events ws e → IsFirst w ⊎ ((k : ℕ) × (w ≡ conflict k)) → ¬ Begins log_events (ws ++ w ∷ [])
no_more_event (Step s) ws w h first (Step t, more, b) = go first
  where
    go : IsFirst w ⊎ ((k : ℕ) × (w ≡ conflict k)) → ⊥
    go (inl f) = no_more s ws w h f (begins_step (ws ++ w ∷ []) t more b)
    go (inr (k, f)) = said_word ws k more (subst (AllByRecursion IsSpoken) (b.1 ∙ append_assoc ws (w ∷ []) more ∙ ap (λ x. ws ++ x ∷ more) f) (spoken_log_step t))
no_more_event (Step s) ws w h first (Conflict j, more, b) =
    let o = first_of s [] in
    let e : conflict j ∷ [] ≡ (o.0 ∷ o.1) ++ (w ∷ more) = b.1 ∙ append_assoc ws (w ∷ []) more ∙ ap (λ x. x ++ (w ∷ more)) (sym h.1 ∙ sym (append-nil (flat_map spelled (log_fields s))) ∙ o.3) in
    too_long (conflict j) o.0 o.1 w more e
  where
    too_long : (a b : Word) (bs : List Word) (c : Word) (cs : List Word) → a ∷ [] ≡ b ∷ (bs ++ c ∷ cs) → ⊥
    too_long a b [] c cs e = cc
    too_long a b (d ∷ bs) c cs e = cc
no_more_event (Conflict k) ws w h first (Step t, more, b) =
    said_word [] k (w ∷ more) (subst (AllByRecursion IsSpoken) (b.1 ∙ append_assoc ws (w ∷ []) more ∙ ap (λ x. x ++ w ∷ more) (sym h.1)) (spoken_log_step t))
no_more_event (Conflict k) ws w h first (Conflict j, more, b) =
    let e : conflict j ∷ [] ≡ conflict k ∷ w ∷ more = b.1 ∙ append_assoc ws (w ∷ []) more ∙ ap (λ x. x ++ w ∷ more) (sym h.1) in cc

event_first : (len : ℕ) (placed : List Placed) (events : List LogEvent) → Reading log_events len placed events finished → (p : Placed) (rest : List Placed) → placed ≡ p ∷ rest → IsFirst p.word ⊎ ((k : ℕ) × (p.word ≡ conflict k))
event_first len placed [] r p rest e = let k : ◌≡◌ {A = List Placed} [] (p ∷ rest) = sym r ∙ e in cc
event_first len placed (Conflict k ∷ events) (more, sp, r) p rest e = go sp.front refl
  where
    go : (f : List Placed) → sp.front ≡ f → IsFirst p.word ⊎ ((k : ℕ) × (p.word ≡ conflict k))
    go [] h = let x : ◌≡◌ {A = List Word} [] (conflict k ∷ []) = sym (ap words h) ∙ sym sp.step.1 in cc
    go (q ∷ f) h =
        let x : q.word ∷ words f ≡ conflict k ∷ [] = sym (ap words h) ∙ sym sp.step.1 in
        let y : q.word ≡ conflict k = cc (x) in
        let m : p ∷ rest ≡ q ∷ (f ++ more) = sym e ∙ sp.split ∙ ap (λ z. z ++ more) h in
        let n : p ≡ q = cc (m) in
        inr (k, ap (λ z. z.word) n ∙ y)
event_first len placed (Step s ∷ events) (more, sp, r) p rest e = inl (first_word s placed sp.front more p rest sp.step sp.split e)

pub event_stops : (len : ℕ) (e : LogEvent) (ws : List Word) (rest : List Placed) (events : List LogEvent) → IsStep log_events ws e → Reading log_events len rest events finished → Stops log_events ws rest
event_stops len e ws [] events h r = tt
event_stops len e ws (p ∷ rest) events h r = no_more_event e ws p.word h (event_first len (p ∷ rest) events r p rest refl)

-- the words of an event's line
abbrev pub line_text : LogEvent → List ℕ
line_text e = joined (spelling log_events e)

pub no_feed_event : (e : LogEvent) → HasText e → NoFeed (line_text e)
no_feed_event (Step s) h = no_feed_joined (map printed_word (spelling log_steps s)) (plain_pieces _ (plain_all (spelling log_steps s) (spoken_log_step s) h.1))
no_feed_event (Conflict k) h = no_feed_joined (mark_pieces k) (are_pieces k h)

-- the words of an event's line before those of others are read as the event before the others
pub event_on : (len m : ℕ) (e : LogEvent) (placed : List Placed) (events : List LogEvent) → HasText e → Reading log_events len placed events finished
    → Reading log_events len (event_words_of_line (enumerate_from m (line_text e)) ++ placed) (e ∷ events) finished
event_on len m (Conflict k) placed events h more =
    let step : IsStep log_events (conflict k ∷ []) (Conflict k) = ((tt, tt), refl) in (
      placed,
      record {
        front = record { place = m; word = conflict k } ∷ [];
        split = ap (λ x. x ++ placed) (mark_word m k h);
        step = step;
        within = (tt, tt);
        stops = event_stops len (Conflict k) (conflict k ∷ []) placed events step more;
      },
      more,
    )
event_on len m (Step s) placed events h more =
    let front = event_words_of_line (enumerate_from m (joined (spelling log_steps s))) in
    let is : words front ≡ spelling log_steps s = step_words m s h.1 in
    let step : IsStep log_events (words front) (Step s) = (h.0, sym is) in (
      placed,
      record {
        front = front;
        split = refl;
        step = step;
        within = within_words log_events front (subst (AllByRecursion (IsWithin 9223372036854775807)) (sym is) h.1);
        stops = event_stops len (Step s) (words front) placed events step more;
      },
      more,
    )

reading_printed : (len m : ℕ) (events : List LogEvent) → AllByRecursion HasText events → Reading log_events len (Words m (printed_log events)) events finished
reading_printed len m [] h = refl
reading_printed len m (e ∷ events) h =
    let next : ℕ = (m + length (line_text e)) + 1 in
    subst (λ x. Reading log_events len x (e ∷ events) finished) (sym (one_line m (line_text e) (printed_log events) (no_feed_event e h.0)))
    (event_on len m e (Words next (printed_log events)) events h.0 (reading_printed len next events h.1))

pub printed_log_reads : (events : List LogEvent) → AllByRecursion HasText events → EventsRead (printed_log events) events finished
printed_log_reads events h = reading_printed (length (printed_log events)) 0 events h
