-- Tidy lines, one after another, and events between them.
use Rattle.std.proofs.Common.{◌≡◌, refl, sym, ap, ◌∙◌, subst, ℕ, zero, suc, ◌+◌, ◌≤◌, ◌<◌, ◌⊎◌, inl, inr, List, [], ◌∷◌, ◌++◌, append-nil, append_assoc, map, filter_map, length, arith, length-append}
use Rattle.std.proofs.lemmas.List.Elements.{filter_map-append}
use Rattle.cx_base.specs.Lines.{Line, item, tidy, items_of, item_of}
use Rattle.cx_base.specs.declared.steps.LogEvent.{LogEvent}
use Rattle.cx_base.specs.declared.steps.LogEvent.TheVariants.{Step, Conflict}
use Rattle.cx_semantics.specs.Marked.{mark_of}
use Rattle.search_steps.specs.Schedule.{IsRestartAt}
use Rattle.search_steps.specs.TidyLines.{marks_in, restart_of, tidy_lines_in, TidiedInTime, LineFits, NoneIsMissing}
use Rattle.search_steps.proofs.ScheduleLaws.{last_or_before, luby_is_some, sum_is_long}

-- ---- one more line
pub go_on : (lines : List (Line LogEvent)) (l : Line LogEvent) → TidiedInTime lines → LineFits lines l → TidiedInTime (lines ++ l ∷ [])
go_on lines l fit next front later k e = elim (last_or_before lines l front k later e) [
  | inl s ↦ subst (λ (x : List (Line LogEvent)). LineFits x k) s.0 (subst (LineFits lines) s.1 next)
  | inr r ↦ fit front r.0 k r.1
]

pub none_in_time : TidiedInTime []
none_in_time front later l is = absurd (no_line front l later is)
  where
    no_line : (front : List (Line LogEvent)) (l : Line LogEvent) (later : List (Line LogEvent)) → [] ≡ front ++ l ∷ later → ⊥
    no_line [] l later is = cc
    no_line (f ∷ front) l later is = cc

-- ---- counts of more lines
pub marks_of_more : (lines more : List (Line LogEvent)) → marks_in (lines ++ more) ≡ marks_in lines + marks_in more
marks_of_more lines more =
    ap (λ (x : List LogEvent). length (filter_map mark_of x)) (filter_map-append item_of lines more) ∙ ap (λ (x : List ℕ). length x) (filter_map-append mark_of (items_of lines) (items_of more))
    ∙ length-append (filter_map mark_of (items_of lines)) (filter_map mark_of (items_of more))

pub tidy_lines_of_more : (lines more : List (Line LogEvent)) → tidy_lines_in (lines ++ more) ≡ tidy_lines_in lines + tidy_lines_in more
tidy_lines_of_more lines more = ap (λ (x : List ℕ). length x) (filter_map-append restart_of lines more) ∙ length-append (filter_map restart_of lines) (filter_map restart_of more)

-- ---- events after lines
pub items_are : (events : List LogEvent) → items_of (map item events) ≡ events
items_are [] = refl
items_are (event ∷ events) = ap (λ (x : List LogEvent). event ∷ x) (items_are events)

pub items_of_both : (lines : List (Line LogEvent)) (events : List LogEvent) → items_of (lines ++ map item events) ≡ items_of lines ++ events
items_of_both lines events = filter_map-append item_of lines (map item events) ∙ ap (λ (x : List LogEvent). items_of lines ++ x) (items_are events)

pub marks_of_items : (lines : List (Line LogEvent)) (events : List LogEvent) → marks_in (lines ++ map item events) ≡ marks_in lines + length (filter_map mark_of events)
marks_of_items lines events = marks_of_more lines (map item events) ∙ ap (λ (x : List LogEvent). marks_in lines + length (filter_map mark_of x)) (items_are events)

no_tidy_line : (events : List LogEvent) → tidy_lines_in (map item events) ≡ 0
no_tidy_line [] = refl
no_tidy_line (event ∷ events) = no_tidy_line events

pub tidy_lines_of_items : (lines : List (Line LogEvent)) (events : List LogEvent) → tidy_lines_in (lines ++ map item events) ≡ tidy_lines_in lines
tidy_lines_of_items lines events = let more = tidy_lines_of_more lines (map item events) in let none = no_tidy_line events in omega arith

-- no tidy line is missing after events with no mark among them
pub none_missing_still : (lines : List (Line LogEvent)) (events : List LogEvent) → NoneIsMissing lines → length (filter_map mark_of events) ≡ 0 → NoneIsMissing (lines ++ map item events)
none_missing_still lines events whole unmarked r m restart now =
    let marks = marks_of_items lines events in
    let tidied = tidy_lines_of_items lines events in
    let early : m ≤ marks_in lines = omega arith in
    let there = whole r m restart early in
    omega arith

-- Events come in time, with one mark among them at most, where none is missing before it.
pub items_keep_time : (lines : List (Line LogEvent)) (events : List LogEvent) → TidiedInTime lines → NoneIsMissing lines ⊎ (length (filter_map mark_of events) ≡ 0)
    → length (filter_map mark_of events) ≤ 1 → TidiedInTime (lines ++ map item events)
items_keep_time lines [] fit before few = subst TidiedInTime (sym (append-nil lines)) fit
items_keep_time lines (Step s ∷ events) fit before few =
    let next : LineFits lines (item (Step s)) = tt in
    let longer : TidiedInTime (lines ++ item (Step s) ∷ []) = go_on lines (item (Step s)) fit next in
    let still : NoneIsMissing (lines ++ item (Step s) ∷ []) ⊎ (length (filter_map mark_of events) ≡ 0) =
    elim before [ inl whole ↦ inl (none_missing_still lines (Step s ∷ []) whole refl) | inr none ↦ inr none ] in
    subst TidiedInTime (append_assoc lines (item (Step s) ∷ []) (map item events)) (items_keep_time (lines ++ item (Step s) ∷ []) events longer still few)
items_keep_time lines (Conflict k ∷ events) fit before few =
    let whole : NoneIsMissing lines = elim before [ inl w ↦ w | inr none ↦ absurd (omega (arith, none)) ] in
    let longer : TidiedInTime (lines ++ item (Conflict k) ∷ []) = go_on lines (item (Conflict k)) fit whole in
    let unmarked : length (filter_map mark_of events) ≡ 0 = omega (arith, few) in
    let least : length (filter_map mark_of events) ≤ 1 = omega arith in
    subst TidiedInTime (append_assoc lines (item (Conflict k) ∷ []) (map item events)) (items_keep_time (lines ++ item (Conflict k) ∷ []) events longer (inr unmarked) least)

-- ---- no tidy line before the hundredth mark

-- a tidy line is there, with what is before it
first_tidy : (lines : List (Line LogEvent)) → 0 < tidy_lines_in lines → (front : List (Line LogEvent)) × (r : ℕ) × (later : List (Line LogEvent)) × (lines ≡ front ++ tidy r ∷ later)
first_tidy [] h = absurd (omega (arith, h))
first_tidy (item e ∷ lines) h = let f = first_tidy lines h in (item e ∷ f.0, f.1, f.2, ap (λ (x : List (Line LogEvent)). item e ∷ x) f.3)
first_tidy (tidy r ∷ lines) h = ([], r, lines, refl)

fewer_marks : (front later : List (Line LogEvent)) → marks_in front ≤ marks_in (front ++ later)
fewer_marks front later = let split = marks_of_more front later in omega arith

late : (r m : ℕ) → IsRestartAt (r + 1) m → 100 ≤ m
late r m (numbers, are, count, is) = let h = sum_is_long numbers (λ i less. luby_is_some (are.each i less)) in omega (arith, h, count, is)

none_by : (lines : List (Line LogEvent)) (n : ℕ) → tidy_lines_in lines ≡ n → TidiedInTime lines → marks_in lines < 100 → n ≡ 0
none_by lines zero is fit few = refl
none_by lines (suc n) is fit few =
    let f = first_tidy lines (subst (λ (k : ℕ). 0 < k) (sym is) (omega arith)) in
    let fits = fit f.0 f.2 (tidy f.1) f.3 in
    let high = late (tidy_lines_in f.0) (marks_in f.0) (subst (λ (r : ℕ). IsRestartAt r (marks_in f.0)) fits.next fits.due) in
    let low = fewer_marks f.0 (tidy f.1 ∷ f.2) in
    let same : marks_in lines ≡ marks_in (f.0 ++ tidy f.1 ∷ f.2) = ap marks_in f.3 in
    absurd (omega arith)

pub come_late : (lines : List (Line LogEvent)) → TidiedInTime lines → marks_in lines < 100 → tidy_lines_in lines ≡ 0
come_late lines fit few = none_by lines (tidy_lines_in lines) refl fit few
