-- The lines of a search that tidies come in time.
use Rattle.std.proofs.Common.{◌≡◌, refl, sym, ap, ◌∙◌, subst, ℕ, ◌+◌, ◌≤◌, Bool, List, [], ◌∷◌, ◌++◌, filter_map, length, length-append, Option, None, Some, inl, inr, arith}
use Rattle.std.specs.Prelude.{IfSome}
use Rattle.std.proofs.lemmas.List.Elements.{filter_map-append}
use Rattle.cx_base.specs.Lines.{Line, tidy, items_of}
use Rattle.cx_base.specs.Problem.{Problem}
use Rattle.cx_base.specs.Literals.{Literal}
use Rattle.cx_base.specs.declared.steps.LogEvent.{LogEvent}
use Rattle.cx_semantics.specs.Marked.{Marked, mark_of}
use Rattle.parity_engine.specs.State.{State}
use Rattle.search_steps.specs.Schedule.{IsRestartAt}
use Rattle.search_steps.specs.TidyLines.{TidyFits, marks_in, tidy_lines_in}
use Rattle.search_steps.proofs.TidyLineLaws.{go_on, items_keep_time, tidy_lines_of_items, tidy_lines_of_more}
use Rattle.step_text.specs.Sinks.{AreItemsOf, GainsItems, with_tidy}
use Rattle.step_text.specs.declared.sink.Sink as sink
use Rattle.cdcl_search.specs.declared.state.SearchState.{SearchState}
use Rattle.cdcl_search.specs.Ties.{SearchStands}
use Rattle.cdcl_core.specs.declared.schedule.Schedule.{Schedule}
use Rattle.cdcl_core.specs.declared.solving.SearchOutcome.{SearchOutcome}
use Rattle.cdcl_core.specs.declared.solving.SearchOutcome.TheVariants.{Sat, Unsat, Unknown}
use Rattle.cdcl_core.specs.LogLines.{AreInTime, AreTidyLines, HasMarksUpTo}
use Rattle.cdcl_core.specs.Results.{IsRightOutcomeIn, IsSettledBy}
use Rattle.cdcl_core.specs.Scheduling.{IsOnSchedule}
use Rattle.cdcl_core.specs.Tidying.{AreTidyNow}
use Rattle.cdcl_core.proofs.Answering.{refutes_within}
use Rattle.cdcl_core.proofs.LogLineLaws.{gained}
use Rattle.cdcl_core.proofs.MarkCounts.{marks_are_counted, marks_number, no_clause_is_owed}
use Rattle.cdcl_core.proofs.TidyTimes.{none_is_missing}

-- ---- marks
-- where the events are told, so many are marks
abbrev pub HasMarks : ℕ → Option (List LogEvent) → Type 0
HasMarks n told = IfSome told (λ events. length (filter_map mark_of events) ≡ n)

-- a search has a mark for each counted conflict
pub marks_counted : (formula : Problem) (c : SearchState) (e : State) (told : Option (List LogEvent)) → SearchStands formula c e [] told → HasMarks c.conflicts told
marks_counted formula c e None st = tt
marks_counted formula c e (Some events) st = marks_are_counted formula c e [] events st

few_marks : (formula : Problem) (events : List LogEvent) (k n : ℕ) → Marked formula events k → k ≤ n → length (filter_map mark_of events) ≤ n
few_marks formula events k n marked few = subst (λ x. x ≤ n) (sym (marks_number formula events k marked)) few

-- ---- settled answers
pub settled_marks : (tidies : Bool) (formula : Problem) (n : ℕ) (told : Option (List LogEvent)) (a : SearchOutcome) → IsSettledBy tidies formula (n + 1) told a → HasMarksUpTo n told
settled_marks tidies formula n None a h = tt
settled_marks tidies formula n (Some events) (Sat values) h = let o = h.0.log in let less = o.1 in few_marks formula events o.0 n o.2.1 (omega (arith, less))
settled_marks tidies formula n (Some events) (Unsat failed) h = let o = h.0.log.1 in let less = o.1 in few_marks formula events o.0 n o.2 (omega (arith, less))
settled_marks tidies formula n (Some events) (Unknown k) h = absurd (h.1 k refl)

pub settled_within : (tidies : Bool) (formula : Problem) (n budget : ℕ) (told : Option (List LogEvent)) (a : SearchOutcome) → n ≤ budget → IsSettledBy tidies formula n told a → IsRightOutcomeIn tidies formula budget told a
settled_within tidies formula n budget told (Sat values) few h = let less = h.0.log.1 in record { meets = h.0.meets; log = (h.0.log.0, omega (arith, less, few), h.0.log.2) }
settled_within tidies formula n budget told (Unsat failed) few h = refutes_within formula n budget told failed few h.0
settled_within tidies formula n budget told (Unknown k) few h = absurd (h.1 k refl)

-- ---- events
module _ (old : Option (List (Line LogEvent))) (old_items : Option (List LogEvent)) (new : Option (List (Line LogEvent))) (new_items : Option (List LogEvent)) (were : AreItemsOf old old_items) (are : AreItemsOf new new_items) (gains : GainsItems old new) where
  -- at most one mark was told, and before it no tidy line is missing
  lines_after_mark : (s : Schedule) (n : ℕ) → IsOnSchedule s n → HasMarks n old_items → HasMarksUpTo (n + 1) new_items → AreTidyLines s.restarts old → AreTidyLines s.restarts new
  lines_after_mark s n on marks few now = elim (gained old old_items new new_items were are gains) [
    | inl none ↦ subst (AreTidyLines s.restarts) (sym none.1) tt
    | inr g ↦
        let before = subst (AreTidyLines s.restarts) g.were now in
        let first : marks_in g.before ≡ n = subst (HasMarks n) g.items_were marks in
        let all : length (filter_map mark_of (items_of g.before ++ g.events)) ≤ n + 1 = subst (HasMarksUpTo (n + 1)) g.items_are few in
        let split = ap (λ (x : List ℕ). length x) (filter_map-append mark_of (items_of g.before) g.events) in
        let parts = length-append (filter_map mark_of (items_of g.before)) (filter_map mark_of g.events) in
        subst (AreTidyLines s.restarts) (sym g.are)
        (items_keep_time g.before g.events before.0 (inl (none_is_missing s n g.before on before.1 first)) (omega (arith, first, all, split, parts)), tidy_lines_of_items g.before g.events ∙ before.1)
  ]

  -- no mark was told
  lines_go_on : (n r : ℕ) → HasMarks n old_items → HasMarksUpTo n new_items → AreTidyLines r old → AreTidyLines r new
  lines_go_on n r marks few now = elim (gained old old_items new new_items were are gains) [
    | inl none ↦ subst (AreTidyLines r) (sym none.1) tt
    | inr g ↦
        let before = subst (AreTidyLines r) g.were now in
        let first : marks_in g.before ≡ n = subst (HasMarks n) g.items_were marks in
        let all : length (filter_map mark_of (items_of g.before ++ g.events)) ≤ n = subst (HasMarksUpTo n) g.items_are few in
        let split = ap (λ (x : List ℕ). length x) (filter_map-append mark_of (items_of g.before) g.events) in
        let parts = length-append (filter_map mark_of (items_of g.before)) (filter_map mark_of g.events) in
        let unmarked : length (filter_map mark_of g.events) ≡ 0 = omega (arith, first, all, split, parts) in
        subst (AreTidyLines r) (sym g.are) (items_keep_time g.before g.events before.0 (inr unmarked) (omega (arith, unmarked)), tidy_lines_of_items g.before g.events ∙ before.1)
  ]

pub exactly : (n : ℕ) (told : Option (List LogEvent)) → HasMarks n told → HasMarksUpTo n told
exactly n None marks = tt
exactly n (Some events) marks = omega (arith, marks)

-- so it is with the sinks of two logs
module _ {L : Type 0} (m : sink.Ghosts L LogEvent) (are_items : (a : L) → AreItemsOf (m.lines a) (m.items a)) (gains : (a b : L) → m.keeps a b → GainsItems (m.lines a) (m.lines b)) where
  pub still_tidy : (a b : L) → m.keeps a b → (n r : ℕ) → HasMarks n (m.items a) → HasMarksUpTo n (m.items b) → AreTidyLines r (m.lines a) → AreTidyLines r (m.lines b)
  still_tidy a b keeps n r marks few now = lines_go_on (m.lines a) (m.items a) (m.lines b) (m.items b) (are_items a) (are_items b) (gains a b keeps) n r marks few now

  pub tidy_after_mark : (a b : L) → m.keeps a b → (s : Schedule) (n : ℕ) → IsOnSchedule s n → HasMarks n (m.items a) → HasMarksUpTo (n + 1) (m.items b) → AreTidyLines s.restarts (m.lines a) → AreTidyLines s.restarts (m.lines b)
  tidy_after_mark a b keeps s n on marks few now = lines_after_mark (m.lines a) (m.items a) (m.lines b) (m.items b) (are_items a) (are_items b) (gains a b keeps) s n on marks few now

pub are_in_time : (n : ℕ) (told : Option (List (Line LogEvent))) → AreTidyLines n told → AreInTime told
are_in_time n None now = tt
are_in_time n (Some lines) now = now.0

-- ---- a tidy line
tidy_line_fits : (formula : Problem) (c : SearchState) (e : State) (lines : List (Line LogEvent)) (r before : ℕ) → SearchStands formula c e [] (Some (items_of lines)) → AreTidyNow (Some (items_of lines)) → r ≡ before + 1 → IsRestartAt r c.conflicts
    → tidy_lines_in lines ≡ before → TidyFits lines r
tidy_line_fits formula c e lines r before st now next due are = record {
  next = next ∙ ap (λ n. n + 1) (sym are);
  due = subst (IsRestartAt r) (sym (marks_are_counted formula c e [] (items_of lines) st)) due;
  served = no_clause_is_owed formula c e [] (items_of lines) st;
  tidied = now;
}

pub tidied_in_time : (formula : Problem) (c : SearchState) (e : State) (told : Option (List (Line LogEvent))) (items : Option (List LogEvent)) (r before : ℕ) → AreItemsOf told items → SearchStands formula c e [] items → AreTidyNow items → r ≡ before + 1
    → IsRestartAt r c.conflicts → AreTidyLines before told → AreTidyLines r (with_tidy r told)
tidied_in_time formula c e None items r before are st now next due lines = tt
tidied_in_time formula c e (Some all) items r before are st now next due lines =
    let more = tidy_lines_of_more all (tidy r ∷ []) in
    let first = lines.1 in (
      go_on all (tidy r) lines.0 (tidy_line_fits formula c e all r before (subst (SearchStands formula c e []) are st) (subst AreTidyNow are now) next due lines.1),
      more ∙ omega (arith, first, next),
    )
