-- The lines of a search that has come to no conflict and has not tidied yet.
use Rattle.std.proofs.Common.{◌≡◌, refl, sym, ap, ◌∙◌, subst, ℕ, ◌+◌, ◌≤◌, Bool, true, false, List, [], ◌∷◌, ◌++◌, filter_map, length, length-append, map, Option, None, Some, inl, inr, arith}
use Rattle.std.proofs.lemmas.List.Elements.{filter_map-append}
use Rattle.std.proofs.lemmas.List.FromFn.{length-range_with_len}
use Rattle.cx_base.specs.Lines.{Line, item, tidy, item_of, items_of}
use Rattle.cx_base.specs.Literals.{Literal}
use Rattle.cx_base.specs.Problem.{Problem}
use Rattle.cx_base.specs.declared.steps.LogEvent.{LogEvent}
use Rattle.cx_base.specs.declared.steps.LogEvent.TheVariants.{Step, Conflict}
use Rattle.cx_semantics.specs.Marked.{Marked, mark_of}
use Rattle.conflict_learn.specs.declared.fault.CoreFault.{CoreFault}
use Rattle.parity_engine.specs.State.{State}
use Rattle.search_steps.proofs.EndLaws.{is_marked}
use Rattle.search_steps.specs.TidyLines.{TidiedInTime, marks_in, restart_of, tidy_lines_in}
use Rattle.step_text.specs.Sinks.{AreItemsOf, GainsItems}
use Rattle.step_text.specs.declared.sink.Sink as sink
use Rattle.cdcl_search.specs.Logs.{GoesOn}
use Rattle.cdcl_search.specs.declared.logs.SearchLog.{SearchLog}
use Rattle.cdcl_search.specs.declared.state.SearchState.{SearchState}
use Rattle.cdcl_core.specs.Beginning.{IsAtStart}
use Rattle.cdcl_core.specs.Given.{HasGiven}
use Rattle.cdcl_core.specs.LogLines.{AreInTime, AreTidyLines, HasMarksUpTo, HasNoLine}
use Rattle.cdcl_core.specs.Results.{IsOpenWith, RefutesIn}
use Rattle.cdcl_core.proofs.Answering.{log_is_open}
use Rattle.cdcl_core.proofs.LogLineLaws.{gained, items_then}

-- ---- lines with no mark and no tidy line are in time
marks_split : (front later : List (Line LogEvent)) → marks_in (front ++ later) ≡ marks_in front + marks_in later
marks_split front later =
    ap (λ (x : List LogEvent). length (filter_map mark_of x)) (filter_map-append item_of front later) ∙ ap (λ (x : List ℕ). length x) (filter_map-append mark_of (items_of front) (items_of later))
    ∙ length-append (filter_map mark_of (items_of front)) (filter_map mark_of (items_of later))

tidy_lines_split : (front later : List (Line LogEvent)) → tidy_lines_in (front ++ later) ≡ tidy_lines_in front + tidy_lines_in later
tidy_lines_split front later = ap (λ (x : List ℕ). length x) (filter_map-append restart_of front later) ∙ length-append (filter_map restart_of front) (filter_map restart_of later)

pub calm_lines : (lines : List (Line LogEvent)) → marks_in lines ≡ 0 → tidy_lines_in lines ≡ 0 → TidiedInTime lines
calm_lines lines none calm front later (item (Step step)) e = tt
calm_lines lines none calm front later (item (Conflict k)) e =
    let all = ap marks_in e in
    let parts = marks_split front (item (Conflict k) ∷ later) in
    absurd (omega (arith, all, parts, none))
calm_lines lines none calm front later (tidy r) e =
    let all = ap tidy_lines_in e in
    let parts = tidy_lines_split front (tidy r ∷ later) in
    absurd (omega (arith, all, parts, calm))

pub no_line_is_calm : (told : Option (List (Line LogEvent))) → HasNoLine told → AreTidyLines 0 told
no_line_is_calm None none = tt
no_line_is_calm (Some lines) none = subst (λ xs. AreTidyLines 0 (Some xs)) (sym none) (calm_lines [] refl refl, refl)

pub calm_is_in_time : (n : ℕ) (told : Option (List (Line LogEvent))) → AreTidyLines n told → AreInTime told
calm_is_in_time n None calm = tt
calm_is_in_time n (Some lines) calm = calm.0

items_are_no_tidy_lines : (events : List LogEvent) → tidy_lines_in (map item events) ≡ 0
items_are_no_tidy_lines [] = refl
items_are_no_tidy_lines (e ∷ events) = items_are_no_tidy_lines events

-- calls that told events, none of them a mark
pub still_calm : (old : Option (List (Line LogEvent))) (old_items : Option (List LogEvent)) (new : Option (List (Line LogEvent))) (new_items : Option (List LogEvent)) → AreItemsOf old old_items → AreItemsOf new new_items → GainsItems old new
    → AreTidyLines 0 old → HasMarksUpTo 0 new_items → AreTidyLines 0 new
still_calm old old_items new new_items were are gains calm unmarked = elim (gained old old_items new new_items were are gains) [
  | inl none ↦ subst (AreTidyLines 0) (sym none.1) tt
  | inr g ↦
      let before = subst (AreTidyLines 0) g.were calm in
      let lines = g.before ++ map item g.events in
      let marks : length (filter_map mark_of (items_of g.before ++ g.events)) ≤ 0 = subst (HasMarksUpTo 0) g.items_are unmarked in
      let none : marks_in lines ≡ 0 = ap (λ (x : List LogEvent). length (filter_map mark_of x)) (items_then g.before g.events) ∙ omega (arith, marks) in
      let parts = tidy_lines_split g.before (map item g.events) in
      let alone = items_are_no_tidy_lines g.events in
      let first = before.1 in
      let no_tidy : tidy_lines_in lines ≡ 0 = omega (arith, parts, alone, first) in
      subst (AreTidyLines 0) (sym g.are) (calm_lines lines none no_tidy, no_tidy)
]

module _ {L : Type 0} (m : sink.Ghosts L LogEvent) (are : (a : L) → AreItemsOf (m.lines a) (m.items a)) (gains : (a b : L) → m.keeps a b → GainsItems (m.lines a) (m.lines b)) where
  pub calm_then : (a b : SearchLog L) (why : Option CoreFault) → GoesOn m a why b → AreTidyLines 0 (m.lines a.sink.now) → HasMarksUpTo 0 (m.items b.sink.now) → AreTidyLines 0 (m.lines b.sink.now)
  calm_then a b why on calm unmarked =
      still_calm (m.lines a.sink.now) (m.items a.sink.now) (m.lines b.sink.now) (m.items b.sink.now) (are a.sink.now) (are b.sink.now) (gains a.sink.now b.sink.now on.frame) calm unmarked

-- ---- where no mark was told
marked_so : (formula : Problem) (events : List LogEvent) (n : ℕ) → Marked formula events n → n ≤ 0 → length (filter_map mark_of events) ≤ 0
marked_so formula events n marked few = subst (λ k. k ≤ 0) (sym (ap length marked.marks ∙ length-range_with_len 1 n)) few

pub refuted_unmarked : {tidies : Bool} (formula : Problem) (told : Option (List LogEvent)) (failed : List Literal) → RefutesIn tidies formula 1 told failed → HasMarksUpTo 0 told
refuted_unmarked formula None failed r = tt
refuted_unmarked formula (Some events) failed r = let n = r.log.1 in let few = n.1 in marked_so formula events n.0 n.2 (omega (arith, few))

open_unmarked : (tidies : Bool) (formula : Problem) (n : ℕ) (told : Option (List LogEvent)) → n ≡ 0 → IsOpenWith tidies formula n told → HasMarksUpTo 0 told
open_unmarked tidies formula n None none o = tt
open_unmarked tidies formula n (Some events) none o = marked_so formula events n o.1 (omega (arith, none))

pub begun_unmarked : (formula : Problem) (told : Option (List LogEvent)) (c : SearchState) (e : State) → IsAtStart formula told c e → HasMarksUpTo 0 told
begun_unmarked formula told c e at = open_unmarked c.tidies formula c.conflicts told at.none (log_is_open formula c e [] told at.stands)

pub given_unmarked : (formula : Problem) (parities : List (List Literal)) (told : Option (List LogEvent)) → HasGiven formula parities told → HasMarksUpTo 0 told
given_unmarked formula parities None given = tt
given_unmarked formula parities (Some events) (s, given, told) =
    subst (λ xs. HasMarksUpTo 0 (Some xs)) (sym told) (let none = given.no_conflict in marked_so formula s.events s.conflicts (is_marked {tidies = true} formula parities s (given.search true) given.tidy.served) (omega (arith, none)))

-- ---- what refutes for a search that does not tidy
pub refutes_either : (tidies : Bool) (formula : Problem) (n : ℕ) (told : Option (List LogEvent)) (failed : List Literal) → RefutesIn false formula n told failed → RefutesIn tidies formula n told failed
refutes_either false formula n told failed r = r
refutes_either true formula n None failed r = record { unmet = r.unmet; fails = r.fails; clash = r.clash; log = tt }
refutes_either true formula n (Some events) failed r = record {
  unmet = r.unmet;
  fails = r.fails;
  clash = r.clash;
  log = (r.log.0, (r.log.1.0, r.log.1.1, r.log.1.2, tt), λ front k zs later e among. inl (r.log.2 front k zs later e among), r.log.3);
}
