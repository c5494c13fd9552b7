-- The clauses of rows are deleted: the ties of the search after that.
use Rattle.std.proofs.Common.{Bool, true, false, not, cond, nat_eq, ◌||◌, ◌&&◌, ◌≡◌, refl, sym, ap, ◌∙◌, subst, ℕ, zero, suc, ◌+◌, ◌-◌, ◌<◌, ◌≤◌, true≢false, List, [], ◌∷◌, ◌++◌, length, take, fold, Option, arith, append_assoc}
use Rattle.std.proofs.lemmas.List.{map_push}
use Rattle.std.specs.List.{AllByRecursion}
use Rattle.cx_base.specs.Literals.{Literal}
use Rattle.cx_base.specs.Problem.{Problem}
use Rattle.cx_base.proofs.Elements.{all_append}
use Rattle.cx_base.specs.declared.steps.LogStep.{LogStep}
use Rattle.cx_base.specs.declared.steps.LogStep.TheVariants.{Delete}
use Rattle.cx_base.specs.declared.steps.LogEvent.{LogEvent}
use Rattle.cx_base.specs.declared.steps.LogEvent.TheVariants.{Step}
use Rattle.cx_semantics.specs.Marked.{without, is_among, is_covered_without, clause_at}
use Rattle.cx_semantics.specs.Tables.{get}
use Rattle.parity_engine.specs.State.{State}
use Rattle.search_steps.specs.Trail.{level_of, held}
use Rattle.search_steps.specs.Search.{Search, IsSearchIn, told}
use Rattle.search_steps.specs.LogSteps.{AreTemporary, deleted, all_told}
use Rattle.search_steps.specs.Holding.{AreTold}
use Rattle.search_steps.specs.Ids.{IsRanged}
use Rattle.search_steps.specs.Size.{HasFewAdditions}
use Rattle.search_steps.proofs.Rounds.{deleted_keeps, temporary_still, deleted_trail, deleted_levels, deleted_conflicts, deleted_awaits, deleted_old_sums, deleted_new_sums, deleted_parities, deleted_old, deleted_get}
use Rattle.search_steps.proofs.RowReasons.{all_deleted}
use Rattle.search_steps.proofs.SizeLaws.{deletions_add_none}
use Rattle.search_steps.proofs.IdLaws.{row_ids_are_temporary, deletions_ranged, risen_ranged, low_is_no_row}
use Rattle.std.specs.Prelude.{if◌then◌else◌}
use Rattle.cdcl_search.specs.declared.state.SearchState.{SearchState}
use Rattle.cdcl_search.specs.Deleting.{deletions}
use Rattle.cdcl_search.specs.Tells.{as_events, with_events, IsTellable}
use Rattle.cdcl_search.specs.Ties.{Ties, TiesFrom, SearchStands, SearchStandsFrom, AreUnits, ClauseTies, AreLearned, TrailTies, EngineTies, IsWatched, IsFallingFrom, stretches, AreNumbered, first_row_id, row_ids}
use Rattle.cdcl_search.proofs.RowSteps.{all_told_are}
use Rattle.cdcl_search.proofs.TableLaws.{AnswersBelow, clauses_stay, units_stay}

-- ---- the steps
-- the newest of the rows that are left goes next
pub one_deleted : (steps : List LogStep) (first left : ℕ) (s : LogStep) (all : List LogEvent) → 0 < left → s ≡ Delete (first + (left - 1)) [] → as_events steps ++ deletions (row_ids first left) ≡ all
    → as_events (steps ++ s ∷ []) ++ deletions (row_ids first (left - 1)) ≡ all
one_deleted steps first zero s all some is so_far = absurd (omega (arith, some))
one_deleted steps first (suc left) s all some is so_far = subst (λ k. as_events (steps ++ s ∷ []) ++ deletions (row_ids first k) ≡ all) (sym one_less)
    (ap (λ es. es ++ deletions (row_ids first left)) (map_push Step steps s) ∙ append_assoc (as_events steps) (Step s ∷ []) (deletions (row_ids first left)) ∙ ap (λ x. as_events steps ++ Step x ∷ deletions (row_ids first left)) (is ∙ ap (λ k. Delete (first + k) []) one_less) ∙ so_far)
  where
    one_less : suc left - 1 ≡ left
    one_less = omega arith

pub one_more_text : (steps : List LogStep) (s : LogStep) (more : List LogStep) → more ≡ steps ++ s ∷ [] → AllByRecursion IsTellable steps → IsTellable s → AllByRecursion IsTellable more
one_more_text steps s more are a h = subst (AllByRecursion IsTellable) (sym are) (all_append IsTellable steps (s ∷ []) a (h, tt))

-- ---- what deletions leave as it was
deleted_new_clauses : (s : Search) (ids : List ℕ) → (deleted s ids).moment.new_clauses ≡ fold without s.moment.new_clauses ids
deleted_new_clauses s [] = refl
deleted_new_clauses s (n ∷ ids) = deleted_new_clauses (told s (Step (Delete n []))) ids

deleted_is_told : (s : Search) (ids : List ℕ) → all_told s (deletions ids) ≡ deleted s ids
deleted_is_told s [] = refl
deleted_is_told s (n ∷ ids) = deleted_is_told (told s (Step (Delete n []))) ids

first_temporary : (s : Search) (ids : List ℕ) (k : ℕ) → AreTemporary s ids → AreTemporary s (take k ids)
first_temporary s ids zero t = tt
first_temporary s [] (suc k) t = tt
first_temporary s (n ∷ ids) (suc k) t = (t.0, first_temporary s ids k t.1)

-- ids that are not among the learned ones leave these as they were, and are no reduction
without_none : (ns : List ℕ) (n : ℕ) → is_among ns n ≡ false → without ns n ≡ ns
without_none [] n h = refl
without_none (x ∷ ns) n h = go (nat_eq n x) refl h (without_none ns n)
  where
    go : (b : Bool) → nat_eq n x ≡ b → (b || is_among ns n) ≡ false → (is_among ns n ≡ false → without ns n ≡ ns) → without (x ∷ ns) n ≡ x ∷ ns
    go true e h rec = absurd (true≢false h)
    go false e h rec = ap (λ b. cond (not b) (x ∷ without ns n) (without ns n)) e ∙ ap (λ xs. x ∷ xs) (rec h)

or_none : (b : Bool) → (b || false) ≡ b
or_none true = refl
or_none false = refl

pub temporary_learned : (s : Search) (ids : List ℕ) → AreTemporary s ids → (deleted s ids).moment.learned ≡ s.moment.learned
temporary_learned s [] t = refl
temporary_learned s (n ∷ ids) t = temporary_learned (told s (Step (Delete n []))) ids (temporary_still s n ids t.1) ∙ without_none s.moment.learned n t.0.1

pub temporary_stretches : (s : Search) (ids : List ℕ) → AreTemporary s ids → stretches (deleted s ids).moment ≡ stretches s.moment
temporary_stretches s [] t = refl
temporary_stretches s (n ∷ ids) t =
    let m = s.moment in
    temporary_stretches (told s (Step (Delete n []))) ids (temporary_still s n ids t.1)
    ∙ ap (λ b. if b then m.reductions + 1 else m.reductions) (ap (λ b. m.reduces || (b && not (is_covered_without m.tables.clauses n (clause_at m.tables.clauses n)))) t.0.1 ∙ or_none m.reduces)

-- ---- the ties
module _ (formula : Problem) (c : SearchState) (e : State) (first : ℕ) (rows : List (List Literal)) (near : first + length rows ≤ first_row_id c.next) (s : Search) (ok : IsSearchIn c.tidies formula e.parities s) (t : TiesFrom formula c e first rows s) where
  abbrev ids : List ℕ
  ids = s.moment.new_clauses

  abbrev after : Search
  after = deleted s s.moment.new_clauses

  temporary : AreTemporary s ids
  temporary = row_ids_are_temporary formula first c.next (first + length rows) s t.log.ranged ids t.log.ranged.new_rows

  none_new : after.moment.new_clauses ≡ []
  none_new = deleted_new_clauses s ids ∙ all_deleted ids ids (λ m h. h)

  none_old : after.moment.old_clauses ≡ []
  none_old = deleted_old s ids ∙ ap (λ xs. fold without xs ids) t.log.served.old_clauses ∙ all_deleted ids [] (λ m h. absurd (true≢false (sym h)))

  answers : AnswersBelow first s.moment.tables.clauses after.moment.tables.clauses
  answers m low = deleted_get s ids m (low_is_no_row formula first c.next (first + length rows) s t.log.ranged m low)

  ranged_then : IsRanged formula (first_row_id c.next) c.next (first_row_id c.next + 0) after.trail after.moment
  ranged_then = subst (λ r. IsRanged formula (first_row_id c.next) c.next r after.trail after.moment) (let z : first_row_id c.next ≡ first_row_id c.next + 0 = omega arith in z)
      (risen_ranged formula first c.next (first + length rows) after (deletions_ranged formula first c.next (first + length rows) s ids t.log.ranged) (first_row_id c.next) (omega (arith, near)) none_new none_old)

  answers_below_next : AnswersBelow c.next s.moment.tables.clauses after.moment.tables.clauses
  answers_below_next m low = answers m (let room = t.log.ranged.room in omega (arith, low, room))

  few_then : c.tidies ≡ false → HasFewAdditions formula c.next (first_row_id c.next) 0 after
  few_then plain = subst (λ k. HasFewAdditions formula c.next (first_row_id c.next) 0 (record after { conflicts = k })) (sym (deleted_conflicts s ids))
      (let was = t.log.few_additions plain in let same = deletions_add_none s ids in omega (arith, was, same, near))

  ties_then : Ties formula c e [] after
  ties_then = record {
    log = record {
      ranged = ranged_then;
      sums = λ n high. ap (λ table. get table n) (deleted_parities s ids) ∙ t.log.sums n high;
      numbered = subst (λ table. AreNumbered table e.parities) (sym (deleted_parities s ids)) t.log.numbered;
      rows_told = λ i h. absurd (omega (arith, h));
      few_rows = omega arith;
      few_additions = few_then;
      none_at_0 = answers_below_next 0 (let some = t.log.ranged.originals in omega (arith, some)) ∙ t.log.none_at_0;
      served = record {
        served = deleted_awaits s ids ∙ t.log.served.served;
        old_clauses = none_old;
        new_clauses = none_new;
        old_sums = deleted_old_sums s ids ∙ t.log.served.old_sums;
        new_sums = deleted_new_sums s ids ∙ t.log.served.new_sums;
      };
    };
    clauses = subst (λ es. ClauseTies c.tidies formula after.moment.tables.clauses c.next c.arena c.tidy_below (held 0 es)) (sym (deleted_trail s ids)) (clauses_stay formula s.moment.tables.clauses after.moment.tables.clauses c.next c.arena (held 0 s.trail) answers_below_next t.clauses);
    learned = subst (AreLearned c.arena) (sym (temporary_learned s ids temporary)) t.learned;
    trail = subst (λ es. TrailTies formula es c.trail c.order c.phases.items) (sym (deleted_trail s ids)) t.trail;
    units = subst (λ es. AreUnits after.moment.tables.clauses c.next c.trail es c.units.items) (sym (deleted_trail s ids)) (units_stay s.moment.tables.clauses after.moment.tables.clauses c.next c.trail s.trail c.units.items answers_below_next t.units);
    engine = subst (λ es. EngineTies formula es c.given e) (sym (deleted_trail s ids)) t.engine;
    reasons = t.reasons;
    counts = record {
      marked = deleted_conflicts s ids ∙ t.counts.marked;
      falling = subst (IsFallingFrom c.next) (sym (temporary_learned s ids temporary)) t.counts.falling;
      many = subst (λ ns. c.learned ≤ length ns) (sym (temporary_learned s ids temporary)) t.counts.many;
      few = subst (λ n. n ≤ c.reductions) (sym (temporary_stretches s ids temporary)) t.counts.few;
    };
    ids = t.ids;
    levels = deleted_levels s ids ∙ t.levels ∙ ap level_of (sym (deleted_trail s ids));
  }

  is_search_then : (k : ℕ) → IsSearchIn c.tidies formula e.parities (deleted s (take k ids))
  is_search_then k = deleted_keeps formula e.parities s ok (take k ids) (first_temporary s ids k temporary)

  told_then : (old : Option (List LogEvent)) → AreTold old s.events → (some : List ℕ) → AreTold (with_events (deletions some) old) (deleted s some).events
  told_then old a some = subst (λ (u : Search). AreTold (with_events (deletions some) old) u.events) (deleted_is_told s some) (all_told_are (deletions some) s old a)

  pub stands_then : (old : Option (List LogEvent)) → AreTold old s.events → IsWatched c.watches c.arena c.trail → SearchStands formula c e [] (with_events (deletions ids) old)
  stands_then old a f = (after, deleted_keeps formula e.parities s ok ids temporary, told_then old a ids, ties_then, f)

-- ---- what telling the deletions leaves
-- the deletions of all clauses of rows leave a search that fits
pub rows_deleted : (formula : Problem) (c : SearchState) (e : State) (rows : List (List Literal)) (old : Option (List LogEvent)) → SearchStandsFrom formula c e c.next rows old → length rows ≤ 1 → (events : List LogEvent) → events ≡ deletions (row_ids c.next (length rows))
    → SearchStands formula c e [] (with_events events old)
rows_deleted formula c e rows old st few events are =
    subst (SearchStands formula c e []) (sym (ap (λ es. with_events es old) (are ∙ ap deletions (sym st.3.log.served.new_clauses)))) (stands_then formula c e c.next rows (omega (arith, few)) st.0 st.1 st.3 old st.2 st.4)
