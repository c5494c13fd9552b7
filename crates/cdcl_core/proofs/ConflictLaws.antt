-- The row of a contradiction explains a conflict, and what a conflict comes to.
use Rattle.std.proofs.Common.{◌≡◌, sym, ap, ◌∙◌, subst, ℕ, ◌+◌, ◌≤◌, true, false, List, [], ◌∷◌, length, get_or, Option, None, arith, inl, inr, Some}
use Rattle.std.specs.List.{All, AllByRecursion}
use Rattle.std.proofs.lemmas.Option.{same_Some}
use Rattle.cx_base.specs.Literals.{Literal}
use Rattle.cx_base.specs.Problem.{Problem}
use Rattle.cx_semantics.specs.Chain.{has_literal}
use Rattle.cx_base.specs.Assumptions.{is_ending, IsFailed}
use Rattle.cx_base.specs.declared.steps.LogEvent.{LogEvent}
use Rattle.clause_arena.specs.Clauses.{IsLive, id_at, literals_at}
use Rattle.parity_engine.specs.State.{State, Named, named_at, OfNamed}
use Rattle.parity_engine.specs.Equations.{sum_of_numbers}
use Rattle.parity_engine.specs.Written.{IsWritten, AreRising}
use Rattle.watch_lists.specs.Truths.{IsFalsified}
use Rattle.xor_reason.specs.Laws.{StandsOn}
use Rattle.xor_reason.specs.ReasonClause.{AreAssigned, AreFalseBut, IsReasonFor, IsReasonClause}
use Rattle.cx_trail.specs.Sequence.{IsTrueIn}
use Rattle.xor_reason.specs.declared.reason.ReasonOf.{ReasonOf}
use Rattle.xor_reason.proofs.EventLaws.{broken_is_missed}
use Rattle.search_steps.specs.Size.{additions, most_additions}
use Rattle.search_steps.specs.Tied.{IsTied}
use Rattle.search_steps.proofs.EngineLaws.{known_is_true}
use Rattle.search_steps.proofs.Stored.{of_has}
use Rattle.cdcl_search.specs.declared.state.SearchState.{SearchState}
use Rattle.cdcl_search.specs.Explaining.{Explains}
use Rattle.cdcl_search.specs.declared.propagation.Found.{Found}
use Rattle.cdcl_search.specs.declared.propagation.Found.TheVariants as found
use Rattle.cdcl_search.specs.Finds.{PropagationFinds}
use Rattle.cdcl_search.specs.Tells.{with_events, IsId}
use Rattle.cdcl_search.specs.Ties.{SearchStands, first_row_id}
use Rattle.cdcl_core.specs.declared.conflicts.Conclusion.TheVariants.{Clause}
use Rattle.cdcl_core.specs.declared.conflicts.Conflict.{Conflict}
use Rattle.cdcl_core.specs.Concluding.{Concludes, EndsLog, IsEndedWith, IsRowAgainst, IsClauseAgainst}
use Rattle.cdcl_core.specs.Shortening.{AreShort, EndsByRow, HasNoUnit, short_row_events}
use Rattle.cdcl_core.specs.declared.conflicts.LogEnd.{LogEnd}
use Rattle.cdcl_core.specs.declared.shortening.UnitClause.{UnitClause}
use Rattle.cdcl_core.proofs.ShortLaws.{known_by, few_by, short_by, IsUnitIn, IsReadyToEnd, IsLeftOfRow, ready_to_end, is_left, told_units, left_inside, left_is_unmet, left_fails, left_ends, negations_all, false_negations}
use Rattle.cdcl_core.proofs.FewAdditions.{ties_add_few, parts_are_all}
use Rattle.conflict_learn.specs.Learning.{IsAntecedent}
use Rattle.cdcl_search.specs.Sources.{IsSourcedBy}
use Rattle.cdcl_search.proofs.RowReasons as reasons

-- what a row is that is against: it is named, its variables are assigned, and it is a reason of its kind
pub record IsAgainst (c : SearchState) (e : State) (row : ℕ) (kept : Option Literal) : Type 0 where
  pub what : Named
  pub is : named_at e row ≡ Some what
  pub assigned : OfNamed e row (λ n. AreAssigned c.trail n.form)
  pub kind : OfNamed e row (λ n. IsReasonFor c.trail kept n.form)

-- ---- conflicts
module _ (formula : Problem) (c : SearchState) (e : State) (told : Option (List LogEvent)) (st : SearchStands formula c e [] told) where
  stands_on : StandsOn e c.trail
  stands_on l h =
      let fed = st.3.engine.fed in
      known_is_true e fed.older fed.values fed.newer c.trail.entries (subst (λ es. IsTied es c.trail.entries) fed.parts st.3.trail.follows.tied) l h

  -- a stored clause that is falsified
  pub stored_concludes : (r : ℕ) → IsLive c.arena r → IsFalsified c.trail.entries (literals_at c.arena r) → (k : Conflict) → k.lits ≡ literals_at c.arena r → k.id ≡ id_at c.arena r → k.rows ≡ [] → IsId k.id → Concludes formula c e told None (Clause k)
  stored_concludes r live falsified k are at none is_id = (
    subst (λ rows. SearchStands formula c e rows told) (sym none) st,
    record { sourced = inl (r, live, are, at); all_false = λ m h. falsified m (of_has (literals_at c.arena r) m (ap (λ ls. has_literal ls m) (sym are) ∙ h)) },
    (is_id, let long = ap length none in omega (arith, long)),
  )

  -- a stored clause or a unit clause that implied a literal
  pub hinted_concludes : (l : Literal) (k : Conflict) → k.rows ≡ [] → IsId k.id → IsSourcedBy c [] k.lits k.id → IsAntecedent c.trail l k.lits → Concludes formula c e told (Some l) (Clause k)
  hinted_concludes l k none is_id sourced implied = (
    subst (λ rows. SearchStands formula c e rows told) (sym none) st,
    (subst (λ rows. IsSourcedBy c rows k.lits k.id) (sym none) sourced, implied),
    (is_id, let long = ap length none in omega (arith, long)),
  )

  module _ (row : ℕ) where
    pub against : (kept : Option Literal) → IsRowAgainst c e row kept → IsAgainst c e row kept
    against None clash = record {
      what = clash.0;
      is = clash.1;
      assigned = λ n is. subst (λ m. AreAssigned c.trail m.form) (same_Some clash.0 n (sym clash.1 ∙ is)) (broken_is_missed e c.trail clash.0.form stands_on clash.3).0;
      kind = λ n is. subst (λ m. IsReasonFor c.trail None m.form) (same_Some clash.0 n (sym clash.1 ∙ is)) (broken_is_missed e c.trail clash.0.form stands_on clash.3).1;
    }
    against (Some l) why = record {
      what = why.2.named;
      is = why.2.is;
      assigned = reasons.all_assigned c.trail e l row why;
      kind = reasons.gives_literal c.trail e l row why;
    }

    module _ (kept : Option Literal) (at : IsRowAgainst c e row kept) (reason : ReasonOf) (written : OfNamed e row (λ n. IsWritten n.form reason.parity)) (numbers : AreRising 1 (length e.parities) reason.sources)
        (sums : OfNamed e row (λ n. n.form ≡ sum_of_numbers e.parities reason.sources)) (clause : OfNamed e row (λ n. IsReasonClause c.trail kept n.form reason.parity reason.clause)) where
      abbrev theirs : List (List Literal)
      theirs = e.parities

      abbrev a : IsAgainst c e row kept
      a = against kept at

      is_clause : IsReasonClause c.trail kept a.what.form reason.parity reason.clause
      is_clause = clause a.what a.is

      pub row_numbers : AreRising 1 (length theirs) reason.sources
      row_numbers = numbers

      pub row_explains : Explains theirs c.trail reason
      row_explains = record {
        form = a.what.form;
        written = written a.what a.is;
        numbers = numbers;
        sums = sums a.what a.is;
        one_of_each = is_clause.one_of_each;
        follows = is_clause.follows;
        assigned = a.assigned a.what a.is;
      }

      pub row_is_known : All (λ (l : Literal). l.variable ≤ c.trail.variables) reason.clause
      row_is_known = known_by formula c e [] st.0 st.1 st.3 reason row_explains

      pub row_is_short : length reason.clause ≤ 268435455
      row_is_short = short_by formula c e [] st.0 st.1 st.3 reason row_explains

      -- the steps of a row whose clause is an ending clause
      module _ (ends : is_ending formula.constraints reason.clause ≡ true) (n : LogEnd) (by : EndsByRow c (length formula.constraints) reason n) where
        abbrev left : List Literal
        left = by.short.left

        abbrev units : List UnitClause
        units = by.short.units.items

        abbrev k : ℕ
        k = length formula.constraints + 1

        units_in : AllByRecursion (IsUnitIn formula.variables st.0.moment.tables.clauses) units
        units_in = told_units formula c e [] st.0 st.3 units by.shortened.told

        ready : IsReadyToEnd c.tidies formula theirs c.conflicts k (first_row_id c.next) st.0
        ready = subst (λ m. IsReadyToEnd c.tidies formula theirs c.conflicts k m st.0) (let z : first_row_id c.next + 0 ≡ first_row_id c.next = omega arith in z) (ready_to_end formula c e [] st.0 st.1 st.3)

        of_row : IsLeftOfRow formula theirs reason.sources units left
        of_row = is_left formula c e [] st.0 st.1 st.3 reason row_explains left units by.shortened.parts ends

        few_then : c.tidies ≡ false → additions st.0.events + length units + 2 ≤ most_additions formula c.conflicts
        few_then plain =
            let few = ties_add_few formula c e [] st.0 st.3 plain in
            let parts = parts_are_all reason.clause left units by.shortened.parts in
            let width = few_by formula c e [] st.0 st.1 st.3 reason row_explains in
            omega (arith, few, parts, width)

        pub ends_log : EndsLog formula c told n.failed n.steps.items
        ends_log = record {
          texts = by.ends.steps.texts;
          unmet = left_is_unmet formula theirs c.conflicts k (first_row_id c.next) st.0 ready reason.sources units left of_row units_in;
          fails = subst (IsFailed formula) (sym by.ends.failed) (left_fails formula theirs c.conflicts k (first_row_id c.next) st.0 ready reason.sources units left of_row units_in);
          apart = st.1.log.apart;
          log = subst (λ xs. IsEndedWith c.tidies formula c.conflicts n.failed (with_events xs told)) (sym by.ends.steps.are)
              (subst (λ failed. IsEndedWith c.tidies formula c.conflicts failed (with_events (short_row_events k reason.sources units left (first_row_id c.next)) told)) (sym by.ends.failed)
              (left_ends formula theirs c.conflicts k (first_row_id c.next) st.0 ready reason.sources units left of_row units_in few_then told st.2));
        }

        pub is_short : AreShort c kept n.failed
        is_short = record {
          no_unit = subst (AllByRecursion (HasNoUnit c)) (sym by.ends.failed) (negations_all (HasNoUnit c) left by.shortened.no_unit);
          are_true = λ none. subst (AllByRecursion (IsTrueIn c.trail.entries)) (sym by.ends.failed)
              (false_negations c.trail reason.clause (subst (λ k. AreFalseBut c.trail k reason.clause) none is_clause.are_false) left (left_inside reason.clause left by.short.units.items by.shortened.parts));
        }

    -- the clause of the row, where it was told
    is_told_row : (rows : List (List Literal)) (lits clause : List Literal) (n : ℕ) → lits ≡ clause → n ≡ first_row_id c.next → rows ≡ clause ∷ [] → IsSourcedBy c rows lits n
    is_told_row rows lits clause n are at told_rows = inr (inr (0, (let one = ap length told_rows in omega (arith, one)), are ∙ sym (ap (λ xs. get_or xs 0 []) told_rows), omega (arith, at)))

    pub row_is_against : (kept : Option Literal) (at : IsRowAgainst c e row kept) (reason : ReasonOf) → OfNamed e row (λ n. IsWritten n.form reason.parity) → AreRising 1 (length e.parities) reason.sources
        → OfNamed e row (λ n. n.form ≡ sum_of_numbers e.parities reason.sources) → OfNamed e row (λ n. IsReasonClause c.trail kept n.form reason.parity reason.clause)
        → (rows : List (List Literal)) (lits : List Literal) (n : ℕ) → lits ≡ reason.clause → n ≡ first_row_id c.next → rows ≡ reason.clause ∷ [] → IsClauseAgainst c rows kept lits n
    row_is_against None at reason written numbers sums clause rows lits n are id_is told_rows = record {
      sourced = is_told_row rows lits reason.clause n are id_is told_rows;
      all_false = λ m h. (clause at.0 at.1).are_false m (ap (λ ls. has_literal ls m) (sym are) ∙ h);
    }
    row_is_against (Some l) at reason written numbers sums clause rows lits n are id_is told_rows = (
      is_told_row rows lits reason.clause n are id_is told_rows,
      subst (IsAntecedent c.trail l) (sym are) (reasons.is_antecedent c.trail e l row at reason written numbers sums clause st.3.trail.follows.sound),
    )

pub found_concludes : (formula : Problem) (c : SearchState) (e : State) (told : Option (List LogEvent)) → SearchStands formula c e [] told → (what : Found) (r : ℕ) → what ≡ found.Clause r → PropagationFinds c e what
    → (k : Conflict) → k.lits ≡ literals_at c.arena r → k.id ≡ id_at c.arena r → k.rows ≡ [] → IsId k.id → Concludes formula c e told None (Clause k)
found_concludes formula c e told st what r is finds k are at none is_id =
    let f = subst (PropagationFinds c e) is finds in
    stored_concludes formula c e told st r (st.4.fits.nodes.live r f.0) f.1 k are at none is_id
