-- The clauses of a source implied the literals.
use Rattle.std.proofs.Common.{◌≡◌, refl, sym, ap, ◌∙◌, subst, ℕ, ◌+◌, ◌<◌, ◌≤◌, List, [], ◌∷◌, ◌++◌, length, arith, inl, inr, length-append, length-take, get_or, Some}
use Rattle.std.proofs.Math.ListN.{get_or-append}
use Rattle.cx_base.specs.Literals.{Literal, negate, same_literal}
use Rattle.cx_base.proofs.LiteralLaws.{negate-negate, same_literal-itself}
use Rattle.cx_base.specs.Problem.{Problem}
use Rattle.cx_semantics.specs.Chain.{has_literal}
use Rattle.cx_semantics.specs.Tables.{get}
use Rattle.cx_semantics.proofs.Closure.{inside_itself}
use Rattle.std.proofs.lemmas.Bool.{and_from}
use Rattle.cx_trail.specs.declared.entry.Reason.{Reason}
use Rattle.cx_trail.specs.declared.entry.Reason.TheVariants as reason
use Rattle.cx_trail.specs.Sequence.{TrailState, IsTrail, entry_at}
use Rattle.clause_arena.specs.Clauses.{IsLive, literals_at}
use Rattle.conflict_learn.specs.Learning.{IsAntecedent, HasReason, literal_at}
use Rattle.parity_engine.specs.State.{State}
use Rattle.search_steps.proofs.Sets.{not_both}
use Rattle.search_steps.proofs.Stored.{has_of, of_has}
use Rattle.search_steps.specs.Search.{Search}
use Rattle.search_steps.specs.Tied.{IsLiveSet}
use Rattle.cdcl_search.specs.declared.state.SearchState.{SearchState}
use Rattle.cdcl_search.specs.Ties.{HaveReasons, HasReasonOf, IsClauseReasonOf, IsNamedBy, Ties, first_row_id}
use Rattle.cdcl_search.specs.Explaining.{IsReasonOf}
use Rattle.std.specs.Prelude.{Result, Ok, Err, IfOk, OnOk, OnErr}
use Rattle.cdcl_search.specs.Sources.{IsSourcedBy}
use Rattle.cdcl_search.proofs.RowReasons.{entry_taken}

module _ (t : TrailState) (sound : IsTrail t) (l : Literal) (place : ℕ) (less : place < length t.entries) (at : (entry_at t.entries place).literal ≡ negate (negate l)) where
  pub here : (entry_at t.entries place).literal ≡ l
  here = at ∙ negate-negate l

  pub only_place : (p : ℕ) → p < length t.entries → literal_at t p ≡ l → place ≡ p
  only_place p low is = sound.distinct place p less low (ap (λ m. m.variable) (here ∙ sym is))

  pub reason_is : (why : Reason) → HasReason t l why → (entry_at t.entries place).reason ≡ why
  reason_is why h = ap (λ p. (entry_at t.entries p).reason) (only_place h.0 h.1 h.2) ∙ h.3

module _ (c : SearchState) (e : State) (have : HaveReasons c e) (sound : IsTrail c.trail) (l : Literal) (place : ℕ) (less : place < length c.trail.entries) (at : (entry_at c.trail.entries place).literal ≡ negate (negate l)) (high : length c.units.items ≤ place) where
  why_at : (why : Reason) → HasReason c.trail l why → HasReasonOf c.arena c.trail.entries e place why
  why_at why h = subst (HasReasonOf c.arena c.trail.entries e place) (reason_is c.trail sound l place less at why h) (have place high less)

  pub row_is_reason : (row : ℕ) → HasReason c.trail l (reason.Row row) → IsReasonOf e c.trail.entries l row
  row_is_reason row h = (place, (less, here c.trail sound l place less at), why_at (reason.Row row) h)

  pub clause_is_live : (r : ℕ) → HasReason c.trail l (reason.Clause r) → IsLive c.arena r
  clause_is_live r h = let why : IsClauseReasonOf c.arena c.trail.entries place r = why_at (reason.Clause r) h in why.live

  pub clause_is_antecedent : (r : ℕ) → HasReason c.trail l (reason.Clause r) → (clause : List Literal) → clause ≡ literals_at c.arena r → IsAntecedent c.trail l clause
  clause_is_antecedent r h clause is = subst (IsAntecedent c.trail l) (sym is) (λ p low same.
      let why : IsClauseReasonOf c.arena c.trail.entries place r = why_at (reason.Clause r) h in
      let one = only_place c.trail sound l place less at p low same in
      let is_l = here c.trail sound l place less at in
      record {
        has_it = ap (has_literal (literals_at c.arena r)) (same ∙ sym is_l) ∙ has_of (literals_at c.arena r) (entry_at c.trail.entries place).literal why.has;
        others_false = λ m has apart.
            let f = why.others m (of_has (literals_at c.arena r) m has) (λ e. not_both (same_literal l m) (ap (same_literal l) (e ∙ is_l) ∙ same_literal-itself l) (ap (λ x. same_literal x m) (sym same) ∙ apart)) in
            let few = length-take place c.trail.entries in
            let short = f.1.0 in
            (f.0, omega (arith, few, short, one), ap (λ x. x.literal) (sym (entry_taken c.trail.entries place f.0 f.1.0)) ∙ f.1.1);
      })

  -- above level 0 no literal is there by a decision
  pub no_decision : HasReason c.trail l reason.Decision → ⊥
  no_decision h =
      let above : 0 < (entry_at c.trail.entries place).level = why_at reason.Decision h in
      h.4 (subst (λ p. 0 < (entry_at c.trail.entries p).level) (only_place c.trail sound l place less at h.0 h.1 h.2) above) refl

-- ---- what is sourced
sourced_stays : (c : SearchState) (rows : List (List Literal)) (y clause : List Literal) (n : ℕ) → IsSourcedBy c rows clause n → IsSourcedBy c (rows ++ y ∷ []) clause n
sourced_stays c rows y clause n (inl a) = inl a
sourced_stays c rows y clause n (inr (inl u)) = inr (inl u)
sourced_stays c rows y clause n (inr (inr (i, less, is, at))) = inr (inr (i, let long = length-append rows (y ∷ []) in omega (arith, long, less), is ∙ sym (get_or-append rows (y ∷ []) [] i less), at))

-- the source's clauses are live under their ids
pub sourced_is_named : (formula : Problem) (c : SearchState) (e : State) (rows : List (List Literal)) (s : Search) → Ties formula c e rows s → (clause : List Literal) (n : ℕ) → IsSourcedBy c rows clause n → IsNamedBy s.moment.tables.clauses clause n
sourced_is_named formula c e rows s t clause n (inl (r, live, is, at)) = rw (is, at) (t.clauses.stored r live).named
sourced_is_named formula c e rows s t clause n (inr (inl (i, less, is, at))) = rw (is, at) (t.units.named i less)
sourced_is_named formula c e rows s t clause n (inr (inr (i, less, is, at))) = record {
  clause = clause;
  live = ap (get s.moment.tables.clauses) at ∙ t.log.rows_told i less ∙ ap Some (sym is);
  same = and_from _ _ (inside_itself clause) (inside_itself clause);
}

pub sourced_is_live : (formula : Problem) (c : SearchState) (e : State) (rows : List (List Literal)) (s : Search) → Ties formula c e rows s → (clause : List Literal) (n : ℕ) → IsSourcedBy c rows clause n → IsLiveSet s.moment.tables.clauses clause
sourced_is_live formula c e rows s t clause n is = let by = sourced_is_named formula c e rows s t clause n is in (by.clause, (n, by.live), by.same)

-- ---- rows that grew by one, or are as before
module _ {T : Type 0} (c : SearchState) (old new : List (List Literal)) (lits : T → List Literal) where
  pub last_is_sourced : {E : Type 0} (id : T → ℕ) (r : Result T E) → IfOk r (λ x. new ≡ old ++ lits x ∷ []) → IfOk r (λ x. id x ≡ first_row_id c.next + length old) → IfOk r (λ x. IsSourcedBy c new (lits x) (id x))
  last_is_sourced id (Ok x) h k =
      let long = ap length h in
      let both = length-append old (lits x ∷ []) in
      inr (inr (length old, omega (arith, long, both), sym (ap (λ xs. get_or xs (length old) []) h ∙ Rattle.std.proofs.Math.Seq.get_or-append_seam old (lits x) [] []), k))
  last_is_sourced id (Err e) h k = tt

  pub sourced_grows : {E : Type 0} (r : Result T E) → IfOk r (λ x. new ≡ old ++ lits x ∷ []) → OnErr r (new ≡ old) → (clause : List Literal) (n : ℕ) → IsSourcedBy c old clause n → IsSourcedBy c new clause n
  sourced_grows (Ok x) h k clause n is = subst (λ xs. IsSourcedBy c xs clause n) (sym h) (sourced_stays c old (lits x) clause n is)
  sourced_grows (Err e) h k clause n is = subst (λ xs. IsSourcedBy c xs clause n) (sym k) is

  pub one_more : {E : Type 0} (r : Result T E) → IfOk r (λ x. new ≡ old ++ lits x ∷ []) → OnOk r (length new ≤ length old + 1)
  one_more (Ok x) h = let long = ap length h in let both = length-append old (lits x ∷ []) in omega (arith, long, both)
  one_more (Err e) h = tt
