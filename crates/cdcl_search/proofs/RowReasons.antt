-- The row that was named for a literal explains it.
use Rattle.std.proofs.Common.{◌≡◌, ◌≢◌, sym, ap, ◌∙◌, subst, ℕ, suc, ◌<◌, ◌≤◌, true, false, nat_eq, eq-eqb, eqb-true, List, [], length, take, Some, arith, true≢false, length-take}
use Rattle.std.specs.Prelude.{IsSome}
use Rattle.std.specs.FinSet as set
use Rattle.std.proofs.lemmas.List.{get_or-take}
use Rattle.std.proofs.lemmas.Option.{same_Some}
use Rattle.cx_base.specs.Literals.{Literal, same_literal}
use Rattle.cx_base.specs.Parity.{NormalForm, normal_form}
use Rattle.cx_semantics.specs.Chain.{has_literal}
use Rattle.cx_trail.specs.declared.entry.Entry.{Entry}
use Rattle.cx_trail.specs.Sequence.{TrailState, IsTrail, IsTrueIn, IsFalseBefore, entry_at, no_entry}
use Rattle.conflict_learn.specs.Learning.{IsAntecedent}
use Rattle.conflict_learn.proofs.ChainOfResolutions.{by_cases}
use Rattle.parity_engine.specs.State.{State, Named, named_at, OfNamed}
use Rattle.parity_engine.proofs.Named.{named_row}
use Rattle.xor_reason.proofs.ClauseLaws.{written_once}
use Rattle.cx_base.specs.Integers.{integers_of}
use Rattle.search_steps.specs.LogSteps.{row_events}
use Rattle.cdcl_search.specs.declared.rows.RowIds.{RowIds}
use Rattle.parity_engine.specs.Equations.{sum_of_numbers}
use Rattle.parity_engine.specs.Written.{IsWritten, AreRising}
use Rattle.xor_reason.specs.ReasonClause.{AreAssigned, IsReasonFor, GivesLiteral, IsReasonClause}
use Rattle.xor_reason.specs.declared.reason.ReasonOf.{ReasonOf}
use Rattle.search_steps.proofs.Sets.{not_both}
use Rattle.cdcl_search.specs.Ties.{IsRowReasonAt}
use Rattle.cdcl_search.specs.Explaining.{Explains, IsReasonOf}
use Rattle.cdcl_search.specs.RowClauses.{ExplainsRow, IsClauseOfRow, parity_of, row_clause_events, sources_in}
use Rattle.cdcl_search.specs.declared.row_clauses.RowClause.{RowClause}
use Rattle.cdcl_search.proofs.OneSign.{one_sign}
use Rattle.cdcl_search.proofs.RowSteps.{in_form, low_form}

-- the first entries of a trail are on it
pub entry_taken : (entries : List Entry) (n i : ℕ) → i < length (take n entries) → entry_at (take n entries) i ≡ entry_at entries i
entry_taken entries n i less = get_or-take n entries i no_entry (let few = length-take n entries in omega (arith, few, less))

module _ (t : TrailState) (e : State) (l : Literal) (row : ℕ) (r : IsReasonOf e t.entries l row) where
  abbrev i : ℕ
  i = r.0

  abbrev why : IsRowReasonAt e t.entries i row
  why = r.2

  here : (entry_at t.entries i).literal ≡ l
  here = r.1.1

  pub is_named : IsSome (named_at e row)
  is_named = ap Rattle.std.proofs.Common.is_some why.is

  others_assigned : (v : ℕ) → 1 ≤ v → v ≢ l.variable → set.contains why.named.form.variables v ≡ true → (j : ℕ) × (j < i) × (j < length t.entries) × ((entry_at t.entries j).literal.variable ≡ v)
  others_assigned v low other has =
      let o = why.others v low (λ same. other (same ∙ ap (λ m. m.variable) here)) has in
      let less = o.1 in
      let few = length-take i t.entries in
      (o.0, omega (arith, less, few), omega (arith, less, few), ap (λ x. x.literal.variable) (sym (entry_taken t.entries i o.0 less)) ∙ o.2)

  pub all_assigned : OfNamed e row (λ n. AreAssigned t n.form)
  all_assigned n is v low has = by_cases (nat_eq v l.variable)
      (λ same. (i, r.1.0, ap (λ m. m.variable) here ∙ sym (eqb-true v l.variable same)))
      (λ apart. let o = others_assigned v low (λ same. not_both (nat_eq v l.variable) (eq-eqb v l.variable same) apart)
      (ap (λ m. set.contains m.form.variables v) (same_Some why.named n (sym why.is ∙ is)) ∙ has) in
      (o.0, o.2, o.3))

  pub gives_literal : OfNamed e row (λ n. IsReasonFor t (Some l) n.form)
  gives_literal n is = subst (λ m. GivesLiteral t l m.form) (same_Some why.named n (sym why.is ∙ is)) (record {
    is_true = (i, (r.1.0, here));
    has = ap (λ m. set.contains why.named.form.variables m.variable) (sym here) ∙ why.has;
    met = λ values agrees. why.met values (λ m is_true. agrees m (in_trail m is_true));
  })
    where
      in_trail : (m : Literal) → IsTrueIn (take (suc i) t.entries) m → IsTrueIn t.entries m
      in_trail m (j, (less, at)) = (j, (let short = length-take (suc i) t.entries in omega (arith, short, less), ap (λ x. x.literal) (sym (entry_taken t.entries (suc i) j less)) ∙ at))

  module _ (reason : ReasonOf) (written : OfNamed e row (λ n. IsWritten n.form reason.parity)) (numbers : AreRising 1 (length e.parities) reason.sources)
      (sums : OfNamed e row (λ n. n.form ≡ sum_of_numbers e.parities reason.sources)) (clause : OfNamed e row (λ n. IsReasonClause t (Some l) n.form reason.parity reason.clause)) where
    abbrev form : NormalForm
    form = why.named.form

    is_clause : IsReasonClause t (Some l) form reason.parity reason.clause
    is_clause = clause why.named why.is

    pub explains : Explains e.parities t reason
    explains = record {
      form = form;
      written = written why.named why.is;
      numbers = numbers;
      sums = sums why.named why.is;
      one_of_each = is_clause.one_of_each;
      follows = is_clause.follows;
      assigned = all_assigned why.named why.is;
    }

    pub has_it : has_literal reason.clause l ≡ true
    has_it = is_clause.are_false.0

    pub is_antecedent : IsTrail t → IsAntecedent t l reason.clause
    is_antecedent sound place less at = record {
      has_it = ap (has_literal reason.clause) at ∙ is_clause.are_false.0;
      others_false = λ m has apart. before m has (subst (λ x. same_literal x m ≡ false) at apart);
    }
      where
        same_place : i ≡ place
        same_place = sound.distinct i place r.1.0 less (ap (λ m. m.variable) (here ∙ sym at))

        before : (m : Literal) → has_literal reason.clause m ≡ true → same_literal l m ≡ false → IsFalseBefore t.entries place m
        before m has apart =
            let f = is_clause.are_false.1 m has apart in
            let other : m.variable ≢ l.variable = λ same. one_sign form reason.clause is_clause.one_of_each l m is_clause.are_false.0 has (sym same) apart in
            let has_it = in_form form reason.clause is_clause.one_of_each m has in
            let o = others_assigned m.variable (low_form form reason.parity (written why.named why.is) m.variable has_it) other has_it in
            let same_j : f.0 ≡ o.0 = sound.distinct f.0 o.0 f.1.0 o.2 (ap (λ x. x.variable) f.1.1 ∙ sym o.3) in
            let low = o.1 in
            (f.0, omega (arith, same_j, low, same_place), f.1.1)

  -- the clause that was made of the row
  module _ (m : RowClause) (made : IsClauseOfRow e t row l m) where
    abbrev the_reason : ReasonOf
    the_reason = record { parity = parity_of m; sources = why.named.sources; clause = m.clause }

    sums_named : OfNamed e row (λ n. n.form ≡ sum_of_numbers e.parities why.named.sources)
    sums_named n is = subst (λ k. k.form ≡ sum_of_numbers e.parities why.named.sources) (same_Some why.named n (sym why.is ∙ is)) why.sums

    named_here : named_at e m.row ≡ Some why.named
    named_here = ap (named_at e) made.row_is ∙ why.is

    pub made_explains : ExplainsRow e t m
    made_explains = record {
      named = why.named;
      is = named_here;
      written = made.written why.named why.is;
      explains = subst (λ ns. Explains e.parities t (record { parity = parity_of m; sources = ns; clause = m.clause })) (ap sources_in (sym named_here)) (explains the_reason made.written why.numbers sums_named made.clause);
    }

    pub made_has_it : has_literal m.clause l ≡ true
    made_has_it = has_it the_reason made.written why.numbers sums_named made.clause

    pub made_is_antecedent : IsTrail t → IsAntecedent t l m.clause
    made_is_antecedent = is_antecedent the_reason made.written why.numbers sums_named made.clause

-- the steps of a row are the same from a parity and sources that are asked for later
pub same_events : (ids : RowIds) (e : State) (m : RowClause) (parity : List Literal) (sources : List ℕ) → IsSome (named_at e m.row) → OfNamed e m.row (λ n. IsWritten n.form (parity_of m)) → OfNamed e m.row (λ n. IsWritten n.form parity)
    → OfNamed e m.row (λ n. (sources ≡ n.sources) × AreRising 1 (length e.parities) sources × (n.form ≡ sum_of_numbers e.parities sources)) → row_events ids.sum (integers_of parity) sources ids.clause (integers_of m.clause) ≡ row_clause_events ids e m
same_events ids e m parity sources some written later named =
    let (n, is) = named_row e m.row some in
    ap (λ p. row_events ids.sum (integers_of p) sources ids.clause (integers_of m.clause)) (written_once n.form parity (parity_of m) (later n is) (written n is))
    ∙ ap (λ ns. row_events ids.sum (integers_of (parity_of m)) ns ids.clause (integers_of m.clause)) ((named n is).0 ∙ ap sources_in (sym is))

-- what the reason of a parity asks for, of the parity's own form
module _ (t : TrailState) (e : State) (l : Literal) (row : ℕ) (r : IsReasonOf e t.entries l row) (lits : List Literal) (written : OfNamed e row (λ n. IsWritten n.form lits)) where
  the_named : (n : Named) × (named_at e row ≡ Some n)
  the_named = named_row e row (is_named t e l row r)

  as_named : IsWritten the_named.0.form lits
  as_named = written the_named.0 the_named.1

  pub own_written : IsWritten (normal_form lits) lits
  own_written = subst (λ f. IsWritten f lits) (sym as_named.normal) as_named

  pub own_assigned : AreAssigned t (normal_form lits)
  own_assigned = subst (AreAssigned t) (sym as_named.normal) (all_assigned t e l row r the_named.0 the_named.1)

  pub own_gives : IsReasonFor t (Some l) (normal_form lits)
  own_gives = subst (IsReasonFor t (Some l)) (sym as_named.normal) (gives_literal t e l row r the_named.0 the_named.1)

  pub is_clause_of_row : (m : RowClause) → m.row ≡ row → parity_of m ≡ lits → IsReasonClause t (Some l) (normal_form lits) lits m.clause → IsClauseOfRow e t row l m
  is_clause_of_row m row_is parity_is clause = record {
    row_is = row_is;
    written = λ n is. subst (IsWritten n.form) (sym parity_is) (written n is);
    clause = λ n is. subst (λ ls. IsReasonClause t (Some l) n.form ls m.clause) (sym parity_is) (subst (λ f. IsReasonClause t (Some l) f lits m.clause) ((written n is).normal) clause);
  }
