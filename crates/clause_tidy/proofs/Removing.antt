-- A clause that goes: one with a literal and its negation, or one that another lies inside.
use Rattle.std.proofs.Common.{◌≡◌, ◌≢◌, refl, sym, ap, ◌∙◌, subst, ℕ, ℤ, true, false, inl, inr, ⊎_elim, List, [], ◌∷◌, length, set, get_or, Option, Some, None, IsSome, is_some, unwrap_or, arith}
use Rattle.std.specs.FinMap as map_
use Rattle.std.proofs.lemmas.Bool.{cases_eq, and_parts}
use Rattle.std.proofs.lemmas.List.{get_or-set_same, get_or-set_other, length-set}
use Rattle.cx_base.specs.Literals.{Literal}
use Rattle.cx_base.specs.Problem.{Problem}
use Rattle.cx_base.specs.declared.steps.LogStep.TheVariants.{Delete}
use Rattle.cx_semantics.specs.Chain.{is_inside, same_literals}
use Rattle.cx_semantics.specs.Fresh.{is_tautology}
use Rattle.cx_semantics.specs.LogRules.{after_log_step}
use Rattle.cx_semantics.specs.Marked.{clause_at as clause_of}
use Rattle.cx_semantics.specs.Tables.{Table, get}
use Rattle.cx_semantics.proofs.Closure.{inside_itself}
use Rattle.clause_arena.specs.Clauses.{ArenaState, Stored, clause_at, IsLive, literals_at, id_at, learned_at, literals_in, id_in, learned_in}
use Rattle.clause_arena.proofs.PackingLaws.{live_within}
use Rattle.clause_tidy.specs.Derived.{given}
use Rattle.clause_tidy.specs.Answers.{MayGo}
use Rattle.clause_tidy.specs.Agreeing.{Agrees}
use Rattle.tidy_rules.specs.Runs.{IsTidyStep}
use Rattle.clause_tidy.specs.Tidying.{IsCovered, LeavesIds, SparesLearned, Tidies}
use Rattle.tidy_rules.proofs.InsideLaws.{inside_through, tautology_inside}
use Rattle.clause_tidy.proofs.RunLaws.{one_step}
use Rattle.clause_tidy.proofs.TableLooks.{drop_other, drop_same, drop_keeps_free, no_clause}
use Rattle.clause_tidy.proofs.WeightLaws.{less_without}

abbrev pub NoClause : Option Stored
NoClause = None

pub none_lives : (o : Option Stored) → o ≡ None → IsSome o → ⊥
none_lives o e l = let k : false ≡ true = sym (ap is_some e) ∙ l in cc

-- ---- the arena
module _ (a b : ArenaState) (r : ℕ) (live : IsLive a r) (is : b.clauses ≡ set a.clauses r None) where
  pub gone : clause_at b r ≡ None
  gone = ap (λ (cs : List (Option Stored)). get_or cs r NoClause) is ∙ get_or-set_same a.clauses r None None (live_within a r live)

  pub stays : (q : ℕ) → q ≢ r → clause_at b q ≡ clause_at a q
  stays q ne = ap (λ (cs : List (Option Stored)). get_or cs q NoClause) is ∙ get_or-set_other a.clauses r q None None ne

  pub other_lives : (q : ℕ) → IsLive b q → q ≢ r
  other_lives q l e = none_lives (clause_at b r) gone (subst (λ x. IsLive b x) e l)

  pub lived : (q : ℕ) → IsLive b q → IsLive a q
  lived q l = subst (λ (o : Option Stored). IsSome o) (stays q (other_lives q l)) l

  pub lives_on : (q : ℕ) → q ≢ r → IsLive a q → IsLive b q
  lives_on q ne l = subst (λ (o : Option Stored). IsSome o) (sym (stays q ne)) l

-- ---- the log
pub same_deleted : (n m : ℕ) (zs ys : List ℤ) → Delete n zs ≡ Delete m ys → n ≡ m
same_deleted n m zs ys e = cc

pub of_table : (table : Table) (n : ℕ) (clause : List Literal) → get table n ≡ Some clause → clause_of table n ≡ clause
of_table table n clause e = ap (λ (o : Option (List Literal)). unwrap_or o []) e

module _ (spare : ℕ) (table : Table) (a b : ArenaState) (r : ℕ) (live : IsLive a r) (is : b.clauses ≡ set a.clauses r None) (h : Agrees spare table a) where
  agrees_without : Agrees spare (map_.remove table (id_at a r)) b
  agrees_without = record {
    stored = λ q l.
        let ne = other_lives a b r live is q l in
        let old = lived a b r live is q l in
        let s = h.stored q old in
        let same = stays a b r live is q ne in
        let far : id_at b q ≢ id_at a r = λ e. ne (h.apart q r old live (sym (ap id_in same) ∙ e)) in
        record {
          clause = s.clause;
          live = drop_other table (id_at a r) (id_at b q) far ∙ ap (get table) (ap id_in same) ∙ s.live;
          same = ap (λ (o : Option Stored). same_literals (literals_in o) s.clause) same ∙ s.same;
        };
    apart = λ q p lq lp e. h.apart q p (lived a b r live is q lq) (lived a b r live is p lp)
        (sym (ap id_in (stays a b r live is q (other_lives a b r live is q lq))) ∙ e ∙ ap id_in (stays a b r live is p (other_lives a b r live is p lp)));
    held = λ n clause e two.
        let far : n ≢ id_at a r = λ same. no_clause clause (sym e ∙ ap (get (map_.remove table (id_at a r))) same ∙ drop_same table (id_at a r)) in
        let w = h.held n clause (sym (drop_other table (id_at a r) n far) ∙ e) two in
        let ne : w.0 ≢ r = λ same. far (sym w.2 ∙ ap (id_at a) same) in
        (w.0, lives_on a b r live is w.0 ne w.1, ap id_in (stays a b r live is w.0 ne) ∙ w.2);
    free = ⊎_elim (λ (same : spare ≡ id_at a r). ap (get (map_.remove table (id_at a r))) same ∙ drop_same table (id_at a r))
        (λ (ne : spare ≢ id_at a r). drop_other table (id_at a r) spare ne ∙ h.free) (cases_eq spare (id_at a r));
  }

  -- the clauses that are left are others
  others_spared : (zs : List ℤ) → SparesLearned b (Delete (id_at a r) zs ∷ [])
  others_spared zs q l e =
      let ne = other_lives a b r live is q l in
      ((λ ys same. ne (h.apart q r (lived a b r live is q l) live (sym (ap id_in (stays a b r live is q ne)) ∙ sym (same_deleted (id_at a r) (id_at b q) zs ys same)))), tt)

module _ (formula : Problem) (spare : ℕ) (a b : ArenaState) (r : ℕ) (live : IsLive a r) (is : b.clauses ≡ set a.clauses r None) (why : MayGo a r) where
  tidy_step : (table : Table) (zs : List ℤ) → Agrees spare table a → IsTidyStep table (Delete (id_at a r) zs)
  tidy_step table zs h =
      let s = h.stored r live in
      let mine = of_table table (id_at a r) s.clause s.live in
      let both = and_parts (is_inside (literals_at a r) s.clause) (is_inside s.clause (literals_at a r)) s.same in
      elim why [
        | inl t ↦ inl (ap is_tautology mine ∙ tautology_inside (literals_at a r) s.clause both.0 t)
        | inr (q, ne, live_q, inside, kept) ↦
            let o = h.stored q live_q in
            let theirs = and_parts (is_inside (literals_at a q) o.clause) (is_inside o.clause (literals_at a q)) o.same in
            inr (
              id_at a q,
              (λ e. ne (h.apart q r live_q live e)),
              o.clause,
              o.live,
              ap (is_inside o.clause) mine ∙ inside_through o.clause (literals_at a q) s.clause theirs.1 (inside_through (literals_at a q) (literals_at a r) s.clause inside both.0),
            )
      ]

  cover : (p : ℕ) → IsLive a p → IsCovered b (literals_at a p) (learned_at a p)
  cover p l = ⊎_elim
      (λ (same : p ≡ r). subst (λ x. IsCovered b (literals_at a x) (learned_at a x)) (sym same) (elim why [
        | inl t ↦ inl t
        | inr (q, ne, live_q, inside, kept) ↦
            let stay = stays a b r live is q ne in
            inr (q, lives_on a b r live is q ne live_q, ap (λ (o : Option Stored). is_inside (literals_in o) (literals_at a r)) stay ∙ inside, λ e. ap learned_in stay ∙ kept e)
      ]))
      (λ (ne : p ≢ r).
      let stay = stays a b r live is p ne in
      inr (p, lives_on a b r live is p ne l, ap (λ (o : Option Stored). is_inside (literals_in o) (literals_at a p)) stay ∙ inside_itself (literals_at a p), λ e. ap learned_in stay ∙ e)) (cases_eq p r)

  ids_left : (table : Table) → LeavesIds a b (map_.remove table (id_at a r))
  ids_left table p l = ⊎_elim (λ (same : p ≡ r). inl (ap (get (map_.remove table (id_at a r))) (ap (id_at a) same) ∙ drop_same table (id_at a r)))
      (λ (ne : p ≢ r). inr (p, lives_on a b r live is p ne l, ap id_in (stays a b r live is p ne))) (cases_eq p r)

  pub removal_tidies : (zs : List ℤ) → Tidies formula spare a b (Delete (id_at a r) zs ∷ [])
  removal_tidies zs = record {
    covers = cover;
    derived = λ q l. given (literals_at b q) (q, lived a b r live is q l, sym (ap literals_in (stays a b r live is q (other_lives a b r live is q l))));
    parts = λ q l.
        let same = stays a b r live is q (other_lives a b r live is q l) in
        record { r = q; live = lived a b r live is q l; inside = ap (λ (o : Option Stored). is_inside (literals_in o) (literals_at a q)) same ∙ inside_itself (literals_at a q); same = ap id_in same };
    learned = λ q l e. stays a b r live is q (other_lives a b r live is q l);
    grown = let long = ap (λ (cs : List (Option Stored)). length cs) is ∙ length-set a.clauses r None in omega (arith, long);
    few = let less = less_without a b r live is in let one : length (Delete (id_at a r) zs ∷ []) ≡ 1 = refl in omega (arith, less, one);
    was = λ q l. inl (lived a b r live is q l, ap literals_in (stays a b r live is q (other_lives a b r live is q l)));
    runs = λ tables h. (
      after_log_step tables (Delete (id_at a r) zs),
      one_step formula tables (Delete (id_at a r) zs) tt refl (tidy_step tables.clauses zs h),
      agrees_without spare tables.clauses a b r live is h,
      drop_keeps_free tables.clauses (id_at a r),
      others_spared spare tables.clauses a b r live is h zs,
      ids_left tables.clauses,
    );
  }
