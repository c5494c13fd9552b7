-- After a tidying the clauses of the log are tidy.
use Rattle.std.proofs.Common.{◌≡◌, ◌≢◌, sym, ap, ◌∙◌, subst, ℕ, ◌||◌, true, true≢false, List, [], Option, Some, None, unwrap_or, inl, inr, arith}
use Rattle.std.proofs.lemmas.Bool.{and_from, and_parts, false_from_ne_true, or_cases, or_left, or_right}
use Rattle.cx_base.specs.Literals.{Literal, negate, same_literal, HasTwo}
use Rattle.cx_base.specs.Problem.{Problem}
use Rattle.cx_base.specs.declared.steps.LogEvent.{LogEvent}
use Rattle.cx_semantics.specs.Chain.{has_literal, is_inside}
use Rattle.cx_semantics.specs.Marked.{Moment, clause_at}
use Rattle.cx_semantics.specs.Tables.{Table, get}
use Rattle.cx_semantics.proofs.Closure.{has_by_inside}
use Rattle.cx_semantics.proofs.Members.{all_by}
use Rattle.clause_arena.specs.Clauses.{ArenaState, IsLive, id_at, literals_at}
use Rattle.conflict_learn.proofs.ChainOfResolutions.{by_cases}
use Rattle.parity_engine.specs.State.{State}
use Rattle.search_steps.specs.Schedule.{moment_after}
use Rattle.search_steps.specs.TidyLines.{AreTidyClauses}
use Rattle.search_steps.proofs.ScheduleLaws.{moment_is}
use Rattle.tidy_rules.specs.Parts.{Tidied}
use Rattle.tidy_rules.specs.Relations.{bears_on, is_inside_but, strengthens, strengthens_at}
use Rattle.tidy_rules.specs.declared.part.TidyPart.TheVariants.{Clause}
use Rattle.tidy_rules.proofs.InsideLaws.{any_by, inside_through, no_tautology_inside}
use Rattle.clause_tidy.specs.Agreeing.{Agrees}
use Rattle.clause_tidy.proofs.BearLaws.{bear_cases}
use Rattle.cdcl_search.specs.declared.state.SearchState.{SearchState}
use Rattle.cdcl_search.specs.Ties.{SearchStands}
use Rattle.cdcl_core.specs.Tidying.{AreTidyNow, IsAtRestart}
use Rattle.cdcl_core.proofs.TidiedTies.{agrees_with}

-- a clause bears on another as lists of the same literals do
bears_same : (part whole narrow wide : List Literal) → is_inside part narrow ≡ true → is_inside narrow part ≡ true → is_inside whole wide ≡ true → bears_on part whole ≡ true → bears_on narrow wide ≡ true
bears_same part whole narrow wide there back around h = elim (bear_cases part whole h) [
  | inl i ↦ or_left (is_inside narrow wide) (strengthens narrow wide) (inside_through narrow part wide back (inside_through part whole wide i around))
  | inr t ↦ or_right (is_inside narrow wide) (strengthens narrow wide) (any_by (strengthens_at narrow wide) narrow t.m (has_by_inside part narrow t.m there t.has_m)
      (and_from (has_literal wide (negate t.m)) (is_inside_but narrow t.m wide) (has_by_inside whole wide (negate t.m) around t.turned)
      (all_by (λ l. same_literal l t.m || has_literal wide l) narrow (λ l k. by_cases (same_literal l t.m) (λ e. or_left (same_literal l t.m) (has_literal wide l) e)
      (λ e. or_right (same_literal l t.m) (has_literal wide l) (has_by_inside whole wide l around (t.rest l (has_by_inside narrow part l back k) e)))))))
]

module _ (table : Table) (a : ArenaState) (spare : ℕ) (agreed : Agrees spare table a) (units : List Literal) (tidied : Tidied a units) where
  -- a live clause with two different literals
  abbrev IsTwo : ℕ → Type 0
  IsTwo n = (clause : List Literal) × (get table n ≡ Some clause) × HasTwo clause

  -- the arena has the clause of this id
  record IsStored (n : ℕ) : Type 0 where
    r : ℕ
    live : IsLive a r
    id : id_at a r ≡ n
    inside : is_inside (literals_at a r) (clause_at table n) ≡ true
    around : is_inside (clause_at table n) (literals_at a r) ≡ true

  stored : (n : ℕ) → IsTwo n → IsStored n
  stored n (clause, is, two) =
      let (r, live, id) = agreed.held n clause is two in
      let named = agreed.stored r live in
      let same : clause_at table n ≡ named.clause = ap (λ (o : Option (List Literal)). unwrap_or o []) (ap (get table) (sym id) ∙ named.live) in
      let both = and_parts (is_inside (literals_at a r) named.clause) (is_inside named.clause (literals_at a r)) named.same in
      record {
        r = r;
        live = live;
        id = id;
        inside = subst (λ lits. is_inside (literals_at a r) lits ≡ true) (sym same) both.0;
        around = subst (λ lits. is_inside lits (literals_at a r) ≡ true) (sym same) both.1;
      }

  reference_of : (r q : ℕ) → Clause r ≡ Clause q → r ≡ q
  reference_of r q e = cc

  apart_in_arena : (m n : ℕ) → m ≢ n → (p : IsStored m) (q : IsStored n) → Clause p.r ≢ Clause q.r
  apart_in_arena m n apart p q same = apart (sym p.id ∙ ap (id_at a) (reference_of p.r q.r same) ∙ q.id)

  none_bears : (m n : ℕ) → IsTwo m → IsTwo n → m ≢ n → bears_on (clause_at table m) (clause_at table n) ≡ true → ⊥
  none_bears m n is_m is_n apart h =
      let p = stored m is_m in
      let q = stored n is_n in
      elim (or_cases (is_inside (literals_at a p.r) (literals_at a q.r)) (strengthens (literals_at a p.r) (literals_at a q.r))
      (bears_same (clause_at table m) (clause_at table n) (literals_at a p.r) (literals_at a q.r) p.around p.inside q.around h)) [
        | inl i ↦ true≢false (sym i ∙ tidied.none_inside (Clause p.r) (Clause q.r) p.live q.live (apart_in_arena m n apart p q))
        | inr s ↦ true≢false (sym s ∙ tidied.none_strengthened (Clause p.r) (Clause q.r) p.live q.live (apart_in_arena m n apart p q))
      ]

  log_is_tidy : AreTidyClauses table
  log_is_tidy = record {
    no_tautology = λ n is. let p = stored n is in no_tautology_inside (clause_at table n) (literals_at a p.r) p.around (tidied.no_tautology (Clause p.r) p.live);
    none_inside = λ m n is_m is_n apart. false_from_ne_true (is_inside (clause_at table m) (clause_at table n))
        (λ i. none_bears m n is_m is_n apart (or_left (is_inside (clause_at table m) (clause_at table n)) (strengthens (clause_at table m) (clause_at table n)) i));
    none_strengthened = λ m n is_m is_n apart. false_from_ne_true (strengthens (clause_at table m) (clause_at table n))
        (λ s. none_bears m n is_m is_n apart (or_right (is_inside (clause_at table m) (clause_at table n)) (strengthens (clause_at table m) (clause_at table n)) s));
  }

-- so it is where the search fits a tidied arena
pub tidy_now : (formula : Problem) (c : SearchState) (e : State) (told : Option (List LogEvent)) (units : List Literal) → SearchStands formula c e [] told → IsAtRestart c → Tidied c.arena units → AreTidyNow told
tidy_now formula c e None units st at tidied = tt
tidy_now formula c e (Some events) units (s, ok, are, t, watched) at tidied =
    subst (λ (es : List LogEvent). AreTidyClauses (moment_after es).tables.clauses) (sym are)
    (subst (λ (m : Moment). AreTidyClauses m.tables.clauses) (moment_is formula s.moment s.events ok.log.fits)
    (log_is_tidy s.moment.tables.clauses c.arena c.next (agrees_with formula c e s ok t at c.next (omega arith)) units tidied))
