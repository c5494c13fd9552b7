-- The clauses of the arena and of the log after a tidying.
use Rattle.std.proofs.Common.{◌≡◌, ◌≢◌, refl, sym, ap, ◌∙◌, subst, ℕ, ◌<◌, Bool, true, false, not, true≢false, List, [], ◌∷◌, ◌++◌, length, get_or, Option, Some, None, inl, inr, arith}
use Rattle.std.specs.Prelude.{IsSome, IsTrue}
use Rattle.std.specs.List.{AllByRecursion}
use Rattle.std.proofs.lemmas.Bool.{and_parts}
use Rattle.cx_base.specs.Assumptions.{is_ending}
use Rattle.cx_base.specs.Literals.{Literal, negate, HasTwo}
use Rattle.cx_base.specs.Problem.{Problem, clauses_of}
use Rattle.cx_base.specs.declared.steps.LogStep.{LogStep}
use Rattle.cx_base.specs.declared.steps.LogStep.TheVariants.{Original, OriginalParity, Clause, ClauseWithHints, Parity, ClauseOfParity, ParityOfClauses, Delete, DeleteParity, Final, FinalParity, MoveClauses, MoveParities}
use Rattle.cx_base.specs.Integers.{literals}
use Rattle.cx_semantics.specs.Chain.{has_literal, is_inside, same_literals}
use Rattle.cx_semantics.specs.Fresh.{is_tautology}
use Rattle.cx_semantics.specs.Ids.{id_of}
use Rattle.cx_semantics.specs.LogRules.{after_log_step}
use Rattle.cx_semantics.specs.Settled.{IsClauseOf}
use Rattle.cx_semantics.specs.Tables.{Tables, get}
use Rattle.cx_semantics.proofs.Closure.{has_by_inside}
use Rattle.cx_semantics.proofs.Members.{has_at_head, has_left, has_right}
use Rattle.clause_arena.specs.Clauses.{ArenaState, Stored, IsLive, literals_at, id_at, learned_at, id_in, learned_in}
use Rattle.search_steps.specs.TidySteps.{SpareReasons}
use Rattle.search_steps.specs.Trail.{Entry}
use Rattle.search_steps.proofs.Stored.{has_of, of_has}
use Rattle.tidy_rules.specs.Runs.{IsTidyStep, RunsTidily}
use Rattle.tidy_rules.proofs.InsideLaws.{inside_through, some_member, tautology_inside}
use Rattle.tidy_rules.proofs.OneLaws.{not_two}
use Rattle.clause_tidy.specs.Agreeing.{Agrees}
use Rattle.clause_tidy.specs.Answers.{HasOwnId}
use Rattle.clause_tidy.specs.Done.{IsCoveredBy, IsTidied}
use Rattle.clause_tidy.specs.Shortened.{AreDifferent}
use Rattle.clause_tidy.specs.Taking.{Lists}
use Rattle.cdcl_core.proofs.TidyBefore.{all_are_tidy}
use Rattle.cdcl_search.specs.Ties.{IsNamedBy, ClauseTies, IsHeld, IsKept, NeedsNoLearned, RestOnUnits}
use Rattle.cdcl_search.proofs.TableLaws.{no_clause, put_other, drop_other}
use Rattle.cdcl_core.proofs.LearnedLess.{no_reason}

-- ---- two different literals
pub two_inside : (lits clause : List Literal) → is_inside lits clause ≡ true → HasTwo lits → HasTwo clause
two_inside lits clause inside w = record {
  first = w.first;
  second = w.second;
  has_first = of_has clause w.first (has_by_inside lits clause w.first inside (has_of lits w.first w.has_first));
  has_second = of_has clause w.second (has_by_inside lits clause w.second inside (has_of lits w.second w.has_second));
  differ = w.differ;
}

one_way : (lits clause : List Literal) → same_literals lits clause ≡ true → is_inside lits clause ≡ true
one_way lits clause same = (and_parts (is_inside lits clause) (is_inside clause lits) same).0

not_negated : (l : Literal) → l ≢ negate l
not_negated l e = differs l.negative (ap (λ m. m.negative) e)
  where
    differs : (b : Bool) → b ≢ not b
    differs true e = true≢false e
    differs false e = true≢false (sym e)

pub tautology_has_two : (clause : List Literal) → is_tautology clause ≡ true → HasTwo clause
tautology_has_two clause both =
    let w = some_member (λ l. has_literal clause (negate l)) clause both in
    record { first = w.0; second = negate w.0; has_first = of_has clause w.0 w.1; has_second = of_has clause (negate w.0) w.2; differ = not_negated w.0 }

two_of_different : (lits : List Literal) → AreDifferent lits → length lits ≢ 1 → lits ≢ [] → HasTwo lits
two_of_different [] each one none = absurd (none refl)
two_of_different (l ∷ []) each one none = absurd (one refl)
two_of_different (l ∷ m ∷ lits) each one none = record {
  first = l;
  second = m;
  has_first = (0, omega arith, refl);
  has_second = (1, omega arith, refl);
  differ = λ e. true≢false (sym (has_at_head m lits) ∙ ap (has_literal (m ∷ lits)) (sym e) ∙ each.0);
}

-- ---- ids that no step has
untouched_by : (tables : Tables) (step : LogStep) (n : ℕ) → IsTidyStep tables.clauses step → id_of step ≢ n → get (after_log_step tables step).clauses n ≡ get tables.clauses n
untouched_by tables (ClauseWithHints m zs hints) n tidy other = put_other tables.clauses m n (literals zs) (λ e. other (sym e))
untouched_by tables (Delete m zs) n tidy other = drop_other tables.clauses m n (λ e. other (sym e))
untouched_by tables (Clause m zs) n tidy other = absurd tidy
untouched_by tables (Original m zs) n tidy other = absurd tidy
untouched_by tables (OriginalParity m zs) n tidy other = absurd tidy
untouched_by tables (Parity m zs sources) n tidy other = absurd tidy
untouched_by tables (ClauseOfParity m zs source) n tidy other = absurd tidy
untouched_by tables (ParityOfClauses m zs sources) n tidy other = absurd tidy
untouched_by tables (DeleteParity m zs) n tidy other = absurd tidy
untouched_by tables (Final m zs) n tidy other = absurd tidy
untouched_by tables (FinalParity m zs) n tidy other = absurd tidy
untouched_by tables (MoveClauses moves) n tidy other = absurd tidy
untouched_by tables (MoveParities moves) n tidy other = absurd tidy

untouched : (formula : Problem) (tables last : Tables) (steps : List LogStep) (n : ℕ) → RunsTidily formula tables steps last → AllByRecursion (λ step. id_of step ≢ n) steps → get last.clauses n ≡ get tables.clauses n
untouched formula tables last [] n runs others = ap (λ t. get t.clauses n) runs
untouched formula tables last (step ∷ steps) n (is_right, goes, tidy, runs) others =
    untouched formula (after_log_step tables step) last steps n runs others.1 ∙ untouched_by tables step n tidy others.0

others_own : (spare : ℕ) (a : ArenaState) (steps : List LogStep) (n : ℕ) → AllByRecursion (HasOwnId spare a) steps → n ≢ spare → ((r : ℕ) → IsLive a r → id_at a r ≢ n) → AllByRecursion (λ step. id_of step ≢ n) steps
others_own spare a [] n own apart none = tt
others_own spare a (step ∷ steps) n own apart none = (
  elim own.0 [
    | inl is ↦ (λ e. apart (sym e ∙ is))
    | inr (r, live, is) ↦ (λ e. none r live (is ∙ e))
  ],
  others_own spare a steps n own.1 apart none,
)

-- entries that rest on unit clauses are spared by steps of other ids
pub spare_units : (ids : List ℕ) (es : List Entry) (steps : List LogStep) → RestOnUnits ids es → ((i : ℕ) → i < length ids → AllByRecursion (λ step. id_of step ≢ get_or ids i 0) steps) → SpareReasons es steps
spare_units ids es [] rest others = tt
spare_units ids es (step ∷ steps) rest others = (
  (λ n zs is. no_reason ids n es rest (λ i less q. (others i less).0 (ap id_of is ∙ sym q))),
  spare_units ids es steps rest (λ i less. (others i less).1),
)

same_clause : (x y : List Literal) → Some x ≡ Some y → x ≡ y
same_clause x y e = cc

module _ {tidies : Bool} {below : ℕ} (formula : Problem) (spare next : ℕ) (tables : Tables) (a : ArenaState) (fixed : List Literal) (t : ClauseTies tidies formula tables.clauses next a below fixed) (agreed : Agrees spare tables.clauses a) where
  -- the id of a clause without two different literals is not that of one of the arena
  not_stored : (n : ℕ) (x : List Literal) → get tables.clauses n ≡ Some x → ¬ HasTwo x → (r : ℕ) → IsLive a r → id_at a r ≢ n
  not_stored n x is one r live e =
      let k = t.stored r live in
      one (subst HasTwo (same_clause k.named.clause x (sym k.named.live ∙ ap (get tables.clauses) e ∙ is)) (two_inside (literals_at a r) k.named.clause (one_way (literals_at a r) k.named.clause k.named.same) k.wide))

  not_spare : (n : ℕ) (x : List Literal) → get tables.clauses n ≡ Some x → n ≢ spare
  not_spare n x is e = no_clause x (sym is ∙ ap (get tables.clauses) e ∙ agreed.free)

  pub others_single : (steps : List LogStep) → AllByRecursion (HasOwnId spare a) steps → (n : ℕ) (x : List Literal) → get tables.clauses n ≡ Some x → ¬ HasTwo x → AllByRecursion (λ step. id_of step ≢ n) steps
  others_single steps own n x is one = others_own spare a steps n own (not_spare n x is) (not_stored n x is one)

  pub others_unit : (steps : List LogStep) → AllByRecursion (HasOwnId spare a) steps → (n : ℕ) (l : Literal) → IsNamedBy tables.clauses (l ∷ []) n → AllByRecursion (λ step. id_of step ≢ n) steps
  others_unit steps own n l named = others_single steps own n named.clause named.live (not_two l named.clause named.same)

  module _ (b : ArenaState) (units : List Literal) (ids : List ℕ) (steps : List LogStep) (d : IsTidied formula spare a b units ids steps) (own : AllByRecursion (HasOwnId spare a) steps) where
    abbrev pub last : Tables
    last = (d.runs.1 tables agreed).0

    abbrev pub runs : RunsTidily formula tables steps last
    runs = (d.runs.1 tables agreed).1

    abbrev pub agrees : Agrees spare last.clauses b
    agrees = (d.runs.1 tables agreed).2

    pub single_stays : (n : ℕ) (x : List Literal) → get tables.clauses n ≡ Some x → ¬ HasTwo x → get last.clauses n ≡ Some x
    single_stays n x is one = untouched formula tables last steps n runs (others_single steps own n x is one) ∙ is

    pub unit_stays : (n : ℕ) (l : Literal) → IsNamedBy tables.clauses (l ∷ []) n → IsNamedBy last.clauses (l ∷ []) n
    unit_stays n l named = record { clause = named.clause; live = single_stays n named.clause named.live (not_two l named.clause named.same); same = named.same }

    -- ---- a clause of the arena
    not_empty : (q : ℕ) → is_ending formula.constraints (literals_at b q) ≡ false → literals_at b q ≢ []
    not_empty q going none = true≢false (sym (ap (is_ending formula.constraints) none) ∙ going)

    wide_then : (q : ℕ) → IsLive b q → HasTwo (literals_at b q)
    wide_then q live = elim (d.was q live) [
      | inl (old, same) ↦ subst HasTwo (sym same) (t.stored q old).wide
      | inr (past, different, going) ↦ two_of_different (literals_at b q) different (d.wide q past live) (not_empty q going)
    ]

    late_then : (q : ℕ) → IsLive b q → IsTrue (learned_at b q) → length (clauses_of formula.constraints) < id_at b q
    late_then q live learned =
        let same = d.learned q live learned in
        subst (λ (o : Option Stored). length (clauses_of formula.constraints) < id_in o) (sym same)
        ((t.stored q (subst IsSome same live)).late (subst (λ (o : Option Stored). IsTrue (learned_in o)) same learned))

    pub low_then : (q : ℕ) → IsLive b q → id_at b q < next
    low_then q live = let p = d.parts.each_clause q live in subst (λ n. n < next) (sym p.same) (t.stored p.r p.live).low

    pub unit_low : (l : Literal) (n : ℕ) → Lists units ids l n → n < next
    unit_low l n lists = let p = d.parts.each_unit l n lists in subst (λ k. k < next) (sym p.same) (t.stored p.r p.live).low

    kept_then : (q : ℕ) → IsLive b q → IsKept formula last.clauses next b q
    kept_then q live = record { wide = wide_then q live; named = agrees.stored q live; low = low_then q live; late = late_then q live }

    -- ---- a live clause of the log
    in_arena : (n : ℕ) (x : List Literal) → get last.clauses n ≡ Some x → (r : ℕ) → IsLive a r → id_at a r ≡ n → IsHeld tidies b (units ++ fixed) n x
    in_arena n x is r live id = elim ((d.runs.1 tables agreed).6 r live) [
      | inl none ↦ absurd (no_clause x (sym is ∙ ap (get last.clauses) (sym id) ∙ none))
      | inr (inl (q, there, same)) ↦ inl (q, there, same ∙ id)
      | inr (inr (l, (i, less, at, named_at))) ↦
          let u = (d.runs.1 tables agreed).3 l (id_at a r) (i, less, at, named_at) in
          let same : u.clause ≡ x = same_clause u.clause x (sym u.live ∙ ap (get last.clauses) id ∙ is) in
          let one : same_literals (l ∷ []) x ≡ true = subst (λ (y : List Literal). same_literals (l ∷ []) y ≡ true) same u.same in
          inr (inr (
            not_two l x one,
            record {
              l = l;
              has_it = has_by_inside (l ∷ []) x l (one_way (l ∷ []) x one) (has_at_head l []);
              is_held = has_left units fixed l (has_of units l (i, less, at));
            },
          ))
    ]

    covered_then : (n : ℕ) (x : List Literal) → n < next → get last.clauses n ≡ Some x → IsHeld tidies b (units ++ fixed) n x
    covered_then n x low is = was (get tables.clauses n) refl
      where
        was : (o : Option (List Literal)) → get tables.clauses n ≡ o → IsHeld tidies b (units ++ fixed) n x
        was None none = absurd (no_clause x (sym is ∙ (d.runs.1 tables agreed).4 n none))
        was (Some old) there = elim (t.covered n old low there) [
          | inl (r, live, id) ↦ in_arena n x is r live id
          | inr (inl (plain, both)) ↦ let w = agreed.held n old there (tautology_has_two old both) in in_arena n x is w.0 w.1 w.2
          | inr (inr (one, holds)) ↦
              let same : old ≡ x = same_clause old x (sym (single_stays n old there one) ∙ is) in
              subst (λ (y : List Literal). IsHeld tidies b (units ++ fixed) n y) same (inr (inr (one, record { l = holds.l; has_it = holds.has_it; is_held = has_right units fixed holds.l holds.is_held })))
        ]

    -- ---- the clauses of the formula
    needs_by : (clause : List Literal) (r : ℕ) → learned_at a r ≡ false → is_inside (literals_at a r) clause ≡ true → IsCoveredBy b units (literals_at a r) (learned_at a r) → NeedsNoLearned b (units ++ fixed) clause
    needs_by clause r original inside (inl (inl both)) = inl (tautology_inside (literals_at a r) clause inside both)
    needs_by clause r original inside (inl (inr (q, live, within, keeps))) = inr (inr (q, live, keeps original, inside_through (literals_at b q) (literals_at a r) clause within inside))
    needs_by clause r original inside (inr (l, has, of_it)) =
        inr (inl (record { l = l; has_it = has_by_inside (literals_at a r) clause l inside of_it; is_held = has_left units fixed l (has_of units l has) }))

    needs_then : (clause : List Literal) → IsClauseOf formula clause → NeedsNoLearned b (units ++ fixed) clause
    needs_then clause is = elim (t.original clause is) [
      | inl both ↦ inl both
      | inr (inl holds) ↦ inr (inl (record { l = holds.l; has_it = holds.has_it; is_held = has_right units fixed holds.l holds.is_held }))
      | inr (inr (r, live, original, inside)) ↦ needs_by clause r original inside (d.covers r live)
    ]

    pub clauses_tidied : ClauseTies tidies formula last.clauses next b (length b.clauses) (units ++ fixed)
    clauses_tidied = record { stored = kept_then; covered = covered_then; apart = agrees.apart; original = needs_then; old = all_are_tidy b units d.tidied }
