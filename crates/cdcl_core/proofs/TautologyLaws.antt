-- The formula's tautologies come into the arena, and the search tidies from then on.
use Rattle.std.proofs.Common.{◌≡◌, ◌≢◌, refl, sym, ap, ◌∙◌, subst, ℕ, ◌+◌, ◌≤◌, true, false, true≢false, nat_eq, eqb-true, List, [], ◌∷◌, ◌++◌, length, get_or, Option, Some, None, is_some, ◌⊎◌, inl, inr, arith}
use Rattle.std.proofs.lemmas.Bool.{and_from, and_parts, eqb-false}
use Rattle.std.proofs.lemmas.List.Elements.{All-contains, All-from_recursion}
use Rattle.cx_base.specs.Literals.{Literal, HasTwo}
use Rattle.cx_base.specs.Problem.{Problem, AreWithin, clauses_of}
use Rattle.cx_base.specs.declared.steps.LogEvent.{LogEvent}
use Rattle.cx_semantics.specs.Chain.{is_inside, same_literals}
use Rattle.cx_semantics.specs.Fresh.{is_tautology}
use Rattle.cx_semantics.proofs.Closure.{inside_itself}
use Rattle.clause_arena.specs.Clauses.{ArenaState, Stored, IsLive, clause_at, id_at, id_in, learned_in, literals_at, literals_in}
use Rattle.watch_lists.specs.Anew.{AreWatchable, IsWatchable}
use Rattle.watch_lists.specs.Watching.{Fits, IsAttached, WatchState}
use Rattle.conflict_learn.proofs.ChainOfResolutions.{by_cases}
use Rattle.search_steps.specs.Search.{Search, IsSearchIn}
use Rattle.search_steps.specs.Trail.{held}
use Rattle.search_steps.proofs.Stored.{of_has}
use Rattle.tidy_rules.proofs.InsideLaws.{tautology_inside}
use Rattle.cdcl_search.specs.declared.state.SearchState.{SearchState}
use Rattle.cdcl_search.specs.Ties.{IsHeld}
use Rattle.cdcl_search.proofs.RowSteps.{within_by}
use Rattle.cdcl_core.specs.Filling.{clause_number}
use Rattle.cdcl_core.specs.Tautologies.{IsAdded, IsNumbered}
use Rattle.cdcl_core.specs.Waiting.{IsWaiting, SearchStandsBut, TiesBut}
use Rattle.cdcl_core.proofs.Entered.{kept_at, new_at, old_or_new}
use Rattle.cdcl_core.proofs.TidiedClauses.{tautology_has_two}

-- ---- one clause more
module _ (formula : Problem) (n number : ℕ) (next : number ≡ n + 1) (lits : List Literal) (at : IsNumbered formula number lits) (a b : ArenaState) (i : IsAdded formula n a b) where
  before_or_here : (k : ℕ) → k ≤ number → (k ≤ n) ⊎ (k ≡ number)
  before_or_here k high = by_cases (nat_eq k number)
      (λ q. inr (eqb-true k number q))
      (λ q. inl (let apart : k ≢ number = eqb-false k number q in omega (arith, apart, high, next)))

  pub none_added : is_tautology lits ≡ false → IsAdded formula number a b
  none_added proper = record {
    kept = i.kept;
    stored = i.stored;
    apart = i.apart;
    added = λ k low high both. elim (before_or_here k high) [
      | inl before ↦ i.added k low before both
      | inr here ↦ absurd (true≢false (sym both ∙ ap is_tautology (ap (clause_number formula) here ∙ at.is) ∙ proper))
    ];
    within = i.within;
    clear = λ r live far. i.clear r live (omega (arith, far, next));
  }

  module _ (both : is_tautology lits ≡ true) (c : ArenaState) (added : c.clauses ≡ b.clauses ++ Some (record { literals = lits; id = number; lbd = 0; learned = false }) ∷ []) where
    abbrev stored : Stored
    stored = record { literals = lits; id = number; lbd = 0; learned = false }

    kept_then : (r : ℕ) → IsLive b r → clause_at c r ≡ clause_at b r
    kept_then r live = ap (λ xs. get_or xs r None) added ∙ kept_at b.clauses (Some stored) r live

    new_then : clause_at c (length b.clauses) ≡ Some stored
    new_then = ap (λ xs. get_or xs (length b.clauses) None) added ∙ new_at b.clauses (Some stored)

    old_or_last : (r : ℕ) → IsLive c r → IsLive b r ⊎ (r ≡ length b.clauses)
    old_or_last r live = old_or_new b.clauses (Some stored) r (sym (ap (λ xs. is_some (get_or xs r None)) added) ∙ live)

    -- no other clause has its number
    no_other : (r : ℕ) → IsLive b r → id_at b r ≢ number
    no_other r live same =
        let s = i.stored r live in
        let is : clause_number formula (id_at b r) ≡ lits = ap (clause_number formula) same ∙ at.is in
        let around : is_inside lits (literals_at b r) ≡ true = subst (λ (x : List Literal). is_inside x (literals_at b r) ≡ true) is (and_parts (is_inside (literals_at b r) (clause_number formula (id_at b r))) (is_inside (clause_number formula (id_at b r)) (literals_at b r)) s.same).1 in
        true≢false (sym (tautology_inside lits (literals_at b r) around both) ∙ i.clear r live (omega (arith, same, next)))

    abbrev IsGood : Option Stored → Type 0
    IsGood x = HasTwo (literals_in x) × (1 ≤ id_in x) × (id_in x ≤ length (clauses_of formula.constraints)) × (same_literals (literals_in x) (clause_number formula (id_in x)) ≡ true) × (learned_in x ≡ false) × AreWithin formula.variables (literals_in x)

    good : (r : ℕ) → IsLive c r → IsGood (clause_at c r)
    good r live = elim (old_or_last r live) [
      | inl old ↦ let s = i.stored r old in subst IsGood (sym (kept_then r old)) (s.wide, s.low, s.high, s.same, s.original, i.within r old)
      | inr new ↦ subst IsGood (sym (ap (clause_at c) new ∙ new_then))
          (tautology_has_two lits both, at.low, at.high, subst (λ (x : List Literal). same_literals lits x ≡ true) (sym at.is) (and_from _ _ (inside_itself lits) (inside_itself lits)), refl, at.within)
    ]

    last_id : id_at c (length b.clauses) ≡ number
    last_id = ap id_in new_then

    apart_then : (r q : ℕ) → IsLive c r → IsLive c q → id_at c r ≡ id_at c q → r ≡ q
    apart_then r q r_live q_live same = elim (old_or_last r r_live) [
      | inl r_old ↦ elim (old_or_last q q_live) [
        | inl q_old ↦ i.apart r q r_old q_old (sym (ap id_in (kept_then r r_old)) ∙ same ∙ ap id_in (kept_then q q_old))
        | inr q_is ↦ absurd (no_other r r_old (sym (ap id_in (kept_then r r_old)) ∙ same ∙ ap (id_at c) q_is ∙ last_id))
      ]
      | inr r_is ↦ elim (old_or_last q q_live) [
        | inl q_old ↦ absurd (no_other q q_old (sym (ap id_in (kept_then q q_old)) ∙ sym same ∙ ap (id_at c) r_is ∙ last_id))
        | inr q_is ↦ r_is ∙ sym q_is
      ]
    ]

    pub one_added : IsAdded formula number a c
    one_added = record {
      kept = λ r live.
          let same = i.kept r live in
          kept_then r (ap is_some same ∙ live) ∙ same;
      stored = λ r live. let g = good r live in record { wide = g.0; low = g.1; high = g.2; same = g.3; original = g.4 };
      apart = apart_then;
      added = λ k low high taut. elim (before_or_here k high) [
        | inl before ↦ let w = i.added k low before taut in (w.0, ap is_some (kept_then w.0 w.1) ∙ w.1, ap id_in (kept_then w.0 w.1) ∙ w.2)
        | inr here ↦ (length b.clauses, ap is_some new_then, last_id ∙ sym here)
      ];
      within = λ r live. (good r live).5;
      clear = λ r live far. elim (old_or_last r live) [
        | inl old ↦ let id = ap id_in (kept_then r old) in ap (λ x. is_tautology (literals_in x)) (kept_then r old) ∙ i.clear r old (omega (arith, far, id, next))
        | inr new ↦ absurd (let id = ap (id_at c) new ∙ last_id in omega (arith, far, id))
      ];
    }

-- ---- a search that tidies may do what one that does not may
also_tidies : (formula : Problem) (parities : List (List Literal)) (s : Search) → IsSearchIn false formula parities s → IsSearchIn true formula parities s
also_tidies formula parities s ok = record {
  log = record {
    apart = ok.log.apart;
    runs = ok.log.runs;
    fits = ok.log.fits;
    marks = ok.log.marks;
    originals = ok.log.originals;
    scheduled = λ front n zs later split among. inl (ok.log.scheduled front n zs later split among);
    hinted = ok.log.hinted;
  };
  serves = ok.serves;
  covered = ok.covered;
  plain = ok.plain;
}

module _ (formula : Problem) (c : SearchState) (plain : c.tidies ≡ false) (engines : List (List Literal)) (told : Option (List LogEvent)) (st : SearchStandsBut formula engines c [] told) where
  abbrev s : Search
  s = st.0

  abbrev ties : TiesBut formula engines c [] s
  ties = st.3

  pub none_is_added : IsAdded formula 0 c.arena c.arena
  none_is_added = record {
    kept = λ r live. refl;
    stored = ties.stored;
    apart = ties.apart;
    added = λ k low high both. absurd (omega (arith, low, high));
    within = λ r live. subst (λ k. AreWithin k (literals_at c.arena r)) (ties.watched.fits.variables ∙ ties.variables)
        (within_by c.watches.variables (literals_at c.arena r) (λ l has. All-contains (λ (x : Literal). (1 ≤ x.variable) × (x.variable ≤ c.watches.variables)) (literals_at c.arena r) l (ties.watched.fits.nodes.within r (ties.watched.all r live)) (of_has (literals_at c.arena r) l has)));
    clear = λ r live far. ties.plain plain r live;
  }

  module _ (b : ArenaState) (i : IsAdded formula (length (clauses_of formula.constraints)) c.arena b) where
    pub are_watchable : AreWatchable c.watches.variables b
    are_watchable r live = subst (λ k. IsWatchable k (literals_at b r)) (sym (ties.watched.fits.variables ∙ ties.variables)) (record {
      within = All-from_recursion (λ l. (1 ≤ l.variable) × (l.variable ≤ formula.variables)) (literals_at b r) (i.within r live);
      different = let w = (i.stored r live).wide in record { first = w.first; second = w.second; has_first = w.has_first; has_second = w.has_second; differ = w.differ };
    })

    covered_then : (k : ℕ) → 1 ≤ k → k ≤ length (clauses_of formula.constraints) → IsHeld true b (held 0 s.trail) k (clause_number formula k) ⊎ IsWaiting [] k
    covered_then k low high = elim (ties.covered k low high) [
      | inl done ↦ inl (elim done [
        | inl (r, live, id) ↦ let same = i.kept r live in inl (r, ap is_some same ∙ live, ap id_in same ∙ id)
        | inr (inl (none, both)) ↦ inl (i.added k low high both)
        | inr (inr holds) ↦ inr (inr holds)
      ])
      | inr waits ↦ inr waits
    ]

    module _ (w : WatchState) (fits : Fits w b c.trail) (all : (r : ℕ) → IsLive b r → IsAttached w.attached r) where
      abbrev pub tidying : SearchState
      tidying = record c { arena = b; watches = w; tidies = true }

      pub stands_then : SearchStandsBut formula engines tidying [] told
      stands_then = (
        s,
        also_tidies formula engines s (subst (λ x. IsSearchIn x formula engines s) plain st.1),
        st.2,
        record {
          follows = ties.follows;
          variables = ties.variables;
          level = ties.level;
          ranged = ties.ranged;
          next = ties.next;
          room = ties.room;
          sums = ties.sums;
          parities = ties.parities;
          clauses = ties.clauses;
          stored = i.stored;
          plain = λ never. absurd (true≢false never);
          apart = i.apart;
          covered = covered_then;
          singles = ties.singles;
          units = ties.units;
          every = ties.every;
          watched = record { fits = fits; all = all };
          stand = ties.stand;
          phases = ties.phases;
          given = ties.given;
          conflicts = ties.conflicts;
          none_learned = ties.none_learned;
          not_reduced = ties.not_reduced;
          none_tidy = ties.none_tidy;
          no_conflict = ties.no_conflict;
          no_learned = ties.no_learned;
          no_reduction = ties.no_reduction;
          no_level = ties.no_level;
          few_additions = ties.few_additions;
          served = ties.served;
        },
      )
