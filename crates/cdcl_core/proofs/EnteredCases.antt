-- A learned clause is entered: a clause of several literals, and one of a single literal.
use Rattle.std.proofs.Common.{◌≡◌, refl, sym, ap, ◌∙◌, subst, ℕ, zero, suc, ◌+◌, ◌-◌, ◌<◌, ℤ, true, cond, nat_eq, nat_le, nat_lt, is_some, List, [], ◌∷◌, ◌++◌, length, take, get_or, Some, None, ◌⊎◌, inl, inr, arith, length-append, Contains}
use Rattle.std.proofs.lemmas.Bool.{eqb-false, ltb-true, ltb-false, and_from}
use Rattle.cx_base.specs.Literals.{Literal, HasTwo}
use Rattle.cx_base.specs.Problem.{Problem, clauses_of}
use Rattle.cx_semantics.specs.Chain.{has_literal, is_inside, same_literals}
use Rattle.cx_semantics.specs.Settled.{IsClauseOf}
use Rattle.cx_base.specs.Integers.{integers_of}
use Rattle.cx_semantics.specs.Tables.{get}
use Rattle.cx_trail.specs.declared.entry.Reason.{Reason}
use Rattle.cx_trail.specs.declared.entry.Reason.TheVariants as why
use Rattle.cx_trail.specs.Sequence.{TakesBack, entry_at}
use Rattle.clause_arena.specs.Clauses.{Stored, IsLive, clause_at, literals_in, literals_at, id_in, id_at, learned_at, learned_in}
use Rattle.watch_lists.specs.Truths.{AreOthersFalse}
use Rattle.watch_lists.specs.Watching.{IsAttached}
use Rattle.search_policy.specs.Standing.{OrderState, AllStand}
use Rattle.search_steps.specs.Trail.{Entry, by_clause, held, back_to, level_of}
use Rattle.search_steps.specs.Quiet.{HasTrue}
use Rattle.search_steps.specs.Search.{Search, jumped}
use Rattle.search_steps.specs.LogSteps.{after_round}
use Rattle.conflict_learn.proofs.ChainOfResolutions.{by_cases}
use Rattle.parity_engine.specs.State.{State}
use Rattle.cdcl_search.proofs.LearnedIds.{among_first, among_more}
use Rattle.cdcl_search.proofs.UnitTies.{on_last}
use Rattle.cdcl_search.proofs.Growing.{watched_grows}
use Rattle.cx_semantics.proofs.Closure.{inside_itself}
use Rattle.cx_semantics.proofs.Members.{has_at_head}
use Rattle.std.specs.Prelude.{IsTrue, IsFalse}
use Rattle.cdcl_search.specs.declared.state.SearchState.{SearchState}
use Rattle.cx_semantics.specs.Marked.{is_among}
use Rattle.cdcl_search.specs.Ties.{IsNamedBy, AreLearned, AreUnits, RestOnUnits, HasReasonOf, HaveReasons, Ties}
use Rattle.cdcl_search.proofs.Places.{tied_length}
use Rattle.tidy_rules.proofs.OneLaws.{not_two}
use Rattle.cdcl_search.specs.Ties.{AreTidyBefore, IsKept, IsClauseReasonOf, IsHeld, NeedsNoLearned, IsWatched}
use Rattle.cdcl_core.specs.Entering.{EntersUnit, EntersClause, HasCounts}
use Rattle.cdcl_core.specs.Learning.{IsTaught}
use Rattle.cdcl_core.proofs.Entering.{trail_is, get_new, learned_then, named_then, was}
use Rattle.cdcl_core.proofs.TidyBefore.{tidy_added}
use Rattle.cdcl_core.proofs.Entered.{true_more, kept_at, new_at, old_or_new, length_D, same_entry, same_take, last_entry, place, level_D, reason_stays, ties_entered, unit_stays}

id_front : (xs : List ℕ) (y i : ℕ) → i < length xs → get_or (xs ++ y ∷ []) i 0 ≡ get_or xs i 0
id_front [] y i h = absurd (omega (arith, h))
id_front (x ∷ xs) y zero h = refl
id_front (x ∷ xs) y (suc i) h = id_front xs y i (omega (arith, h))

id_last : (xs : List ℕ) (y : ℕ) → get_or (xs ++ y ∷ []) (length xs) 0 ≡ y
id_last [] y = refl
id_last (x ∷ xs) y = id_last xs y

same_itself : (lits : List Literal) → same_literals lits lits ≡ true
same_itself lits = and_from _ _ (inside_itself lits) (inside_itself lits)

module _ (formula : Problem) (c : SearchState) (e : State) (lits : List Literal) (back : ℕ) (s : Search) (taught : IsTaught formula c e lits back s) (hints : List ℤ)
    (c1 : SearchState) (e1 : State) (t1 : Ties formula c1 e1 taught.rows (jumped s back)) (takes : TakesBack back c.trail c1.trail)
    (o : OrderState) (stands : AllStand o c1.trail) (D : SearchState) (counts : HasCounts c1 c) where
  abbrev l : Literal
  l = taught.first

  abbrev after : Search
  after = after_round s c.next (integers_of lits) hints back taught.first

  abbrev new : Entry
  new = record { literal = taught.first; level = level_of (back_to back s.trail); why = by_clause c.next }

  true_then : (clause : List Literal) → HasTrue (held 0 (back_to back s.trail)) clause → HasTrue (held 0 after.trail) clause
  true_then clause h = subst (λ es. HasTrue (held 0 es) clause) (sym (trail_is formula c e lits back s taught hints)) (true_more new (back_to back s.trail) clause h)

  -- ---- several literals
  module _ (lbd : ℕ) (enters : EntersClause (record c1 { order = o; next = c.next + 1; conflicts = c.conflicts + 1; learned = c.learned + 1 }) D lits taught.first c.next lbd) where
    abbrev reason : Reason
    reason = why.Clause (length c1.arena.clauses)

    abbrev stored : Stored
    stored = record { literals = lits; id = c.next; lbd = lbd; learned = true }

    clause_kept : (r : ℕ) → IsLive c1.arena r → clause_at D.arena r ≡ clause_at c1.arena r
    clause_kept r live = ap (λ xs. get_or xs r None) enters.added ∙ kept_at c1.arena.clauses (Some stored) r live

    clause_new : clause_at D.arena (length c1.arena.clauses) ≡ Some stored
    clause_new = ap (λ xs. get_or xs (length c1.arena.clauses) None) enters.added ∙ new_at c1.arena.clauses (Some stored)

    attached_still : (r : ℕ) → IsAttached c1.watches.attached r → IsAttached D.watches.attached r
    attached_still r a = by_cases (nat_eq r (length c1.arena.clauses))
        (λ q. subst (IsAttached D.watches.attached) (sym (Rattle.std.proofs.Common.eqb-true r (length c1.arena.clauses) q)) enters.attached)
        (λ q. enters.others r (eqb-false r (length c1.arena.clauses) q) ∙ a)

    old_or_last : (r : ℕ) → IsLive D.arena r → IsLive c1.arena r ⊎ (r ≡ length c1.arena.clauses)
    old_or_last r live = old_or_new c1.arena.clauses (Some stored) r (sym (ap (λ xs. is_some (get_or xs r None)) enters.added) ∙ live)

    stored_then : HasTwo lits → (r : ℕ) → IsLive D.arena r → IsKept formula after.moment.tables.clauses (c.next + 1) D.arena r
    stored_then two r live = elim (old_or_last r live) [
      | inl old ↦
          let st = t1.clauses.stored r old in
          let same = clause_kept r old in
          let low = st.low in
          let next = counts.next in
          record {
            wide = subst (λ x. HasTwo (literals_in x)) (sym same) st.wide;
            named = subst (λ x. IsNamedBy after.moment.tables.clauses (literals_in x) (id_in x)) (sym same) (named_then formula c e lits back s taught hints (literals_at c1.arena r) (id_at c1.arena r) (omega (arith, low, next)) st.named);
            low = subst (λ x. id_in x < c.next + 1) (sym same) (omega (arith, low, next));
            late = subst (λ x. IsTrue (learned_in x) → length (clauses_of formula.constraints) < id_in x) (sym same) st.late;
          }
      | inr is ↦
          let same : clause_at D.arena r ≡ Some stored = ap (clause_at D.arena) is ∙ clause_new in
          record {
            wide = subst (λ x. HasTwo (literals_in x)) (sym same) two;
            named = subst (λ x. IsNamedBy after.moment.tables.clauses (literals_in x) (id_in x)) (sym same) (record { clause = lits; live = get_new formula c e lits back s taught hints; same = same_itself lits });
            low = subst (λ x. id_in x < c.next + 1) (sym same) (omega arith);
            late = subst (λ x. IsTrue (learned_in x) → length (clauses_of formula.constraints) < id_in x) (sym same) (λ _. taught.ties.log.ranged.originals);
          }
    ]

    covered_then : (m : ℕ) (clause : List Literal) → m < c.next + 1 → get after.moment.tables.clauses m ≡ Some clause → IsHeld D.tidies D.arena (held 0 after.trail) m clause
    covered_then m clause low live = elim (was formula c e lits back s taught hints m clause low live) [
      | inl is ↦ inl (length c1.arena.clauses, ap is_some clause_new, ap id_in clause_new ∙ sym is.1)
      | inr old ↦ elim (t1.clauses.covered m clause (let less = old.0 in let next = counts.next in omega (arith, less, next)) old.1) [
        | inl (r, r_live, id) ↦ inl (r, ap is_some (clause_kept r r_live) ∙ r_live, ap id_in (clause_kept r r_live) ∙ id)
        | inr (inl taut) ↦ inr (inl (enters.put.tidies ∙ taut.0, taut.1))
        | inr (inr (one, t)) ↦ inr (inr (one, true_then clause t))
      ]
    ]

    original_then : (clause : List Literal) → IsClauseOf formula clause → NeedsNoLearned D.arena (held 0 after.trail) clause
    original_then clause is = elim (t1.clauses.original clause is) [
      | inl both ↦ inl both
      | inr (inl t) ↦ inr (inl (true_then clause t))
      | inr (inr (r, r_live, original, inside)) ↦
          let same = clause_kept r r_live in
          inr (inr (r, ap is_some same ∙ r_live, ap learned_in same ∙ original, ap (λ x. is_inside (literals_in x) clause) same ∙ inside))
    ]

    old_id : (r : ℕ) → IsLive c1.arena r → id_at D.arena r < c.next
    old_id r old = let low = (t1.clauses.stored r old).low in let next = counts.next in let same = ap id_in (clause_kept r old) in omega (arith, low, next, same)

    last_id : id_at D.arena (length c1.arena.clauses) ≡ c.next
    last_id = ap id_in clause_new

    apart_then : (r q : ℕ) → IsLive D.arena r → IsLive D.arena q → id_at D.arena r ≡ id_at D.arena q → r ≡ q
    apart_then r q r_live q_live same = elim (old_or_last r r_live) [
      | inl r_old ↦ elim (old_or_last q q_live) [
        | inl q_old ↦ t1.clauses.apart r q r_old q_old (sym (ap id_in (clause_kept r r_old)) ∙ same ∙ ap id_in (clause_kept q q_old))
        | inr q_is ↦ absurd (let low = old_id r r_old in let at = ap (id_at D.arena) q_is in let last = last_id in omega (arith, low, same, at, last))
      ]
      | inr r_is ↦ elim (old_or_last q q_live) [
        | inl q_old ↦ absurd (let low = old_id q q_old in let at = ap (id_at D.arena) r_is in let last = last_id in omega (arith, low, same, at, last))
        | inr q_is ↦ r_is ∙ sym q_is
      ]
    ]

    learned_one_more : AreLearned D.arena after.moment.learned
    learned_one_more r live is = ap (λ ids. is_among ids (id_at D.arena r)) (learned_then formula c e lits back s taught hints) ∙ among
      where
        among : is_among (c.next ∷ s.moment.learned) (id_at D.arena r) ≡ true
        among = elim (old_or_last r live) [
          | inl old ↦
              let same = clause_kept r old in
              ap (λ o. is_among (c.next ∷ s.moment.learned) (id_in o)) same ∙ among_more s.moment.learned c.next (id_at c1.arena r) (t1.learned r old (ap learned_in (sym same) ∙ is))
          | inr at ↦ ap (is_among (c.next ∷ s.moment.learned)) (ap (id_at D.arena) at ∙ last_id) ∙ among_first s.moment.learned c.next
        ]

    pub clause_watched : IsWatched c1.watches c1.arena c1.trail → IsWatched D.watches D.arena D.trail
    clause_watched w = record {
      fits = enters.fits;
      all = λ r live. elim (old_or_last r live) [
        | inl old ↦ attached_still r (w.all r old)
        | inr is ↦ subst (IsAttached D.watches.attached) (sym is) enters.attached
      ];
    }

    units_then : AreUnits after.moment.tables.clauses (c.next + 1) D.trail after.trail D.units.items
    units_then =
        let put = enters.put in
        let count = ap length enters.units in
        let few = t1.units.few in
        let long = length_D formula c e lits back s taught hints c1 e1 t1 takes o stands D reason counts put in
        record {
          few = omega (arith, count, few, long);
          level_0 = λ i h. (unit_stays formula c e lits back s taught hints c1 e1 t1 takes o stands D reason counts put D.units.items enters.units i h).0;
          named = λ i h. (unit_stays formula c e lits back s taught hints c1 e1 t1 takes o stands D reason counts put D.units.items enters.units i h).1;
          low = λ i h. subst (λ us. get_or us i 0 < c.next + 1) (sym enters.units) (let low = t1.units.low i (omega (arith, count, h)) in let next = counts.next in omega (arith, low, next));
          newer = new ∷ t1.units.newer;
          older = t1.units.older;
          parts = (let then : List Entry → List Entry = λ es. new ∷ es in trail_is formula c e lits back s taught hints ∙ ap then t1.units.parts);
          count = t1.units.count ∙ sym count;
          rest = subst (λ ids. RestOnUnits ids t1.units.older) (sym enters.units) t1.units.rest;
          all = λ above i far h. elim (place formula c e lits back s taught hints c1 e1 t1 takes o stands D reason counts put i h) [
            | inl less ↦
                let at : D.trail.level ≡ back = level_D formula c e lits back s taught hints c1 e1 t1 takes o stands D reason counts put in
                let was_at = takes.level in
                subst (λ x. 0 < x.level) (same_entry formula c e lits back s taught hints c1 e1 t1 takes o stands D reason counts put i less)
                (t1.units.all (omega (arith, above, at, was_at)) i (omega (arith, far, count)) less)
            | inr is ↦
                let at : D.trail.level ≡ back = level_D formula c e lits back s taught hints c1 e1 t1 takes o stands D reason counts put in
                subst (λ x. 0 < x.level) (sym (last_entry formula c e lits back s taught hints c1 e1 t1 takes o stands D reason counts put i is)) (let high : 0 < back = omega (arith, above, at) in high)
          ];
        }

    others_false : AreOthersFalse c1.trail.entries lits l → IsClauseReasonOf D.arena D.trail.entries (length c1.trail.entries) (length c1.arena.clauses)
    others_false others =
        let put = enters.put in
        let here : entry_at D.trail.entries (length c1.trail.entries) ≡ record { literal = l; level = back; reason = reason } = last_entry formula c e lits back s taught hints c1 e1 t1 takes o stands D reason counts put (length c1.trail.entries) refl in
        let lits_are : lits ≡ literals_at D.arena (length c1.arena.clauses) = sym (ap literals_in clause_new) in
        let all : c1.trail.entries ≡ take (length c1.trail.entries) D.trail.entries = sym (Rattle.std.proofs.Math.Seq.take-length c1.trail.entries) ∙ same_take formula c e lits back s taught hints c1 e1 t1 takes o stands D reason counts put (length c1.trail.entries) (omega arith) in
        record {
          live = ap is_some clause_new;
          has = subst (λ x. Contains (literals_at D.arena (length c1.arena.clauses)) x.literal) (sym here) (subst (λ xs. Contains xs l) lits_are (subst (λ xs. Contains xs l) (sym taught.parts) (0, omega arith, refl)));
          others = subst (λ x. AreOthersFalse (take (length c1.trail.entries) D.trail.entries) (literals_at D.arena (length c1.arena.clauses)) x.literal) (sym here)
              (subst (λ es. AreOthersFalse es (literals_at D.arena (length c1.arena.clauses)) l) all (subst (λ xs. AreOthersFalse c1.trail.entries xs l) lits_are others));
        }

    reasons_then : AreOthersFalse c1.trail.entries lits l → HaveReasons D e1
    reasons_then others i far h =
        let put = enters.put in
        let count = ap length enters.units in
        elim (place formula c e lits back s taught hints c1 e1 t1 takes o stands D reason counts put i h) [
          | inl less ↦
              reason_stays formula c e lits back s taught hints c1 e1 t1 takes o stands D reason counts put clause_kept i less (entry_at D.trail.entries i).reason
              (subst (λ x. HasReasonOf c1.arena c1.trail.entries e1 i x.reason) (same_entry formula c e lits back s taught hints c1 e1 t1 takes o stands D reason counts put i less) (t1.reasons i (omega (arith, far, count)) less))
          | inr is ↦
              let here = last_entry formula c e lits back s taught hints c1 e1 t1 takes o stands D reason counts put i is in
              subst (λ x. HasReasonOf D.arena D.trail.entries e1 i x.reason) (sym here) (subst (λ k. IsClauseReasonOf D.arena D.trail.entries k (length c1.arena.clauses)) (sym is) (others_false others))
        ]

    old_then : AreTidyBefore D.arena D.tidy_below
    old_then = subst (AreTidyBefore D.arena) (sym enters.put.tidy_below) (tidy_added c1.arena D.arena c1.tidy_below (Some stored) enters.added t1.clauses.old)

    pub clause_ties : HasTwo lits → AreOthersFalse c1.trail.entries lits l → Ties formula D e1 [] after
    clause_ties two others = ties_entered formula c e lits back s taught hints c1 e1 t1 takes o stands D reason counts enters.put (record { stored = stored_then two; covered = covered_then; apart = apart_then; original = original_then; old = old_then }) learned_one_more units_then (reasons_then others) (let count = ap length enters.units in omega (arith, count))

  -- ---- one literal
  module _ (one : length lits ≡ 1) (none_above : back ≡ 0) (all_units : length c1.units.items ≡ length c1.trail.entries)
      (enters : EntersUnit (record c1 { order = o; next = c.next + 1; conflicts = c.conflicts + 1; learned = c.learned + 1 }) D taught.first c.next) where
    single : lits ≡ taught.first ∷ []
    single = taught.parts ∙ ap (λ ms. taught.first ∷ ms) (no_more taught.more (sym (ap length taught.parts) ∙ one))
      where
        no_more : (ms : List Literal) → length (taught.first ∷ ms) ≡ 1 → ms ≡ []
        no_more [] h = refl
        no_more (m ∷ ms) h = absurd (omega (arith, h))

    unit_stored : (r : ℕ) → IsLive D.arena r → IsKept formula after.moment.tables.clauses (c.next + 1) D.arena r
    unit_stored r live =
        let st = t1.clauses.stored r (subst (λ a. IsLive a r) enters.arena live) in
        let low = st.low in
        let next = counts.next in
        subst (λ a. IsKept formula after.moment.tables.clauses (c.next + 1) a r) (sym enters.arena) (record {
          wide = st.wide;
          named = named_then formula c e lits back s taught hints (literals_at c1.arena r) (id_at c1.arena r) (omega (arith, low, next)) st.named;
          low = omega (arith, low, next);
          late = st.late;
        })

    unit_apart : (r q : ℕ) → IsLive D.arena r → IsLive D.arena q → id_at D.arena r ≡ id_at D.arena q → r ≡ q
    unit_apart = subst (λ a. (r q : ℕ) → IsLive a r → IsLive a q → id_at a r ≡ id_at a q → r ≡ q) (sym enters.arena) t1.clauses.apart

    unit_old : AreTidyBefore D.arena D.tidy_below
    unit_old = subst (AreTidyBefore D.arena) (sym enters.put.tidy_below) (subst (λ a. AreTidyBefore a c1.tidy_below) (sym enters.arena) t1.clauses.old)

    at_zero : level_of (back_to back s.trail) ≡ 0
    at_zero = Rattle.cdcl_core.proofs.Entering.level_then formula c e lits back s taught hints ∙ none_above

    held_now : has_literal (held 0 after.trail) taught.first ≡ true
    held_now = ap (λ es. has_literal (held 0 es) taught.first) (trail_is formula c e lits back s taught hints)
        ∙ ap (λ k. has_literal (cond (nat_le k 0) (taught.first ∷ held 0 (back_to back s.trail)) (held 0 (back_to back s.trail))) taught.first) at_zero
        ∙ has_at_head taught.first (held 0 (back_to back s.trail))

    unit_covered : (m : ℕ) (clause : List Literal) → m < c.next + 1 → get after.moment.tables.clauses m ≡ Some clause → IsHeld D.tidies D.arena (held 0 after.trail) m clause
    unit_covered m clause low live = elim (was formula c e lits back s taught hints m clause low live) [
      | inl is ↦
          let alone : clause ≡ taught.first ∷ [] = is.0 ∙ single in
          inr (inr (
            not_two taught.first clause (subst (λ xs. same_literals (taught.first ∷ []) xs ≡ true) (sym alone) (same_itself (taught.first ∷ []))),
            record { l = taught.first; has_it = ap (λ xs. has_literal xs taught.first) alone ∙ has_at_head taught.first []; is_held = held_now },
          ))
      | inr old ↦ elim (t1.clauses.covered m clause (let less = old.0 in let next = counts.next in omega (arith, less, next)) old.1) [
        | inl (r, r_live, id) ↦ inl (r, subst (λ a. IsLive a r) (sym enters.arena) r_live, ap (λ a. id_at a r) enters.arena ∙ id)
        | inr (inl taut) ↦ inr (inl (enters.put.tidies ∙ taut.0, taut.1))
        | inr (inr (one, t)) ↦ inr (inr (one, true_then clause t))
      ]
    ]

    unit_original : (clause : List Literal) → IsClauseOf formula clause → NeedsNoLearned D.arena (held 0 after.trail) clause
    unit_original clause is = elim (t1.clauses.original clause is) [
      | inl both ↦ inl both
      | inr (inl t) ↦ inr (inl (true_then clause t))
      | inr (inr stored) ↦ inr (inr (subst (λ a. (r : ℕ) × IsLive a r × IsFalse (learned_at a r) × IsTrue (is_inside (literals_at a r) clause)) (sym enters.arena) stored))
    ]

    units_long : length D.units.items ≡ length c1.units.items + 1
    units_long = ap length enters.units ∙ length-append c1.units.items (c.next ∷ [])

    unit_place : (i : ℕ) → i < length D.units.items → (i < length c1.units.items) ⊎ (i ≡ length c1.units.items)
    unit_place i h = by_cases (nat_lt i (length c1.units.items)) (λ q. inl (ltb-true i (length c1.units.items) q))
        (λ q. let far = ltb-false i (length c1.units.items) q in let long = units_long in inr (omega (arith, far, h, long)))

    front_id : (i : ℕ) → i < length c1.units.items → get_or D.units.items i 0 ≡ get_or c1.units.items i 0
    front_id i h = ap (λ us. get_or us i 0) enters.units ∙ id_front c1.units.items c.next i h

    unit_id : (i : ℕ) → i ≡ length c1.units.items → get_or D.units.items i 0 ≡ c.next
    unit_id i is = ap (λ us. get_or us i 0) enters.units ∙ ap (λ k. get_or (c1.units.items ++ c.next ∷ []) k 0) is ∙ id_last c1.units.items c.next

    unit_last : (i : ℕ) → i ≡ length c1.units.items → entry_at D.trail.entries i ≡ record { literal = taught.first; level = back; reason = why.Decision }
    unit_last i is = last_entry formula c e lits back s taught hints c1 e1 t1 takes o stands D why.Decision counts enters.put i (is ∙ all_units)

    unit_named : (i : ℕ) → i < length D.units.items → IsNamedBy after.moment.tables.clauses ((entry_at D.trail.entries i).literal ∷ []) (get_or D.units.items i 0)
    unit_named i h = elim (unit_place i h) [
      | inl less ↦ subst (λ m. IsNamedBy after.moment.tables.clauses ((entry_at D.trail.entries i).literal ∷ []) m) (sym (front_id i less))
          (unit_stays formula c e lits back s taught hints c1 e1 t1 takes o stands D why.Decision counts enters.put c1.units.items refl i less).1
      | inr is ↦ subst (λ m. IsNamedBy after.moment.tables.clauses ((entry_at D.trail.entries i).literal ∷ []) m) (sym (unit_id i is))
          (subst (λ x. IsNamedBy after.moment.tables.clauses (x.literal ∷ []) c.next) (sym (unit_last i is))
          (record { clause = lits; live = get_new formula c e lits back s taught hints; same = ap (same_literals (taught.first ∷ [])) single ∙ same_itself (taught.first ∷ []) }))
    ]

    older_are_all : back_to back s.trail ≡ t1.units.older
    older_are_all = t1.units.parts ∙ none_newer t1.units.newer (let n = ap length t1.units.parts in let m = length-append t1.units.newer t1.units.older in let k = t1.units.count in
        let tied = tied_length (back_to back s.trail) c1.trail.entries t1.trail.follows.tied in let a = all_units in omega (arith, n, m, k, tied, a))
      where
        none_newer : (xs : List Entry) → length xs ≡ 0 → xs ++ t1.units.older ≡ t1.units.older
        none_newer [] h = refl
        none_newer (x ∷ xs) h = absurd (omega (arith, h))

    unit_units : AreUnits after.moment.tables.clauses (c.next + 1) D.trail after.trail D.units.items
    unit_units =
        let long = units_long in
        let trail_long = length_D formula c e lits back s taught hints c1 e1 t1 takes o stands D why.Decision counts enters.put in
        let a = all_units in
        record {
          few = omega (arith, long, trail_long, a);
          level_0 = λ i h. elim (unit_place i h) [
            | inl less ↦ (unit_stays formula c e lits back s taught hints c1 e1 t1 takes o stands D why.Decision counts enters.put c1.units.items refl i less).0
            | inr is ↦ ap (λ x. x.level) (unit_last i is) ∙ none_above
          ];
          named = unit_named;
          low = λ i h. elim (unit_place i h) [
            | inl less ↦ subst (λ m. m < c.next + 1) (sym (front_id i less)) (let low = t1.units.low i less in let next = counts.next in omega (arith, low, next))
            | inr is ↦ subst (λ m. m < c.next + 1) (sym (unit_id i is)) (omega arith)
          ];
          newer = [];
          older = new ∷ back_to back s.trail;
          parts = trail_is formula c e lits back s taught hints;
          count = (let tied = tied_length (back_to back s.trail) c1.trail.entries t1.trail.follows.tied in omega (arith, tied, long, a));
          rest = subst (λ ids. RestOnUnits ids (new ∷ back_to back s.trail)) (sym enters.units) (on_last c1.units.items c.next new (back_to back s.trail) refl (subst (RestOnUnits c1.units.items) (sym older_are_all) t1.units.rest));
          all = λ above i far h. absurd (let at = level_D formula c e lits back s taught hints c1 e1 t1 takes o stands D why.Decision counts enters.put in let z = none_above in omega (arith, above, at, z));
        }

    unit_learned : AreLearned D.arena after.moment.learned
    unit_learned = subst (λ a. AreLearned a after.moment.learned) (sym enters.arena) (λ r live is.
        ap (λ ids. is_among ids (id_at c1.arena r)) (learned_then formula c e lits back s taught hints) ∙ among_more s.moment.learned c.next (id_at c1.arena r) (t1.learned r live is))

    pub unit_ties : Ties formula D e1 [] after
    unit_ties =
        ties_entered formula c e lits back s taught hints c1 e1 t1 takes o stands D why.Decision counts enters.put (record { stored = unit_stored; covered = unit_covered; apart = unit_apart; original = unit_original; old = unit_old }) unit_learned unit_units
        (λ i far h. absurd (let long = units_long in let trail_long = length_D formula c e lits back s taught hints c1 e1 t1 takes o stands D why.Decision counts enters.put in let a = all_units in omega (arith, far, h, long, trail_long, a)))
        (let long = units_long in omega (arith, long))

    pub unit_watched : IsWatched c1.watches c1.arena c1.trail → IsWatched D.watches D.arena D.trail
    unit_watched w =
        subst (λ x. IsWatched x D.arena D.trail) (sym enters.watches) (subst (λ a. IsWatched c1.watches a D.trail) (sym enters.arena)
        (subst (IsWatched c1.watches c1.arena) (sym enters.put.trail) (watched_grows c1 c1.trail.level taught.first why.Decision (omega arith) w)))
