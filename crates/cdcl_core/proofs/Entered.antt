-- A learned clause is entered: the code's trail and what is on it.
use Rattle.std.proofs.Common.{◌≡◌, refl, sym, ap, ◌∙◌, subst, ℕ, zero, suc, ◌+◌, ◌*◌, ◌<◌, ◌≤◌, ◌^◌, ℤ, true, false, cond, nat_le, nat_lt, is_some, List, [], ◌∷◌, ◌++◌, length, take, get_or, None, Option, ◌⊎◌, inl, inr, arith, length-append, Contains, true≢false}
use Rattle.std.proofs.lemmas.Bool.{ltb-true, ltb-false}
use Rattle.std.proofs.lemmas.List.{take-append-le}
use Rattle.std.specs.Prelude.{IsTrue}
use Rattle.std.specs.FinSet as set
use Rattle.cx_base.specs.Literals.{Literal, literal_true}
use Rattle.cx_base.specs.Problem.{Problem}
use Rattle.cx_semantics.specs.Chain.{has_literal}
use Rattle.cx_base.specs.Integers.{integers_of}
use Rattle.cx_semantics.specs.Tables.{get}
use Rattle.cx_semantics.proofs.Members.{has_behind}
use Rattle.cx_trail.specs.declared.entry.Entry.{Entry as TrailEntry}
use Rattle.cx_trail.specs.declared.entry.Reason.{Reason}
use Rattle.cx_trail.specs.declared.entry.Reason.TheVariants as why
use Rattle.cx_trail.specs.Sequence.{TrailState, TakesBack, entry_at, pushed, IsTrueIn, IsAssignedIn}
use Rattle.cx_trail.proofs.ValueLaws.{entry_kept}
use Rattle.clause_arena.specs.Clauses.{Stored, IsLive, clause_at, literals_in, literals_at}
use Rattle.watch_lists.specs.Truths.{AreOthersFalse}
use Rattle.search_policy.specs.Standing.{OrderState, AllStand}
use Rattle.search_steps.specs.Trail.{Entry, by_clause, held, back_to, level_of}
use Rattle.search_steps.specs.Quiet.{HasTrue}
use Rattle.search_steps.specs.Search.{Search, jumped}
use Rattle.search_steps.specs.LogSteps.{after_round}
use Rattle.search_steps.specs.Tied.{IsTied, Mirrors}
use Rattle.search_steps.specs.Ids.{IsRanged}
use Rattle.search_steps.specs.Size.{HasFewAdditions}
use Rattle.conflict_learn.proofs.ChainOfResolutions.{by_cases}
use Rattle.search_steps.proofs.Bridge.{entry_last}
use Rattle.search_steps.proofs.SizeLaws.{round_adds_one, round_counts_one, one_mark_more}
use Rattle.parity_engine.specs.State.{State}
use Rattle.cdcl_search.specs.declared.state.SearchState.{SearchState}
use Rattle.cdcl_search.specs.Ties.{first_row_id, IsNamedBy, ClauseTies, AreLearned, AreNumbered, AreUnits, IsFed, IsFallingFrom, HasReasonOf, HaveReasons, Ties}
use Rattle.cdcl_core.specs.Entering.{IsPut, HasCounts}
use Rattle.cdcl_core.specs.Learning.{IsTaught}
use Rattle.cdcl_core.proofs.Entering.{tied_then, trail_is, ranged_then, parities_then, conflicts_then, learned_then, stretches_then, tidy, named_then, get_old}

-- ---- a literal more on the code's trail
stand_longer : (o : OrderState) (t : TrailState) (level : ℕ) (l : Literal) (reason : Reason) → AllStand o t → AllStand o (pushed t level l reason)
stand_longer o t level l reason a = record {
  variables = a.variables;
  stand = λ v low high is_open. a.stand v low high (λ i within same.
      let it : TrailEntry = record { literal = l; level = level; reason = reason } in
      let long = length-append t.entries (it ∷ []) in
      is_open i (omega (arith, within, long)) (ap (λ x. x.literal.variable) (entry_kept t.entries (it ∷ []) i within) ∙ same));
}

pub true_more : (x : Entry) (es : List Entry) (clause : List Literal) → HasTrue (held 0 es) clause → HasTrue (held 0 (x ∷ es)) clause
true_more x es clause h = record {
  l = h.l;
  has_it = h.has_it;
  is_held = elim (nat_le x.level 0) as (λ b. has_literal (cond b (x.literal ∷ held 0 es) (held 0 es)) h.l ≡ true) [ true ↦ has_behind x.literal (held 0 es) h.l h.is_held | false ↦ h.is_held ];
}

-- ---- an arena with a clause more
pub kept_at : (xs : List (Option Stored)) (x : Option Stored) (r : ℕ) → is_some (get_or xs r None) ≡ true → get_or (xs ++ x ∷ []) r None ≡ get_or xs r None
kept_at [] x r h = absurd (true≢false (sym h))
kept_at (y ∷ xs) x zero h = refl
kept_at (y ∷ xs) x (suc r) h = kept_at xs x r h

pub new_at : (xs : List (Option Stored)) (x : Option Stored) → get_or (xs ++ x ∷ []) (length xs) None ≡ x
new_at [] x = refl
new_at (y ∷ xs) x = new_at xs x

pub old_or_new : (xs : List (Option Stored)) (x : Option Stored) (r : ℕ) → is_some (get_or (xs ++ x ∷ []) r None) ≡ true → (is_some (get_or xs r None) ≡ true) ⊎ (r ≡ length xs)
old_or_new [] x zero h = inr refl
old_or_new [] x (suc r) h = absurd (true≢false (sym h))
old_or_new (y ∷ xs) x zero h = inl h
old_or_new (y ∷ xs) x (suc r) h = elim (old_or_new xs x r h) [ inl a ↦ inl a | inr b ↦ inr (ap suc b) ]

module _ (formula : Problem) (c : SearchState) (e : State) (lits : List Literal) (back : ℕ) (s : Search) (taught : IsTaught formula c e lits back s) (hints : List ℤ)
    (c1 : SearchState) (e1 : State) (t1 : Ties formula c1 e1 taught.rows (jumped s back)) (takes : TakesBack back c.trail c1.trail)
    (o : OrderState) (stands : AllStand o c1.trail) (D : SearchState) (reason : Reason)
    (counts : HasCounts c1 c)
    (put : IsPut (record c1 { order = o; next = c.next + 1; conflicts = c.conflicts + 1; learned = c.learned + 1 }) D taught.first reason) where
  abbrev l : Literal
  l = taught.first

  abbrev after : Search
  after = after_round s c.next (integers_of lits) hints back taught.first

  abbrev it : TrailEntry
  it = record { literal = taught.first; level = back; reason = reason }

  trail_D : D.trail ≡ pushed c1.trail back l reason
  trail_D = put.trail ∙ ap (λ b. pushed c1.trail b l reason) takes.level

  entries_D : D.trail.entries ≡ c1.trail.entries ++ it ∷ []
  entries_D = ap (λ t. t.entries) trail_D

  pub length_D : length D.trail.entries ≡ length c1.trail.entries + 1
  length_D = ap length entries_D ∙ length-append c1.trail.entries (it ∷ [])

  pub level_D : D.trail.level ≡ back
  level_D = ap (λ t. t.level) trail_D

  pub same_entry : (i : ℕ) → i < length c1.trail.entries → entry_at c1.trail.entries i ≡ entry_at D.trail.entries i
  same_entry i h = sym (ap (λ xs. entry_at xs i) entries_D ∙ entry_kept c1.trail.entries (it ∷ []) i h)

  pub same_take : (i : ℕ) → i ≤ length c1.trail.entries → take i c1.trail.entries ≡ take i D.trail.entries
  same_take i h = sym (ap (take i) entries_D ∙ take-append-le i c1.trail.entries (it ∷ []) h)

  pub last_entry : (i : ℕ) → i ≡ length c1.trail.entries → entry_at D.trail.entries i ≡ it
  last_entry i is = ap (λ xs. entry_at xs i) entries_D ∙ ap (entry_at (c1.trail.entries ++ it ∷ [])) is ∙ entry_last c1.trail.entries it

  pub place : (i : ℕ) → i < length D.trail.entries → (i < length c1.trail.entries) ⊎ (i ≡ length c1.trail.entries)
  place i h = by_cases (nat_lt i (length c1.trail.entries)) (λ q. inl (ltb-true i (length c1.trail.entries) q))
      (λ q. let far = ltb-false i (length c1.trail.entries) q in let long = length_D in inr (omega (arith, far, h, long)))

  pub follows_then : Mirrors after.trail D.trail
  follows_then = record { tied = subst (λ t. IsTied after.trail t.entries) (sym trail_D) (tied_then formula c e lits back s taught hints c1.trail takes reason).1; sound = put.sound }

  fed_then : IsFed after.trail D.given e1
  fed_then = record {
    newer = record { literal = taught.first; level = level_of (back_to back s.trail); why = by_clause c.next } ∷ t1.engine.fed.newer;
    older = t1.engine.fed.older;
    parts = (let then : List Entry → List Entry = λ es. record { literal = taught.first; level = level_of (back_to back s.trail); why = by_clause c.next } ∷ es in trail_is formula c e lits back s taught hints ∙ ap then t1.engine.fed.parts);
    count = t1.engine.fed.count ∙ sym put.given;
    now = (sym t1.engine.fed.level, t1.engine.fed.now);
    values = t1.engine.fed.values;
    level = t1.engine.fed.level ∙ sym (ap level_of (trail_is formula c e lits back s taught hints));
  }

  -- a place's reason of before, where the clauses of before are kept
  module _ (kept : (r : ℕ) → IsLive c1.arena r → clause_at D.arena r ≡ clause_at c1.arena r) where
    kept_live : (r : ℕ) → IsLive c1.arena r → IsLive D.arena r
    kept_live r live = ap is_some (kept r live) ∙ live

    pub reason_stays : (i : ℕ) → i < length c1.trail.entries → (r : Reason) → HasReasonOf c1.arena c1.trail.entries e1 i r → HasReasonOf D.arena D.trail.entries e1 i r
    reason_stays i h why.Decision has = subst (λ x. 0 < x.level) (same_entry i h) has
    reason_stays i h (why.Clause r) has =
        let lits_same : literals_at c1.arena r ≡ literals_at D.arena r = sym (ap literals_in (kept r has.live)) in
        record {
          live = kept_live r has.live;
          has = subst (λ x. Contains (literals_at D.arena r) x.literal) (same_entry i h) (subst (λ xs. Contains xs (entry_at c1.trail.entries i).literal) lits_same has.has);
          others = subst (λ x. AreOthersFalse (take i D.trail.entries) (literals_at D.arena r) x.literal) (same_entry i h)
              (subst (λ es. AreOthersFalse es (literals_at D.arena r) (entry_at c1.trail.entries i).literal) (same_take i (omega (arith, h)))
              (subst (λ xs. AreOthersFalse (take i c1.trail.entries) xs (entry_at c1.trail.entries i).literal) lits_same has.others));
        }
    reason_stays i h (why.Row row) has =
        let same = same_entry i h in
        let same_level = ap (λ x. x.level) same in
        let low = has.level in
        record {
          named = has.named;
          is = has.is;
          implied = has.implied;
          level = omega (arith, low, same_level);
          has = subst (λ x. IsTrue (set.contains has.named.form.variables x.literal.variable)) same has.has;
          others = λ v from_1 apart is. subst (λ es. IsAssignedIn es v) (same_take i (omega (arith, h))) (has.others v from_1 (λ q. apart (q ∙ ap (λ x. x.literal.variable) same)) is);
          met = λ values agrees. has.met values (subst (λ es. (m : Literal) → IsTrueIn es m → IsTrue (literal_true values m)) (sym (same_take (suc i) (omega (arith, h)))) agrees);
          numbers = has.numbers;
          sums = has.sums;
        }

  few_then : D.tidies ≡ false → HasFewAdditions formula D.next (first_row_id D.next) 0 after
  few_then plain =
      let was = taught.ties.log.few_additions (sym (put.tidies ∙ counts.tidies) ∙ plain) in
      let rows = taught.ties.log.few_rows in
      let one = round_adds_one s c.next (integers_of lits) hints back taught.first in
      let next = put.next in
      let mark = round_counts_one s c.next (integers_of lits) hints back taught.first in
      let cost = ap (λ (k : ℕ). formula.variables * k) mark ∙ one_mark_more formula.variables s.conflicts in
      omega (arith, was, rows, one, next, mark, cost)

  -- the ties, but for what differs where the clause has one literal
  pub ties_entered : ClauseTies D.tidies formula after.moment.tables.clauses (c.next + 1) D.arena D.tidy_below (held 0 after.trail) → AreLearned D.arena after.moment.learned → AreUnits after.moment.tables.clauses (c.next + 1) D.trail after.trail D.units.items → HaveReasons D e1
      → length c1.units.items ≤ length D.units.items → Ties formula D e1 [] after
  ties_entered clauses learned units reasons more = record {
    log = record {
      ranged = subst (λ n. IsRanged formula (first_row_id n) n (first_row_id n + 0) after.trail after.moment) (sym put.next)
          (subst (λ r. IsRanged formula (first_row_id (c.next + 1)) (c.next + 1) r after.trail after.moment) (let z : first_row_id (c.next + 1) ≡ first_row_id (c.next + 1) + 0 = omega arith in z) (ranged_then formula c e lits back s taught hints));
      sums = λ n high. ap (λ table. get table n) (parities_then formula c e lits back s taught hints) ∙ t1.log.sums n high;
      numbered = subst (λ table. AreNumbered table e1.parities) (sym (parities_then formula c e lits back s taught hints)) t1.log.numbered;
      rows_told = λ i h. absurd (omega (arith, h));
      few_rows = omega arith;
      few_additions = few_then;
      none_at_0 = get_old formula c e lits back s taught hints 0 (omega arith) (λ same. let some = taught.ties.log.ranged.originals in omega (arith, same, some)) ∙ taught.ties.log.none_at_0;
      served = record {
        served = (tidy formula c e lits back s taught hints).served;
        old_clauses = (tidy formula c e lits back s taught hints).no_old_clauses;
        new_clauses = (tidy formula c e lits back s taught hints).no_new_clauses;
        old_sums = (tidy formula c e lits back s taught hints).no_old_sums;
        new_sums = (tidy formula c e lits back s taught hints).no_new_sums;
      };
    };
    clauses = subst (λ n. ClauseTies D.tidies formula after.moment.tables.clauses n D.arena D.tidy_below (held 0 after.trail)) (sym put.next) clauses;
    learned = learned;
    trail = record {
      follows = follows_then;
      variables = ap (λ t. t.variables) trail_D ∙ t1.trail.variables;
      stand = subst (λ q. AllStand q D.trail) (sym put.order) (subst (AllStand o) (sym trail_D) (stand_longer o c1.trail back l reason stands));
      phased = ap length put.phases ∙ t1.trail.phased;
    };
    units = subst (λ n. AreUnits after.moment.tables.clauses n D.trail after.trail D.units.items) (sym put.next) units;
    engine = record { vars = t1.engine.vars; wide = t1.engine.wide; theirs = t1.engine.theirs; few = t1.engine.few; fed = fed_then };
    reasons = reasons;
    counts = record {
      marked = conflicts_then formula c e lits back s taught hints ∙ sym put.conflicts;
      falling = subst (λ n. IsFallingFrom n after.moment.learned) (sym put.next)
          (subst (IsFallingFrom (c.next + 1)) (sym (learned_then formula c e lits back s taught hints)) (omega arith, taught.ties.counts.falling));
      many = let many = taught.ties.counts.many in let long = ap length (learned_then formula c e lits back s taught hints) in let is = put.learned in omega (arith, many, long, is);
      few = let few = taught.ties.counts.few in let same = stretches_then formula c e lits back s taught hints in let a = put.reductions in let b = counts.reductions in omega (arith, few, same, a, b);
    };
    ids = record {
      taken = let was = t1.ids.taken in let a = counts.next in let b = counts.conflicts in let next = put.next in let conflicts = put.conflicts in omega (arith, was, a, b, next, conflicts, more);
      counted = subst (λ n. n ≤ 10 ^ 18) (sym put.conflicts) (let few = taught.few in omega (arith, few));
      few = t1.ids.few;
    };
    levels = (tidy formula c e lits back s taught hints).levels;
  }

  -- units of before stay
  pub unit_stays : (us : List ℕ) → us ≡ c1.units.items → (i : ℕ) → i < length us
      → ((entry_at D.trail.entries i).level ≡ 0) × IsNamedBy after.moment.tables.clauses ((entry_at D.trail.entries i).literal ∷ []) (get_or us i 0)
  unit_stays us same i h =
      let few = t1.units.few in
      let long = ap length same in
      let within : i < length c1.trail.entries = omega (arith, few, long, h) in
      let less : i < length c1.units.items = omega (arith, long, h) in (
        ap (λ x. x.level) (sym (same_entry i within)) ∙ t1.units.level_0 i less,
        subst (λ x. IsNamedBy after.moment.tables.clauses (x.literal ∷ []) (get_or us i 0)) (same_entry i within)
            (subst (λ m. IsNamedBy after.moment.tables.clauses ((entry_at c1.trail.entries i).literal ∷ []) (get_or m i 0)) (sym same)
            (named_then formula c e lits back s taught hints _ (get_or c1.units.items i 0) (let low = t1.units.low i less in let next = counts.next in omega (arith, low, next)) (t1.units.named i less))),
      )
