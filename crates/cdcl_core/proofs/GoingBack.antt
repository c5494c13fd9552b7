-- Going back to a lower level keeps the ties.
use Rattle.std.proofs.Common.{◌≡◌, refl, sym, ap, ◌∙◌, subst, ℕ, zero, suc, ◌+◌, ◌-◌, ◌<◌, ◌≤◌, ◌^◌, Bool, true, false, not, cond, ◌&&◌, nat_le, List, [], ◌∷◌, ◌++◌, length, take, get_or, Some, None, Option, inl, inr, arith, length-append, Contains}
use Rattle.std.proofs.lemmas.Bool.{le-leb}
use Rattle.std.proofs.lemmas.List.{take-append-le, length-map}
use Rattle.std.proofs.Math.ListN.{get_or-map}
use Rattle.std.specs.List.{AllByRecursion}
use Rattle.cx_base.specs.Literals.{Literal}
use Rattle.cx_base.specs.Problem.{Problem}
use Rattle.cx_trail.specs.declared.entry.Reason.{Reason}
use Rattle.cx_trail.specs.declared.entry.Reason.TheVariants as reason
use Rattle.cx_trail.specs.Sequence.{TakesBack, entry_at, no_entry, IsTrail as IsCodeTrail}
use Rattle.cx_trail.proofs.ValueLaws.{entry_kept}
use Rattle.clause_arena.specs.Clauses.{IsLive, literals_at}
use Rattle.watch_lists.specs.Watching.{Fits}
use Rattle.watch_lists.proofs.EventLaws.{fits_back}
use Rattle.search_policy.specs.Standing.{AllStand}
use Rattle.parity_engine.specs.State.{State, Named, named_at, keep, keep_named, back}
use Rattle.search_steps.specs.Trail.{Entry, back_to, level_of, held}
use Rattle.search_steps.specs.Quiet.{IsOfParities}
use Rattle.search_steps.specs.Search.{Search, IsSearchIn, jumped}
use Rattle.search_steps.specs.Tied.{IsTied}
use Rattle.search_steps.specs.Ids.{IsRanged}
use Rattle.search_steps.specs.Size.{HasFewAdditions}
use Rattle.search_steps.proofs.TrailLaws.{held_back, back_level}
use Rattle.search_steps.proofs.CodeSteps.{tied_back}
use Rattle.search_steps.proofs.Bridge.{level_tied}
use Rattle.search_steps.proofs.IdLaws.{jump_ranged}
use Rattle.search_steps.proofs.EngineLaws.{back_holds_values, lagging_back}
use Rattle.search_steps.proofs.OverSearch.{older_is_trail}
use Rattle.cdcl_search.specs.declared.state.SearchState.{SearchState}
use Rattle.cdcl_search.specs.Ties.{Ties, IsWatched, ClauseTies, AreLearned, AreRows, AreUnits, CountTies, HasReasonOf, stretches, first_row_id, row_ids, IsNamedBy, IsFed}
use Rattle.cdcl_search.proofs.Places.{entry_behind, tied_length, older_level, older_stay}

-- the engine is at the trail's level
pub above_too : (formula : Problem) (k : ℕ) (c : SearchState) (e : State) (rows : List (List Literal)) (s : Search) → Ties formula c e rows s → k < c.trail.level → k < e.level
above_too formula k c e rows s t low = let now = t.engine.fed.level in let same = level_tied s.trail c.trail t.trail.follows.tied t.trail.follows.sound in omega (arith, now, same, low)

-- what the code does
pub record GoesBack (k : ℕ) (c d : SearchState) (e f : State) : Type 0 where
  pub lower : k < c.trail.level
  pub takes : TakesBack k c.trail d.trail
  pub sound : IsCodeTrail d.trail
  pub arena : d.arena ≡ c.arena
  pub watches : d.watches ≡ record c.watches { looked = take (k + 1) c.watches.looked }
  pub stand : AllStand d.order d.trail
  pub phases : length d.phases.items ≡ length c.phases.items
  pub units : d.units.items ≡ c.units.items
  pub next : d.next ≡ c.next
  pub given : d.given ≡ length d.trail.entries
  pub conflicts : d.conflicts ≡ c.conflicts
  pub learned : d.learned ≡ c.learned
  pub reductions : d.reductions ≡ c.reductions
  pub tidies : d.tidies ≡ c.tidies
  pub tidy_below : d.tidy_below ≡ c.tidy_below
  pub engine : f ≡ back k e

named_kept : (k : ℕ) (o : Option Named) (n : Named) → o ≡ Some n → n.in_conflict ≡ false → n.level ≤ k → keep_named k o ≡ Some n
named_kept k o n is calm low = ap (keep_named k) is ∙ ap (λ b. cond (not b && nat_le n.level k) (Some n) None) calm ∙ ap (λ b. cond b (Some n) None) (le-leb n.level k low)

module _ (formula : Problem) (k : ℕ) (c d : SearchState) (e f : State) (rows : List (List Literal)) (s : Search) (ok : IsSearchIn c.tidies formula e.parities s) (t : Ties formula c e rows s) (g : GoesBack k c d e f) where
  abbrev IsRow : List Literal → Type 0
  IsRow = IsOfParities formula.variables e.parities

  level_now : level_of s.trail ≡ c.trail.level
  level_now = level_tied s.trail c.trail t.trail.follows.tied t.trail.follows.sound

  level_then : level_of (back_to k s.trail) ≡ k
  level_then = let low = g.lower in let now = level_now in back_level s.moment.tables.clauses IsRow k s.trail ok.serves.stands (omega (arith, low, now))

  tied_then : IsTied (back_to k s.trail) d.trail.entries
  tied_then = tied_back k s.trail c.trail d.trail g.takes t.trail.follows.tied

  -- ---- places
  shorter : length d.trail.entries ≤ length c.trail.entries
  shorter = let p = ap length g.takes.parts in let a = length-append d.trail.entries g.takes.dropped in omega (arith, p, a)

  same_entry : (i : ℕ) → i < length d.trail.entries → entry_at c.trail.entries i ≡ entry_at d.trail.entries i
  same_entry i h = ap (λ xs. entry_at xs i) g.takes.parts ∙ entry_kept d.trail.entries g.takes.dropped i h

  same_take : (i : ℕ) → i ≤ length d.trail.entries → take i c.trail.entries ≡ take i d.trail.entries
  same_take i h = ap (take i) g.takes.parts ∙ take-append-le i d.trail.entries g.takes.dropped h

  low_stays : (i : ℕ) → i < length c.trail.entries → (entry_at c.trail.entries i).level ≤ k → i < length d.trail.entries
  low_stays i h low = elim (Rattle.std.proofs.Common.nat_lt i (length d.trail.entries)) as (λ b. Rattle.std.proofs.Common.nat_lt i (length d.trail.entries) ≡ b → i < length d.trail.entries) [
    | true ↦ λ q. Rattle.std.proofs.lemmas.Bool.ltb-true i (length d.trail.entries) q
    | false ↦ λ q.
        let far = Rattle.std.proofs.lemmas.Bool.ltb-false i (length d.trail.entries) q in
        let j = i - length d.trail.entries in
        let is : length d.trail.entries + j ≡ i = omega (arith, far) in
        let p = ap length g.takes.parts in
        let a = length-append d.trail.entries g.takes.dropped in
        let at : entry_at c.trail.entries i ≡ entry_at g.takes.dropped j = ap (λ xs. entry_at xs i) g.takes.parts ∙ entry_behind d.trail.entries g.takes.dropped i j (sym is) in
        let high = g.takes.dropped_high j no_entry (omega (arith, is, h, p, a)) in
        let same = ap (λ x. x.level) at in
        absurd (omega (arith, high, same, low))
  ] refl

  -- ---- clauses
  -- level 0 stays, and so do the arena, what is attached, and the next id
  clauses_then : ClauseTies d.tidies formula s.moment.tables.clauses d.next d.arena d.tidy_below (held 0 (back_to k s.trail))
  clauses_then = subst (λ x. ClauseTies x formula s.moment.tables.clauses d.next d.arena d.tidy_below (held 0 (back_to k s.trail))) (sym g.tidies)
      (subst (λ n. ClauseTies c.tidies formula s.moment.tables.clauses n d.arena d.tidy_below (held 0 (back_to k s.trail))) (sym g.next)
      (subst (λ a. ClauseTies c.tidies formula s.moment.tables.clauses c.next a d.tidy_below (held 0 (back_to k s.trail))) (sym g.arena)
      (subst (λ n. ClauseTies c.tidies formula s.moment.tables.clauses c.next c.arena n (held 0 (back_to k s.trail))) (sym g.tidy_below)
      (subst (λ ls. ClauseTies c.tidies formula s.moment.tables.clauses c.next c.arena c.tidy_below ls) (sym (held_back 0 k s.trail (omega arith))) t.clauses))))

  -- ---- units
  unit_places : (i : ℕ) → i < length c.units.items → i < length d.trail.entries
  unit_places i h =
      let few = t.units.few in
      let low = t.units.level_0 i h in
      low_stays i (omega (arith, h, few)) (omega (arith, low))

  few_units : length c.units.items ≤ length d.trail.entries
  few_units = by_last (length c.units.items) refl
    where
      by_last : (n : ℕ) → n ≡ length c.units.items → n ≤ length d.trail.entries
      by_last zero is = omega arith
      by_last (suc n) is = let less = unit_places n (omega (arith, is)) in omega (arith, less)

  older_low : (x : Entry) (rest : List Entry) → t.units.older ≡ x ∷ rest → x.level ≤ k
  older_low x rest is =
      let many : length (x ∷ rest) ≡ length c.units.items = ap length (sym is) ∙ t.units.count in
      let at = older_level t.units.newer rest x c.trail.entries (subst (λ es. IsTied es c.trail.entries) (t.units.parts ∙ ap (λ ys. t.units.newer ++ ys) is) t.trail.follows.tied) in
      let zero_level = t.units.level_0 (length rest) (omega (arith, many)) in
      omega (arith, at, zero_level)

  units_then : AreUnits s.moment.tables.clauses c.next d.trail (back_to k s.trail) c.units.items
  units_then =
      let r = older_stay k t.units.newer t.units.older older_low in
      record {
        few = few_units;
        level_0 = λ i h. ap (λ x. x.level) (sym (same_entry i (unit_places i h))) ∙ t.units.level_0 i h;
        named = λ i h. subst (λ x. IsNamedBy s.moment.tables.clauses (x.literal ∷ []) (get_or c.units.items i 0)) (same_entry i (unit_places i h)) (t.units.named i h);
        low = t.units.low;
        newer = r.0;
        older = t.units.older;
        parts = ap (back_to k) t.units.parts ∙ r.1;
        count = t.units.count;
        rest = t.units.rest;
        all = λ above i h within. let more = shorter in let low = g.lower in
            subst (λ x. 0 < x.level) (same_entry i within) (t.units.all (omega (arith, low)) i h (omega (arith, within, more)));
      }

  -- ---- the engine
  newer_are_now : (xs : List Entry) → AllByRecursion (λ x. x.level ≡ e.level) xs → (x : Entry) → Contains xs x → k < x.level
  newer_are_now xs all x has =
      let at : x.level ≡ e.level = member xs all x has in
      let now = t.engine.fed.level ∙ level_now in
      let low = g.lower in
      omega (arith, at, now, low)
    where
      member : (xs : List Entry) → AllByRecursion (λ x. x.level ≡ e.level) xs → (x : Entry) → Contains xs x → x.level ≡ e.level
      member [] all x (n, h, is) = absurd (omega (arith, h))
      member (y ∷ ys) all x (zero, h, is) = ap (λ z. z.level) (sym is) ∙ all.0
      member (y ∷ ys) all x (suc n, h, is) = member ys all.1 x (n, omega (arith, h), is)

  fed_back : back_to k s.trail ≡ back_to k t.engine.fed.older
  fed_back = ap (back_to k) t.engine.fed.parts ∙ lagging_back k t.engine.fed.newer t.engine.fed.older (newer_are_now t.engine.fed.newer t.engine.fed.now)

  older_stands : Rattle.search_steps.specs.Trail.IsTrail s.moment.tables.clauses IsRow t.engine.fed.older
  older_stands = older_is_trail s.moment.tables.clauses IsRow t.engine.fed.newer t.engine.fed.older (subst (Rattle.search_steps.specs.Trail.IsTrail s.moment.tables.clauses IsRow) t.engine.fed.parts ok.serves.stands)

  fed_then : IsFed (back_to k s.trail) (length d.trail.entries) (back k e)
  fed_then = record {
    newer = [];
    older = back_to k s.trail;
    parts = refl;
    count = tied_length (back_to k s.trail) d.trail.entries tied_then;
    now = tt;
    values = subst (λ es. Rattle.search_steps.specs.Engine.HoldsValues es (back k e).values) (sym fed_back) (back_holds_values e t.engine.fed.older t.engine.fed.values s.moment.tables.clauses IsRow older_stands k);
    level = sym level_then;
  }

  -- ---- reasons
  reason_then : (i : ℕ) → i < length d.trail.entries → (r : Reason) → HasReasonOf c.arena c.trail.entries e i r → HasReasonOf d.arena d.trail.entries (back k e) i r
  reason_then i h reason.Decision has = subst (λ x. 0 < x.level) (same_entry i h) has
  reason_then i h (reason.Clause r) has = record {
    live = subst (λ a. IsLive a r) (sym g.arena) has.live;
    has = subst (λ x. Contains (literals_at d.arena r) x.literal) (same_entry i h) (subst (λ a. Contains (literals_at a r) (entry_at c.trail.entries i).literal) (sym g.arena) has.has);
    others = subst (λ x. Rattle.watch_lists.specs.Truths.AreOthersFalse (take i d.trail.entries) (literals_at d.arena r) x.literal) (same_entry i h)
        (subst (λ es. Rattle.watch_lists.specs.Truths.AreOthersFalse es (literals_at d.arena r) (entry_at c.trail.entries i).literal) (same_take i (omega (arith, h)))
        (subst (λ a. Rattle.watch_lists.specs.Truths.AreOthersFalse (take i c.trail.entries) (literals_at a r) (entry_at c.trail.entries i).literal) (sym g.arena) has.others));
  }
  reason_then i h (reason.Row row) has =
      let same = same_entry i h in
      let same_level = ap (λ x. x.level) same in
      let low = has.level in
      let kept = g.takes.kept_low i no_entry h in
      record {
        named = has.named;
        is = get_or-map (keep_named k) e.named row None ∙ named_kept k (named_at e row) has.named has.is has.implied (omega (arith, low, same_level, kept));
        implied = has.implied;
        level = omega (arith, low, same_level);
        has = subst (λ x. Rattle.std.specs.Prelude.IsTrue (Rattle.std.specs.FinSet.contains has.named.form.variables x.literal.variable)) same has.has;
        others = λ v from_1 apart is. subst (λ es. Rattle.cx_trail.specs.Sequence.IsAssignedIn es v) (same_take i (omega (arith, h))) (has.others v from_1 (λ q. apart (q ∙ ap (λ x. x.literal.variable) same)) is);
        met = λ values agrees. has.met values (subst (λ es. (l : Literal) → Rattle.cx_trail.specs.Sequence.IsTrueIn es l → Rattle.std.specs.Prelude.IsTrue (Rattle.cx_base.specs.Literals.literal_true values l)) (sym (same_take (suc i) (omega (arith, h)))) agrees);
        numbers = has.numbers;
        sums = has.sums;
      }

  -- ---- counts
  counts_then : CountTies d.next d.conflicts d.learned d.reductions (jumped s k)
  counts_then = subst (λ n. CountTies n d.conflicts d.learned d.reductions (jumped s k)) (sym g.next)
      (record { marked = t.counts.marked ∙ sym g.conflicts; falling = t.counts.falling; many = subst (λ n. n ≤ length s.moment.learned) (sym g.learned) t.counts.many; few = subst (λ n. stretches s.moment ≤ n) (sym g.reductions) t.counts.few })

  -- ---- the whole
  pub units_are_all : k ≡ 0 → length c.units.items ≡ length d.trail.entries
  units_are_all low = elim (Rattle.std.proofs.Common.nat_lt (length c.units.items) (length d.trail.entries)) as (λ b. Rattle.std.proofs.Common.nat_lt (length c.units.items) (length d.trail.entries) ≡ b → length c.units.items ≡ length d.trail.entries) [
    | true ↦ λ q.
        let i = length c.units.items in
        let less = Rattle.std.proofs.lemmas.Bool.ltb-true i (length d.trail.entries) q in
        let more = shorter in
        let below = g.lower in
        let high = t.units.all (omega (arith, below)) i (omega arith) (omega (arith, less, more)) in
        let kept = g.takes.kept_low i no_entry less in
        let same = ap (λ x. x.level) (same_entry i less) in
        absurd (omega (arith, high, kept, same, low))
    | false ↦ λ q. let far = Rattle.std.proofs.lemmas.Bool.ltb-false (length c.units.items) (length d.trail.entries) q in let few = few_units in omega (arith, far, few)
  ] refl

  pub ties_then : Ties formula d f rows (jumped s k)
  ties_then = subst (λ x. Ties formula d x rows (jumped s k)) (sym g.engine) (record {
    log = record {
      ranged = subst (λ n. IsRanged formula (first_row_id n) n (first_row_id n + length rows) (back_to k s.trail) s.moment) (sym g.next) (jump_ranged formula (first_row_id c.next) c.next (first_row_id c.next + length rows) s t.log.ranged k);
      sums = t.log.sums;
      numbered = t.log.numbered;
      rows_told = subst (λ n. AreRows s.moment.tables.clauses (first_row_id n) rows) (sym g.next) t.log.rows_told;
      few_rows = t.log.few_rows;
      few_additions = λ plain. subst (λ n. HasFewAdditions formula n (first_row_id n) (length rows) (jumped s k)) (sym g.next) (t.log.few_additions (sym g.tidies ∙ plain));
      none_at_0 = t.log.none_at_0;
      served = record { served = t.log.served.served; old_clauses = t.log.served.old_clauses; new_clauses = t.log.served.new_clauses ∙ ap (λ n. row_ids (first_row_id n) (length rows)) (sym g.next); old_sums = t.log.served.old_sums; new_sums = t.log.served.new_sums };
    };
    clauses = clauses_then;
    learned = subst (λ a. AreLearned a s.moment.learned) (sym g.arena) t.learned;
    trail = record { follows = record { tied = tied_then; sound = g.sound }; variables = g.takes.variables ∙ t.trail.variables; stand = g.stand; phased = g.phases ∙ t.trail.phased };
    units = subst (λ n. AreUnits s.moment.tables.clauses n d.trail (back_to k s.trail) d.units.items) (sym g.next) (subst (AreUnits s.moment.tables.clauses c.next d.trail (back_to k s.trail)) (sym g.units) units_then);
    engine = record { vars = t.engine.vars; wide = length-map e.values (keep k) ∙ t.engine.wide; theirs = t.engine.theirs; few = t.engine.few; fed = subst (λ n. IsFed (back_to k s.trail) n (back k e)) (sym g.given) fed_then };
    reasons = λ i far within. reason_then i within (entry_at d.trail.entries i).reason
        (subst (λ x. HasReasonOf c.arena c.trail.entries e i x.reason) (same_entry i within) (let more = shorter in t.reasons i (subst (λ us. length us ≤ i) g.units far) (omega (arith, within, more))));
    counts = counts_then;
    ids = record { taken = let was = t.ids.taken in let next = g.next in let conflicts = g.conflicts in let units = ap length g.units in omega (arith, was, next, conflicts, units); counted = subst (λ n. n ≤ 10 ^ 18) (sym g.conflicts) t.ids.counted; few = t.ids.few };
    levels = sym level_then;
  })

  pub watched_then : IsWatched c.watches c.arena c.trail → IsWatched d.watches d.arena d.trail
  watched_then is = record {
    fits = subst (λ w. Fits w d.arena d.trail) (sym g.watches) (subst (λ a. Fits (record c.watches { looked = take (k + 1) c.watches.looked }) a d.trail) (sym g.arena) (fits_back c.watches c.arena c.trail d.trail k g.takes is.fits));
    all = λ r live. ap (λ w. get_or w.attached r false) g.watches ∙ is.all r (subst (λ a. IsLive a r) g.arena live);
  }
