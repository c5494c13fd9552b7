-- A decision opens a level, and the ties stay.
use Rattle.std.proofs.Common.{◌≡◌, ◌≢◌, refl, sym, ap, ◌∙◌, subst, ℕ, zero, suc, ◌+◌, ◌<◌, ◌≤◌, ◌||◌, Bool, true, false, List, [], ◌∷◌, length, Option, arith}
use Rattle.cx_base.specs.Literals.{Literal}
use Rattle.cx_base.specs.Problem.{Problem}
use Rattle.cx_semantics.specs.Chain.{has_literal}
use Rattle.cx_base.specs.declared.steps.LogEvent.{LogEvent}
use Rattle.search_steps.specs.Recovering.{SettledWithRecovered}
use Rattle.cx_trail.specs.declared.entry.Entry.{Entry as TrailEntry}
use Rattle.cx_trail.specs.declared.entry.Reason.TheVariants as reason
use Rattle.cx_trail.specs.Sequence.{TrailState, IsTrail, IsOpenIn, entry_at, pushed}
use Rattle.search_policy.specs.Standing.{OrderState, AllStand}
use Rattle.parity_engine.specs.State.{State}
use Rattle.parity_engine.specs.State.{pushed as opened}
use Rattle.search_steps.specs.Trail.{decided, all_held, level_of}
use Rattle.search_steps.specs.Quiet.{Quiet}
use Rattle.search_steps.specs.Search.{Search, IsSearchIn, decided_on}
use Rattle.search_steps.proofs.Bridge.{level_tied, held_is_true}
use Rattle.search_steps.proofs.CodeSteps.{decision_step_keeps}
use Rattle.search_steps.proofs.IdLaws.{decision_ranged}
use Rattle.search_steps.proofs.EndLaws.{settled_wants_no_decision}
use Rattle.search_policy.specs.declared.assumptions.Assumptions.{Assumptions}
use Rattle.cdcl_search.specs.Searching.{HasUnits}
use Rattle.cdcl_search.specs.declared.state.SearchState.{SearchState}
use Rattle.cdcl_search.specs.declared.propagation.Found.TheVariants as found
use Rattle.cdcl_search.specs.Ties.{Ties, SearchStands, IsWatched, first_row_id, IsFed}
use Rattle.cdcl_search.specs.Finds.{PropagationFinds}
use Rattle.cdcl_search.proofs.Alike.{served_alike}
use Rattle.cdcl_search.proofs.Engines.{renamed_reason, reasons_stay}
use Rattle.cdcl_search.proofs.Feeding.{tied_length}
use Rattle.cdcl_search.proofs.Following.{levels_low}
use Rattle.cdcl_search.proofs.Growing.{put, at_end, clauses_grow, units_grow, reasons_grow, stand_grows, watched_grows}
use Rattle.cdcl_search.proofs.Naming.{all_fed}
use Rattle.cdcl_search.proofs.Silence.{found_quiet}

module _ (formula : Problem) (c : SearchState) (e : State) (s : Search) (ok : IsSearchIn c.tidies formula e.parities s) (t : Ties formula c e [] s) (f : IsWatched c.watches c.arena c.trail) (finds : PropagationFinds c e found.Quiet) where
  pub is_quiet : Quiet formula.variables e.parities s.moment.tables.clauses (all_held s.trail)
  is_quiet = found_quiet formula c e s ok t f finds.0 finds.1 finds.2

  -- another order that has each unassigned variable
  pub reordered : (o : OrderState) → AllStand o c.trail → Ties formula (record c { order = o }) e [] s
  reordered o stand = record {
    log = t.log;
    clauses = t.clauses;
    learned = t.learned;
    trail = record { follows = t.trail.follows; variables = t.trail.variables; stand = stand; phased = t.trail.phased };
    units = t.units;
    engine = t.engine;
    reasons = t.reasons;
    counts = t.counts;
    ids = t.ids;
    levels = t.levels;
  }

  module _ (units : c.trail.level ≡ 0 → length c.units.items ≡ length c.trail.entries) (o : OrderState) (stand : AllStand o c.trail) (l : Literal) (is_open : IsOpenIn c.trail.entries l.variable) where
    abbrev next : SearchState
    next = record c { order = o }

    fed_now : IsFed (record { literal = l; level = suc (level_of s.trail); why = decided } ∷ s.trail) c.given (opened e)
    fed_now = record {
      newer = record { literal = l; level = suc (level_of s.trail); why = decided } ∷ [];
      older = s.trail;
      parts = refl;
      count = sym (tied_length s.trail c.trail.entries t.trail.follows.tied) ∙ sym finds.1;
      now = ((let a = t.engine.fed.level in omega (arith, a)), tt);
      values = all_fed formula c e [] s t finds.1;
      level = let a = t.engine.fed.level in omega (arith, a);
    }

    pub decided_tied : IsTrail (pushed c.trail (c.trail.level + 1) l reason.Decision)
        → IsSearchIn c.tidies formula e.parities (decided_on s l) × Ties formula (put (record c { order = o }) (c.trail.level + 1) l reason.Decision) (opened e) [] (decided_on s l)
    decided_tied sound =
        let kept = decision_step_keeps formula e.parities s ok c.trail t.trail.follows l reason.Decision is_open (levels_low formula c e [] s t) is_quiet in (
          kept.0,
          record {
            log = record {
              ranged = decision_ranged formula (first_row_id c.next) c.next (first_row_id c.next + 0) s t.log.ranged l;
              sums = t.log.sums;
              numbered = t.log.numbered;
              rows_told = t.log.rows_told;
              few_rows = t.log.few_rows;
              few_additions = t.log.few_additions;
              none_at_0 = t.log.none_at_0;
              served = served_alike s (decided_on s l) (first_row_id c.next) 0 refl t.log.served;
            };
            clauses = clauses_grow formula s.moment.tables.clauses c.next c.arena s.trail (record { literal = l; level = suc (level_of s.trail); why = decided }) t.clauses;
            learned = t.learned;
            trail = record { follows = record { tied = kept.1; sound = sound }; variables = t.trail.variables; stand = stand_grows (record c { order = o }) (c.trail.level + 1) l reason.Decision o stand; phased = t.trail.phased };
            units = units_grow (record c { order = o }) (c.trail.level + 1) l reason.Decision s.moment.tables.clauses c.next s.trail (record { literal = l; level = suc (level_of s.trail); why = decided }) c.units.items t.units (λ _ i past less. above i past less);
            engine = record { vars = t.engine.vars; wide = t.engine.wide; theirs = t.engine.theirs; few = t.engine.few; fed = fed_now };
            reasons = reasons_grow (record c { order = o }) (c.trail.level + 1) l reason.Decision (opened e)
                (reasons_stay (record c { order = o }) e (opened e) (λ i row _ h. renamed_reason e (opened e) c.trail.entries i row h h.named h.is h.implied refl refl refl refl) t.reasons)
                (subst (λ (x : TrailEntry). 0 < x.level) (sym (at_end (record c { order = o }) (c.trail.level + 1) l reason.Decision)) (omega arith));
            counts = record { marked = t.counts.marked; falling = t.counts.falling; many = t.counts.many; few = t.counts.few };
            ids = t.ids;
            levels = refl;
          },
        )
      where
        above : (i : ℕ) → length c.units.items ≤ i → i < length c.trail.entries → 0 < (entry_at c.trail.entries i).level
        above i past less = go c.trail.level refl
          where
            go : (k : ℕ) → c.trail.level ≡ k → 0 < (entry_at c.trail.entries i).level
            go zero is = absurd (let n = units is in omega (arith, n, past, less))
            go (suc k) is = t.units.all (omega (arith, is)) i past less

  -- over a formula that is settled with the recovered parities no variable is open
  pub settled_is_full : SettledWithRecovered formula → (v : ℕ) → 1 ≤ v → v ≤ formula.variables → IsOpenIn c.trail.entries v → ⊥
  settled_is_full settled v low high is_open = go (has_literal (all_held s.trail) (record { variable = v; negative = false })) refl
      (settled_wants_no_decision formula e.parities s ok is_quiet t.engine.theirs settled v low high)
    where
      none : (l : Literal) → l.variable ≡ v → has_literal (all_held s.trail) l ≡ true → ⊥
      none l same h = let r = held_is_true s.trail c.trail.entries t.trail.follows.tied l h in is_open r.0 r.1.0 (ap (λ (x : Literal). x.variable) r.1.1 ∙ same)

      go : (b : Bool) → has_literal (all_held s.trail) (record { variable = v; negative = false }) ≡ b → (b || has_literal (all_held s.trail) (record { variable = v; negative = true })) ≡ true → ⊥
      go true is h = none (record { variable = v; negative = false }) refl is
      go false is h = none (record { variable = v; negative = true }) refl h

-- ---- for the search that fits the code
module _ (formula : Problem) (c : SearchState) (e : State) (told : Option (List LogEvent)) (finds : PropagationFinds c e found.Quiet) where
  pub reordered_stands : (o : OrderState) → AllStand o c.trail → SearchStands formula c e [] told → SearchStands formula (record c { order = o }) e [] told
  reordered_stands o stand (s, ok, told_is, t, f) = (s, ok, told_is, reordered formula c e s ok t f finds o stand, f)

  pub decided_stands : (c.trail.level ≡ 0 → length c.units.items ≡ length c.trail.entries) → (o : OrderState) → AllStand o c.trail → (l : Literal) → IsOpenIn c.trail.entries l.variable
      → (trail : TrailState) → trail ≡ pushed c.trail (c.trail.level + 1) l reason.Decision → IsTrail trail → (u : State) → u ≡ opened e → SearchStands formula c e [] told → SearchStands formula (record c { trail = trail; order = o }) u [] told
  decided_stands units o stand l is_open trail is sound u engine_is (s, ok, told_is, t, f) =
      let r = decided_tied formula c e s ok t f finds units o stand l is_open (subst IsTrail is sound) in
      subst (λ (w : TrailState). SearchStands formula (record c { trail = w; order = o }) u [] told) (sym is)
      (subst (λ w. SearchStands formula (put (record c { order = o }) (c.trail.level + 1) l reason.Decision) w [] told) (sym engine_is) (decided_on s l, r.0, told_is, r.1, watched_grows c (c.trail.level + 1) l reason.Decision (omega arith) f))

  pub settled_has_no_open : SearchStands formula c e [] told → SettledWithRecovered formula → (v : ℕ) → 1 ≤ v → v ≤ c.trail.variables → IsOpenIn c.trail.entries v → ⊥
  settled_has_no_open (s, ok, told_is, t, f) settled v low high is_open = let n = t.trail.variables in settled_is_full formula c e s ok t f finds settled v low (omega (arith, high, n)) is_open

  -- where some variable is open the engine can open a level
  pub has_room : SearchStands formula c e [] told → length c.trail.entries ≢ c.trail.variables → e.level < e.vars
  has_room (s, ok, told_is, t, f) apart =
      let a = t.engine.fed.level in
      let b = level_tied s.trail c.trail t.trail.follows.tied t.trail.follows.sound in
      let deep = t.trail.follows.sound.deep in
      let short = t.trail.follows.sound.short in
      let n = t.trail.variables in
      let m = t.engine.vars in
      let some : length c.trail.entries ≢ c.trail.variables = apart in
      omega (arith, a, b, deep, short, n, m, some)

  pub variables_are_scored : SearchStands formula c e [] told → length c.order.scores ≡ c.trail.variables
  variables_are_scored (s, ok, told_is, t, f) = t.trail.stand.variables

-- where each literal of the trail is checked, all of level 0 have unit clauses
pub all_have_units : (formula : Problem) (c : SearchState) (e : State) (told : Option (List LogEvent)) → SearchStands formula c e [] told → (a : Assumptions) → a.checked ≡ length c.trail.entries → HasUnits c a
    → c.trail.level ≡ 0 → length c.units.items ≡ length c.trail.entries
all_have_units formula c e told (s, ok, told_is, t, f) a checked units zero_level = let many = units zero_level in let few = t.units.few in omega (arith, many, few, checked)
