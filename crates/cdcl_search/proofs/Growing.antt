-- What the ties say of a trail with one more literal at its end.
use Rattle.std.proofs.Common.{◌≡◌, ◌≢◌, inl, inr, refl, sym, ap, ◌∙◌, subst, ℕ, suc, ◌+◌, ◌<◌, ◌≤◌, nat_eq, List, [], ◌∷◌, ◌++◌, length, get_or, take, Contains, arith, eqb-true, Bool}
use Rattle.std.proofs.lemmas.Bool.{eqb-false}
use Rattle.std.proofs.lemmas.List.{take-append-le, length_push}
use Rattle.std.specs.Prelude.{IsTrue}
use Rattle.std.specs.FinSet as set
use Rattle.cx_base.specs.Literals.{Literal, literal_true}
use Rattle.cx_base.specs.Problem.{Problem}
use Rattle.cx_semantics.specs.Tables.{Table}
use Rattle.cx_trail.specs.declared.entry.Entry.{Entry as TrailEntry}
use Rattle.cx_trail.specs.declared.entry.Reason.{Reason}
use Rattle.cx_trail.specs.declared.entry.Reason.TheVariants as reason
use Rattle.cx_trail.specs.Sequence.{IsTrail, entry_at, pushed, IsTrueIn, IsAssignedIn}
use Rattle.clause_arena.specs.Clauses.{ArenaState, literals_at}
use Rattle.watch_lists.specs.Truths.{AreOthersFalse}
use Rattle.watch_lists.proofs.EventLaws.{fits_pushed}
use Rattle.search_policy.specs.Standing.{OrderState, AllStand}
use Rattle.parity_engine.specs.State.{State}
use Rattle.search_steps.specs.Trail.{Entry, Why, level_of, held}
use Rattle.search_steps.specs.Search.{Search, forced_on}
use Rattle.search_steps.specs.Ids.{IsRanged}
use Rattle.search_steps.specs.Tied.{IsTied}
use Rattle.conflict_learn.proofs.ChainOfResolutions.{by_cases}
use Rattle.search_steps.proofs.Bridge.{entry_last, entry_before, put_held}
use Rattle.cdcl_search.specs.declared.state.SearchState.{SearchState}
use Rattle.cdcl_search.proofs.Alike.{served_alike}
use Rattle.cdcl_search.specs.Ties.{Ties, first_row_id, IsNamedBy, IsHeld, NeedsNoLearned, ClauseTies, IsWatched, AreUnits, IsRowReasonAt, HasReasonOf, HaveReasons, IsFed}

abbrev pub put : SearchState → ℕ → Literal → Reason → SearchState
put c level l why = record c { trail = pushed c.trail level l why }

-- ---- clauses
pub held_grows : (tidies : Bool) (arena : ArenaState) (n : ℕ) (es : List Entry) (y : Entry) (clause : List Literal) → IsHeld tidies arena (held 0 es) n clause → IsHeld tidies arena (held 0 (y ∷ es)) n clause
held_grows tidies arena n es y clause (inl stored) = inl stored
held_grows tidies arena n es y clause (inr (inl both)) = inr (inl both)
held_grows tidies arena n es y clause (inr (inr (one, t))) = inr (inr (one, record { l = t.l; has_it = t.has_it; is_held = put_held 0 y es t.l t.is_held }))

needs_none_still : (arena : ArenaState) (es : List Entry) (y : Entry) (clause : List Literal) → NeedsNoLearned arena (held 0 es) clause → NeedsNoLearned arena (held 0 (y ∷ es)) clause
needs_none_still arena es y clause (inl both) = inl both
needs_none_still arena es y clause (inr (inl t)) = inr (inl (record { l = t.l; has_it = t.has_it; is_held = put_held 0 y es t.l t.is_held }))
needs_none_still arena es y clause (inr (inr stored)) = inr (inr stored)

pub clauses_grow : {tidies : Bool} {below : ℕ} (formula : Problem) (table : Table) (next : ℕ) (arena : ArenaState) (es : List Entry) (y : Entry) → ClauseTies tidies formula table next arena below (held 0 es) → ClauseTies tidies formula table next arena below (held 0 (y ∷ es))
clauses_grow {tidies} formula table next arena es y a = record {
  stored = a.stored;
  covered = λ n clause low live. held_grows tidies arena n es y clause (a.covered n clause low live);
  apart = a.apart;
  original = λ clause is. needs_none_still arena es y clause (a.original clause is);
  old = a.old;
}

-- ---- the engine
pub fed_grows : (es : List Entry) (y : Entry) (given : ℕ) (e : State) → IsFed es given e → y.level ≡ level_of es → IsFed (y ∷ es) given e
fed_grows es y given e f level = record {
  newer = y ∷ f.newer;
  older = f.older;
  parts = ap (λ ys. y ∷ ys) f.parts;
  count = f.count;
  now = (level ∙ sym f.level, f.now);
  values = f.values;
  level = f.level ∙ sym level;
}

-- ---- reasons
same_row_reason : (e : State) (old new : List TrailEntry) (i row : ℕ) → entry_at new i ≡ entry_at old i → take i new ≡ take i old → take (suc i) new ≡ take (suc i) old → IsRowReasonAt e old i row → IsRowReasonAt e new i row
same_row_reason e old new i row at before upto h = record {
  named = h.named;
  is = h.is;
  implied = h.implied;
  level = subst (λ y. h.named.level ≤ y.level) (sym at) h.level;
  has = subst (λ y. IsTrue (set.contains h.named.form.variables y.literal.variable)) (sym at) h.has;
  others = λ v low apart has. subst (λ ys. IsAssignedIn ys v) (sym before) (h.others v low (λ same. apart (same ∙ ap (λ y. y.literal.variable) (sym at))) has);
  met = λ values agrees. h.met values (subst (λ ys. (l : Literal) → IsTrueIn ys l → IsTrue (literal_true values l)) upto agrees);
  numbers = h.numbers;
  sums = h.sums;
}

module _ (c : SearchState) (level : ℕ) (l : Literal) (why : Reason) where
  abbrev pub grown : List TrailEntry
  grown = c.trail.entries ++ record { literal = l; level = level; reason = why } ∷ []

  at : (i : ℕ) → i < length c.trail.entries → entry_at grown i ≡ entry_at c.trail.entries i
  at i less = entry_before c.trail.entries (record { literal = l; level = level; reason = why }) i less

  pub at_end : entry_at grown (length c.trail.entries) ≡ record { literal = l; level = level; reason = why }
  at_end = entry_last c.trail.entries (record { literal = l; level = level; reason = why })

  pub before : (i : ℕ) → i ≤ length c.trail.entries → take i grown ≡ take i c.trail.entries
  before i few = take-append-le i c.trail.entries (record { literal = l; level = level; reason = why } ∷ []) few

  -- a place of the longer trail is the last one, or one of the shorter
  at_places : (P : ℕ → TrailEntry → Type 0) → P (length c.trail.entries) (record { literal = l; level = level; reason = why }) → ((i : ℕ) → i < length c.trail.entries → P i (entry_at c.trail.entries i))
      → (i : ℕ) → i < length grown → P i (entry_at grown i)
  at_places P last older i less = by_cases (nat_eq i (length c.trail.entries))
      (λ is. subst (λ k. P k (entry_at grown k)) (sym (eqb-true i (length c.trail.entries) is)) (subst (P (length c.trail.entries)) (sym at_end) last))
      (λ is.
      let apart : i ≢ length c.trail.entries = eqb-false i (length c.trail.entries) is in
      let long = length_push c.trail.entries (record { literal = l; level = level; reason = why }) in
      let shorter : i < length c.trail.entries = omega (arith, less, long, apart) in
      subst (P i) (sym (at i shorter)) (older i shorter))

  module _ (e : State) where
    stays : (i : ℕ) → i < length c.trail.entries → (r : Reason) → HasReasonOf c.arena c.trail.entries e i r → HasReasonOf c.arena grown e i r
    stays i less reason.Decision h = subst (λ y. 0 < y.level) (sym (at i less)) h
    stays i less (reason.Clause r) h = record {
      live = h.live;
      has = subst (λ y. Contains (literals_at c.arena r) y.literal) (sym (at i less)) h.has;
      others = subst (λ y. AreOthersFalse (take i grown) (literals_at c.arena r) y.literal) (sym (at i less))
          (subst (λ ys. AreOthersFalse ys (literals_at c.arena r) (entry_at c.trail.entries i).literal) (sym (before i (omega (arith, less)))) h.others);
    }
    stays i less (reason.Row row) h =
        same_row_reason e c.trail.entries grown i row (at i less) (before i (omega (arith, less))) (before (suc i) (omega (arith, less))) h

    pub reasons_grow : HaveReasons c e → HasReasonOf c.arena grown e (length c.trail.entries) why → HaveReasons (put c level l why) e
    reasons_grow h last i low less =
        at_places (λ i y. length c.units.items ≤ i → HasReasonOf c.arena grown e i y.reason) (λ _. last) (λ i shorter low. stays i shorter _ (h i low shorter)) i less low

  -- ---- units
  pub units_grow : (table : Table) (next : ℕ) (es : List Entry) (y : Entry) (ids : List ℕ) → AreUnits table next c.trail es ids
      → (0 < level → (i : ℕ) → length ids ≤ i → i < length c.trail.entries → 0 < (entry_at c.trail.entries i).level) → AreUnits table next (pushed c.trail level l why) (y ∷ es) ids
  units_grow table next es y ids u all = record {
    few = let few = u.few in let long = length_push c.trail.entries (record { literal = l; level = level; reason = why }) in omega (arith, few, long);
    level_0 = λ i less. subst (λ x. x.level ≡ 0) (sym (at i (let few = u.few in omega (arith, less, few)))) (u.level_0 i less);
    named = λ i less. subst (λ x. IsNamedBy table (x.literal ∷ []) (get_or ids i 0)) (sym (at i (let few = u.few in omega (arith, less, few)))) (u.named i less);
    low = u.low;
    newer = y ∷ u.newer;
    older = u.older;
    parts = ap (λ ys. y ∷ ys) u.parts;
    count = u.count;
    rest = u.rest;
    all = λ above i past less. at_places (λ i x. length ids ≤ i → 0 < x.level) (λ _. above) (λ i shorter past. all above i past shorter) i less past;
  }

  -- ---- the order
  pub stand_grows : (o : OrderState) → AllStand o c.trail → AllStand o (pushed c.trail level l why)
  stand_grows o a = record {
    variables = a.variables;
    stand = λ v low high is_open. a.stand v low high (λ i less same.
        let long = length_push c.trail.entries (record { literal = l; level = level; reason = why }) in
        is_open i (omega (arith, less, long)) (ap (λ x. x.literal.variable) (at i less) ∙ same));
  }

-- ---- a literal that is forced
module _ (formula : Problem) (c : SearchState) (e : State) (rows : List (List Literal)) (s : Search) (t : Ties formula c e rows s) (l : Literal) (cause : Reason) (why : Why) where
  -- the ties stay, with the reason that the literal was put on the trail for
  pub forced_ties : IsRanged formula (first_row_id c.next) c.next (first_row_id c.next + length rows) (forced_on s l why).trail (forced_on s l why).moment → IsTied (forced_on s l why).trail (pushed c.trail c.trail.level l cause).entries
      → IsTrail (pushed c.trail c.trail.level l cause) → HasReasonOf c.arena (grown c c.trail.level l cause) e (length c.trail.entries) cause → Ties formula (put c c.trail.level l cause) e rows (forced_on s l why)
  forced_ties ranged tied sound has = record {
    log = record { ranged = ranged; sums = t.log.sums; numbered = t.log.numbered; rows_told = t.log.rows_told; few_rows = t.log.few_rows; few_additions = t.log.few_additions; none_at_0 = t.log.none_at_0; served = served_alike s (forced_on s l why) (first_row_id c.next) (length rows) refl t.log.served };
    clauses = clauses_grow formula s.moment.tables.clauses c.next c.arena s.trail (record { literal = l; level = level_of s.trail; why = why }) t.clauses;
    learned = t.learned;
    trail = record { follows = record { tied = tied; sound = sound }; variables = t.trail.variables; stand = stand_grows c c.trail.level l cause c.order t.trail.stand; phased = t.trail.phased };
    units = units_grow c c.trail.level l cause s.moment.tables.clauses c.next s.trail (record { literal = l; level = level_of s.trail; why = why }) c.units.items t.units t.units.all;
    engine = record { vars = t.engine.vars; wide = t.engine.wide; theirs = t.engine.theirs; few = t.engine.few; fed = fed_grows s.trail (record { literal = l; level = level_of s.trail; why = why }) c.given e t.engine.fed refl };
    reasons = reasons_grow c c.trail.level l cause e t.reasons has;
    counts = record { marked = t.counts.marked; falling = t.counts.falling; many = t.counts.many; few = t.counts.few };
    ids = t.ids;
    levels = t.levels;
  }

-- the watches of a trail still fit one with a literal more
pub watched_grows : (c : SearchState) (level : ℕ) (l : Literal) (why : Reason) → c.trail.level ≤ level → IsWatched c.watches c.arena c.trail → IsWatched c.watches c.arena (pushed c.trail level l why)
watched_grows c level l why high f = record { fits = fits_pushed c.watches c.arena c.trail level l why high f.fits; all = f.all }
