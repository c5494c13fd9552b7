-- Units that arose come onto the trail at level 0, one after another, and what holds when none waits.
use Rattle.std.proofs.Common.{◌≡◌, refl, sym, ap, ◌∙◌, subst, ℕ, zero, suc, ◌+◌, ◌<◌, ◌≤◌, Bool, true, true≢false, cond, List, [], ◌∷◌, ◌++◌, length, drop, drop-cons, get_or, Option, inl, inr, arith, length-append}
use Rattle.std.proofs.lemmas.Bool.{le-leb}
use Rattle.std.proofs.lemmas.List.{length_push}
use Rattle.std.proofs.lemmas.List.Elements.{All-contains}
use Rattle.std.specs.Global.{Vec}
use Rattle.std.specs.List.{All}
use Rattle.cx_base.specs.Literals.{Literal, negate}
use Rattle.cx_base.specs.Problem.{Problem, AreWithin}
use Rattle.cx_base.specs.declared.steps.LogEvent.{LogEvent}
use Rattle.cx_semantics.specs.Chain.{has_literal}
use Rattle.cx_semantics.specs.Tables.{Table}
use Rattle.cx_semantics.proofs.Members.{has_at_head, has_either, has_left, has_right, has_split}
use Rattle.cx_trail.specs.declared.entry.Reason.{Reason}
use Rattle.cx_trail.specs.Sequence.{IsFalseIn, IsOpenIn, IsTrail, IsTrueIn, StandsAt, TrailState, pushed}
use Rattle.clause_arena.specs.Clauses.{ArenaState, literals_at}
use Rattle.clause_tidy.specs.Agreeing.{AreProper}
use Rattle.clause_tidy.specs.Taking.{Lists}
use Rattle.watch_lists.specs.Watching.{WatchState}
use Rattle.parity_engine.specs.State.{State}
use Rattle.search_steps.specs.Quiet.{HasTrue}
use Rattle.search_steps.specs.Search.{Search, IsSearchIn, forced_on}
use Rattle.search_steps.specs.Tied.{IsTied}
use Rattle.search_steps.specs.Trail.{Entry, by_clause, held, level_of}
use Rattle.search_steps.proofs.Bridge.{level_tied, put_held, to_held}
use Rattle.search_steps.proofs.CodeSteps.{clause_step_keeps}
use Rattle.search_steps.proofs.IdLaws.{force_ranged}
use Rattle.search_steps.proofs.Stored.{of_has}
use Rattle.cdcl_search.specs.declared.state.SearchState.{SearchState}
use Rattle.cdcl_search.specs.Tells.{IsId}
use Rattle.cdcl_search.specs.Ties.{AreUnits, ClauseTies, IsHeld, IsWatched, NeedsNoLearned, RestOnUnits, SearchStands, first_row_id}
use Rattle.cdcl_search.proofs.Growing.{fed_grows, stand_grows, watched_grows}
use Rattle.cdcl_search.proofs.LowIds.{has_ids, named_is_id, units_are_ids}
use Rattle.cdcl_search.proofs.Places.{tied_length}
use Rattle.cdcl_search.proofs.RowSteps.{within_by}
use Rattle.cdcl_search.proofs.UnitHints.{unit_hints_are_right}
use Rattle.cdcl_core.specs.Concluding.{IsRefutable}
use Rattle.cdcl_core.specs.Tidying.{IsAtRestart, IsWaitingUnit, StandsBeside, StaysAtRestart, TiesBeside, learned_count}
use Rattle.cdcl_core.proofs.EndingLaws.{no_newer}
use Rattle.cdcl_core.proofs.WaitingLaws.{one_forces, one_more_unit}

-- ---- what level 0 makes true
clauses_fixed : {below : ℕ} (tidies : Bool) (formula : Problem) (table : Table) (next : ℕ) (arena : ArenaState) (fixed more : List Literal) → ((l : Literal) → has_literal fixed l ≡ true → has_literal more l ≡ true)
    → ClauseTies tidies formula table next arena below fixed → ClauseTies tidies formula table next arena below more
clauses_fixed tidies formula table next arena fixed more f t = record {
  stored = t.stored;
  covered = λ n clause low is. held_by n clause (t.covered n clause low is);
  apart = t.apart;
  original = λ clause is. needs_by clause (t.original clause is);
  old = t.old;
}
  where
    true_by : (clause : List Literal) → HasTrue fixed clause → HasTrue more clause
    true_by clause h = record { l = h.l; has_it = h.has_it; is_held = f h.l h.is_held }

    held_by : (n : ℕ) (clause : List Literal) → IsHeld tidies arena fixed n clause → IsHeld tidies arena more n clause
    held_by n clause (inl there) = inl there
    held_by n clause (inr (inl both)) = inr (inl both)
    held_by n clause (inr (inr (one, h))) = inr (inr (one, true_by clause h))

    needs_by : (clause : List Literal) → NeedsNoLearned arena fixed clause → NeedsNoLearned arena more clause
    needs_by clause (inl both) = inl both
    needs_by clause (inr (inl h)) = inr (inl (true_by clause h))
    needs_by clause (inr (inr stored)) = inr (inr stored)

-- a unit after the first one
later : (l m : Literal) (n k : ℕ) (units : List Literal) (ids : List ℕ) → Lists units ids m k → Lists (l ∷ units) (n ∷ ids) m k
later l m n k units ids (i, less, lit, id) = (suc i, omega (arith, less), lit, id)

-- the unit at a place, and those after it
pub at_place : (formula : Problem) (c : SearchState) (e : State) (units : List Literal) (ids : List ℕ) (told : Option (List LogEvent)) (place : ℕ) (l : Literal) (n : ℕ) → place < length units → length ids ≡ length units → l ≡ get_or units place l → n ≡ get_or ids place 0
    → StandsBeside formula c e (drop place units) (drop place ids) told → StandsBeside formula c e (l ∷ drop (place + 1) units) (n ∷ drop (place + 1) ids) told
at_place formula c e units ids told place l n less each lit id st =
    let next : suc place ≡ place + 1 = omega arith in
    subst (λ us. StandsBeside formula c e us (n ∷ drop (place + 1) ids) told) (drop-cons units place l less ∙ ap (λ x. x ∷ drop (suc place) units) (sym lit) ∙ ap (λ j. l ∷ drop j units) next)
    (subst (λ ns. StandsBeside formula c e (drop place units) ns told) (drop-cons ids place 0 (omega (arith, less, each)) ∙ ap (λ x. x ∷ drop (suc place) ids) (sym id) ∙ ap (λ j. n ∷ drop j ids) next) st)

drop_past : {X : Type 0} (xs : List X) (place : ℕ) → length xs ≤ place → drop place xs ≡ []
drop_past [] zero far = refl
drop_past [] (suc place) far = refl
drop_past (x ∷ xs) zero far = absurd (omega (arith, far))
drop_past (x ∷ xs) (suc place) far = drop_past xs place (omega (arith, far))

pub none_behind : (formula : Problem) (c : SearchState) (e : State) (units : List Literal) (ids : List ℕ) (told : Option (List LogEvent)) (place : ℕ) → length units ≤ place → length ids ≡ length units → StandsBeside formula c e (drop place units) (drop place ids) told → StandsBeside formula c e [] [] told
none_behind formula c e units ids told place far each st =
    subst (λ us. StandsBeside formula c e us [] told) (drop_past units place far) (subst (λ ns. StandsBeside formula c e (drop place units) ns told) (drop_past ids place (omega (arith, far, each))) st)

-- what the code holds with one unit more
abbrev pub with_unit : SearchState → Vec ℕ → TrailState → SearchState
with_unit c units trail = record c { trail = trail; units = units }

-- ---- the next unit
module _ (formula : Problem) (c : SearchState) (e : State) (l : Literal) (n : ℕ) (units : List Literal) (ids : List ℕ) (told : Option (List LogEvent)) (st : StandsBeside formula c e (l ∷ units) (n ∷ ids) told) (at : IsAtRestart c) where
  abbrev s : Search
  s = st.0

  abbrev t : TiesBeside formula c e (l ∷ units) (n ∷ ids) s
  t = st.3

  abbrev table : Table
  table = s.moment.tables.clauses

  pub waits : IsWaitingUnit formula table c.next l n
  waits = t.waiting l n (0, omega arith, refl, refl)

  long : length s.trail ≡ length c.trail.entries
  long = tied_length s.trail c.trail.entries t.trail.follows.tied

  rest : RestOnUnits c.units.items s.trail
  rest = subst (RestOnUnits c.units.items)
      (no_newer t.units_told.newer t.units_told.older s.trail t.units_told.parts (let a = long in let count = t.units_told.count in let every = at.units in omega (arith, a, count, every))) t.units_told.rest

  -- far below the highest id
  next_low : c.next ≤ 1000000005000000000
  next_low =
      let taken = t.ids_few.taken in
      let counted : c.conflicts ≤ 1000000000000000000 = t.ids_few.counted in
      let few = t.ids_few.few in
      let told_units = t.units_told.few in
      let short = t.trail.follows.sound.short in
      let vars : c.trail.variables ≤ 268435455 = t.trail.follows.sound.few in
      omega (arith, taken, counted, few, told_units, short, vars)

  pub unit_is_id : IsId n
  unit_is_id = let low = waits.low in let next = next_low in named_is_id table (l ∷ []) n t.log.none_at_0 (omega (arith, low, next)) waits.named

  pub units_are : All IsId c.units.items
  units_are = units_are_ids table c.next c.trail s.trail c.units.items t.log.none_at_0 (let next = next_low in omega (arith, next)) t.units_told

  -- it is true already
  true_now : IsTrueIn c.trail.entries l → has_literal (held 0 s.trail) l ≡ true
  true_now (i, (less, is)) = ap (has_literal (held 0 s.trail)) (sym is)
      ∙ to_held 0 s.trail c.trail.entries t.trail.follows.tied i less (let low = t.trail.follows.sound.levels i less in let level = at.level in omega (arith, low, level))

  pub true_is_put : IsTrueIn c.trail.entries l → StandsBeside formula c e units ids told
  true_is_put h = (
    s,
    st.1,
    st.2,
    record {
      log = t.log;
      clauses = clauses_fixed c.tidies formula table c.next c.arena ((l ∷ units) ++ held 0 s.trail) (units ++ held 0 s.trail)
          (λ m has. elim (has_split l (units ++ held 0 s.trail) m has) [
            | inl is ↦ has_right units (held 0 s.trail) m (subst (λ x. has_literal (held 0 s.trail) x ≡ true) (sym is) (true_now h))
            | inr more ↦ more
          ]) t.clauses;
      waiting = λ m k lists. t.waiting m k (later l m n k units ids lists);
      learned = t.learned;
      trail = t.trail;
      units_told = t.units_told;
      engine = t.engine;
      counts = t.counts;
      ids_few = t.ids_few;
      levels = t.levels;
    },
  )

  -- it is false
  pub false_is_refutable : IsFalseIn c.trail.entries l → IsRefutable formula c (l ∷ []) n told
  false_is_refutable h = λ hints are. (
    (let some = t.log.ranged.originals in omega (arith, some), let next = next_low in omega (arith, next)),
    (
      s,
      st.2,
      record {
        parities = e.parities;
        search = st.1;
        hinted = unit_hints_are_right table c.next c s.trail t.units_told (l ∷ []) n hints waits.named are []
            (λ m has. elim (has_split l [] m has) [
              | inl is ↦ inr (h.0, (let less = h.1.0 in let every = at.units in omega (arith, less, every)), subst (λ x. StandsAt c.trail.entries (negate x) h.0) (sym is) h.1)
              | inr none ↦ absurd (true≢false (sym none))
            ]);
        free = t.log.ranged.free c.next (omega arith) (omega arith);
        served = t.log.served.served;
        conflicts = t.counts.marked;
        few_additions = λ plain. absurd (true≢false (sym at.tidies ∙ plain));
      },
    ),
  )

  -- it is put on the trail
  module _ (is_open : IsOpenIn c.trail.entries l.variable) (why : Reason) where
    abbrev entry : Entry
    entry = record { literal = l; level = level_of s.trail; why = by_clause n }

    abbrev after : Search
    after = forced_on s l (by_clause n)

    level_0 : level_of s.trail ≡ 0
    level_0 = level_tied s.trail c.trail t.trail.follows.tied t.trail.follows.sound ∙ at.level

    keeps : IsSearchIn c.tidies formula e.parities after × IsTied after.trail (pushed c.trail c.trail.level l why).entries
    keeps = clause_step_keeps formula e.parities s st.1 c.trail t.trail.follows l why is_open n waits.named.clause
        (let quiet = t.levels in let zero_now = level_0 in let level = at.level in omega (arith, quiet, zero_now, level)) waits.named.live (one_forces c.trail.entries waits.named.clause l waits.named.same)

    head_held : has_literal (held 0 after.trail) l ≡ true
    head_held =
        ap (λ b. has_literal (cond b (l ∷ held 0 s.trail) (held 0 s.trail)) l) (le-leb (level_of s.trail) 0 (let zero_now = level_0 in omega (arith, zero_now)))
        ∙ has_at_head l (held 0 s.trail)

    units_then : AreUnits table c.next (pushed c.trail c.trail.level l why) after.trail (c.units.items ++ n ∷ [])
    units_then = one_more_unit table c.trail s.trail c.units.items c.next t.units_told at.units c.trail.level at.level l why n entry refl rest long waits.named waits.low

    still_has : (m : Literal) → has_literal ((l ∷ units) ++ held 0 s.trail) m ≡ true → has_literal (units ++ held 0 after.trail) m ≡ true
    still_has m has = elim (has_split l (units ++ held 0 s.trail) m has) [
      | inl is ↦ has_right units (held 0 after.trail) m (subst (λ x. has_literal (held 0 after.trail) x ≡ true) (sym is) head_held)
      | inr more ↦ elim (has_either units (held 0 s.trail) m more) [
        | inl first ↦ has_left units (held 0 after.trail) m first
        | inr known ↦ has_right units (held 0 after.trail) m (put_held 0 entry s.trail m known)
      ]
    ]

    module _ (grown : Vec ℕ) (one_more : grown.items ≡ c.units.items ++ n ∷ []) where
      longer : length grown.items ≡ length c.units.items + 1
      longer = ap length one_more ∙ length-append c.units.items (n ∷ [])

      pushed_is_put : IsTrail (pushed c.trail c.trail.level l why) → StandsBeside formula (with_unit c grown (pushed c.trail c.trail.level l why)) e units ids told
      pushed_is_put sound = (
        after,
        keeps.0,
        st.2,
        record {
          log = record {
            ranged = force_ranged formula (first_row_id c.next) c.next (first_row_id c.next + 0) s t.log.ranged l n (let low = waits.low in omega (arith, low));
            sums = t.log.sums;
            numbered = t.log.numbered;
            rows_told = t.log.rows_told;
            few_rows = t.log.few_rows;
            few_additions = λ plain. absurd (true≢false (sym at.tidies ∙ plain));
            none_at_0 = t.log.none_at_0;
            served = record { served = t.log.served.served; old_clauses = t.log.served.old_clauses; new_clauses = t.log.served.new_clauses; old_sums = t.log.served.old_sums; new_sums = t.log.served.new_sums };
          };
          clauses = clauses_fixed c.tidies formula table c.next c.arena ((l ∷ units) ++ held 0 s.trail) (units ++ held 0 after.trail) still_has t.clauses;
          waiting = λ m k lists. t.waiting m k (later l m n k units ids lists);
          learned = t.learned;
          trail = record { follows = record { tied = keeps.1; sound = sound }; variables = t.trail.variables; stand = stand_grows c c.trail.level l why c.order t.trail.stand; phased = t.trail.phased };
          units_told = subst (AreUnits table c.next (pushed c.trail c.trail.level l why) after.trail) (sym one_more) units_then;
          engine = record { vars = t.engine.vars; wide = t.engine.wide; theirs = t.engine.theirs; few = t.engine.few; fed = fed_grows s.trail entry c.given e t.engine.fed refl };
          counts = record { marked = t.counts.marked; falling = t.counts.falling; many = t.counts.many; few = t.counts.few };
          ids_few = record { taken = let taken = t.ids_few.taken in let more = longer in omega (arith, taken, more); counted = t.ids_few.counted; few = t.ids_few.few };
          levels = t.levels;
        },
      )

      pub open_is_put : (trail : TrailState) → trail ≡ pushed c.trail c.trail.level l why → IsTrail trail → StandsBeside formula (with_unit c grown trail) e units ids told
      open_is_put trail is sound = subst (λ x. StandsBeside formula (with_unit c grown x) e units ids told) (sym is) (pushed_is_put (subst IsTrail is sound))

-- ---- the search that restarts
pub rests_at : (c : SearchState) → IsAtRestart c → StaysAtRestart c c
rests_at c at = record { restart = at; arena = refl; watched = λ h. h; conflicts = refl; variables = refl }

pub stays_at : (c : SearchState) (l : Literal) (n : ℕ) (why : Reason) (grown : Vec ℕ) → grown.items ≡ c.units.items ++ n ∷ [] → (trail : TrailState) → trail ≡ pushed c.trail c.trail.level l why → IsAtRestart c → StaysAtRestart c (with_unit c grown trail)
stays_at c l n why grown one_more trail is at = subst (λ x. StaysAtRestart c (with_unit c grown x)) (sym is) (record {
  restart = record {
    tidies = at.tidies;
    level = at.level;
    units = let a = ap length one_more in let b = length-append c.units.items (n ∷ []) in let more = length_push c.trail.entries (record { literal = l; level = c.trail.level; reason = why }) in let every = at.units in omega (arith, a, b, more, every);
    restart = at.restart;
  };
  arena = refl;
  watched = λ h. watched_grows c c.trail.level l why (omega arith) h;
  conflicts = refl;
  variables = refl;
})

pub stays_on : (a b c : SearchState) → StaysAtRestart a b → StaysAtRestart b c → StaysAtRestart a c
stays_on a b c f g = record { restart = g.restart; arena = g.arena ∙ f.arena; watched = λ h. g.watched (f.watched h); conflicts = g.conflicts ∙ f.conflicts; variables = g.variables ∙ f.variables }

-- ---- before the first one
-- the learned clauses are counted, and all are attached anew
abbrev pub with_watches : SearchState → ℕ → WatchState → SearchState
with_watches c learned w = record c { learned = learned; watches = w }

pub counted_beside : (formula : Problem) (c : SearchState) (e : State) (units : List Literal) (ids : List ℕ) (told : Option (List LogEvent)) (learned : ℕ) (w : WatchState) → learned ≡ learned_count c.arena
    → StandsBeside formula (record c { learned = learned_count c.arena }) e units ids told → StandsBeside formula (with_watches c learned w) e units ids told
counted_beside formula c e units ids told learned w is (s, ok, are, t) = subst (λ k. StandsBeside formula (with_watches c k w) e units ids told) (sym is) (
  s,
  ok,
  are,
  record {
    log = t.log;
    clauses = t.clauses;
    waiting = t.waiting;
    learned = t.learned;
    trail = t.trail;
    units_told = t.units_told;
    engine = t.engine;
    counts = t.counts;
    ids_few = t.ids_few;
    levels = t.levels;
  },
)

pub restarts_counted : (c : SearchState) (learned : ℕ) (w : WatchState) → IsAtRestart c → IsAtRestart (with_watches c learned w)
restarts_counted c learned w at = record { tidies = at.tidies; level = at.level; units = at.units; restart = at.restart }

-- the clauses are proper for a tidying
pub are_proper : (formula : Problem) (c : SearchState) (e : State) (told : Option (List LogEvent)) → SearchStands formula c e [] told → AreProper formula c.arena
are_proper formula c e told st =
    let f = st.4.fits in
    let same : c.watches.variables ≡ formula.variables = f.variables ∙ st.3.trail.variables in
    record {
      variables = λ r live. subst (λ k. AreWithin k (literals_at c.arena r)) same
          (within_by c.watches.variables (literals_at c.arena r) (λ l has. All-contains (λ (x : Literal). (1 ≤ x.variable) × (x.variable ≤ c.watches.variables)) (literals_at c.arena r) l (f.nodes.within r (st.4.all r live)) (of_has (literals_at c.arena r) l has)));
      ids = λ r live. let id = (has_ids formula c e [] told st).stored r live in let high = id.1 in (id.0, omega (arith, high));
    }

-- ---- when none waits
pub none_waits : (formula : Problem) (c : SearchState) (e : State) (told : Option (List LogEvent)) → IsAtRestart c → IsWatched c.watches c.arena c.trail → StandsBeside formula c e [] [] told → SearchStands formula c e [] told
none_waits formula c e told at watched (s, ok, are, t) = (
  s,
  ok,
  are,
  record {
    log = t.log;
    clauses = t.clauses;
    learned = t.learned;
    trail = t.trail;
    units = t.units_told;
    engine = t.engine;
    reasons = λ i far less. absurd (let every = at.units in omega (arith, far, less, every));
    counts = t.counts;
    ids = t.ids_few;
    levels = t.levels;
  },
  watched,
)
