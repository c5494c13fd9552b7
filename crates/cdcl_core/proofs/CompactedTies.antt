-- New references keep what ties a search to its code.
use Rattle.std.proofs.Common.{◌≡◌, refl, sym, ap, ◌∙◌, subst, ℕ, suc, ◌<◌, ◌≤◌, Bool, List, [], ◌∷◌, length, map, take, get_or, Option, Some, None, is_some, Contains, inl, inr, ⊎_elim, arith}
use Rattle.std.specs.Prelude.{IsTrue}
use Rattle.std.specs.FinSet as set
use Rattle.std.proofs.lemmas.Bool.{cases_lt}
use Rattle.std.proofs.lemmas.List.{length-map, map-append, take-map}
use Rattle.cx_base.specs.declared.moved.Move.{Move}
use Rattle.cx_base.specs.Moved.{moved_to}
use Rattle.cx_base.specs.Literals.{Literal, negate, HasTwo}
use Rattle.cx_base.specs.Problem.{Problem, clauses_of}
use Rattle.cx_trail.specs.declared.entry.Entry.{Entry as TrailEntry}
use Rattle.cx_trail.specs.declared.entry.Reason.{Reason}
use Rattle.cx_trail.specs.declared.entry.Reason.TheVariants as reason
use Rattle.cx_trail.specs.Sequence.{TrailState, entry_at, IsTrail as IsCodeTrail, IsTrueIn, IsAssignedIn, IsOpenIn}
use Rattle.cx_trail.specs.Renaming.{renamed, renamed_reason, clause_under}
use Rattle.cx_semantics.specs.Chain.{is_inside}
use Rattle.cx_semantics.specs.Marked.{is_among}
use Rattle.clause_arena.specs.Clauses.{ArenaState, IsLive, literals_at, literals_in, id_at, id_in, learned_in}
use Rattle.clause_arena.specs.Compact.{IsRenamed}
use Rattle.clause_arena.proofs.PackingLaws.{live_within}
use Rattle.watch_lists.specs.Truths.{AreOthersFalse}
use Rattle.watch_lists.specs.Watching.{WatchState}
use Rattle.watch_lists.specs.Renaming.{AreRenamed}
use Rattle.watch_lists.proofs.RenamedLaws.{clause_moved, literal_stays, level_stays, entry_renamed, renamed_fits, some_same}
use Rattle.parity_engine.specs.State.{State}
use Rattle.search_steps.specs.Trail.{Entry}
use Rattle.search_steps.specs.Search.{Search}
use Rattle.search_steps.specs.Tied.{IsTied}
use Rattle.cx_semantics.specs.Tables.{Table}
use Rattle.cdcl_search.specs.declared.state.SearchState.{SearchState}
use Rattle.cdcl_search.specs.Ties.{Ties, SearchStands, IsClauseReasonOf, IsWatched, ClauseTies, AreLearned, IsKept, IsNamedBy, IsHeld, NeedsNoLearned, AreUnits, HasReasonOf, ReasonTies, AgreesUpTo}
use Rattle.cdcl_core.specs.Compacting.{IsCompacted, MovesBelow, StandsStill, LeavesNoOldName}
use Rattle.cdcl_core.proofs.TidyBefore.{tidy_moved}

-- ---- the trail
module _ (moves : List Move) where
  abbrev pub moved_entries : List TrailEntry → List TrailEntry
  moved_entries entries = map (renamed moves) entries

  tied_moved : (es : List Entry) (entries : List TrailEntry) → IsTied es entries → IsTied es (moved_entries entries)
  tied_moved [] entries e = ap moved_entries e
  tied_moved (x ∷ es) entries (before, i, parts, literal, level, tied) =
      (moved_entries before, renamed moves i, ap moved_entries parts ∙ map-append (renamed moves) before (i ∷ []), literal, level, tied_moved es before tied)

  size : (entries : List TrailEntry) → length (moved_entries entries) ≡ length entries
  size entries = length-map entries (renamed moves)

  true_moved : (entries : List TrailEntry) (l : Literal) → IsTrueIn entries l → IsTrueIn (moved_entries entries) l
  true_moved entries l (i, (less, is)) = let long = size entries in (i, (omega (arith, less, long), literal_stays moves entries i ∙ is))

  assigned_moved : (entries : List TrailEntry) (v : ℕ) → IsAssignedIn entries v → IsAssignedIn (moved_entries entries) v
  assigned_moved entries v (i, less, is) = let long = size entries in (i, omega (arith, less, long), ap (λ (l : Literal). l.variable) (literal_stays moves entries i) ∙ is)

  open_before : (entries : List TrailEntry) (v : ℕ) → IsOpenIn (moved_entries entries) v → IsOpenIn entries v
  open_before entries v free i less is = let long = size entries in free i (omega (arith, less, long)) (ap (λ (l : Literal). l.variable) (literal_stays moves entries i) ∙ is)

  -- the first entries of both
  front : (i : ℕ) (entries : List TrailEntry) → take i (moved_entries entries) ≡ moved_entries (take i entries)
  front i entries = take-map (renamed moves) i entries

  others_moved : (i : ℕ) (entries : List TrailEntry) (lits : List Literal) (l : Literal) → AreOthersFalse (take i entries) lits l → AreOthersFalse (take i (moved_entries entries)) lits l
  others_moved i entries lits l all m has other = subst (λ xs. IsTrueIn xs (negate m)) (sym (front i entries)) (true_moved (take i entries) (negate m) (all m has other))

  agree_before : (n : ℕ) (entries : List TrailEntry) (values : List Bool) → AgreesUpTo n (moved_entries entries) values → AgreesUpTo n entries values
  agree_before n entries values agrees l is = agrees l (subst (λ xs. IsTrueIn xs l) (sym (front n entries)) (true_moved (take n entries) l is))

  units_moved : (table : Table) (next : ℕ) (t : TrailState) (es : List Entry) (ids : List ℕ) → AreUnits table next t es ids → AreUnits table next (record t { entries = moved_entries t.entries }) es ids
  units_moved table next t es ids u =
      let long = size t.entries in
      record {
        few = let h = u.few in omega (arith, h, long);
        level_0 = λ i h. level_stays moves t.entries i ∙ u.level_0 i h;
        named = λ i h. subst (λ l. IsNamedBy table (l ∷ []) (get_or ids i 0)) (sym (literal_stays moves t.entries i)) (u.named i h);
        low = u.low;
        newer = u.newer;
        older = u.older;
        parts = u.parts;
        count = u.count;
        rest = u.rest;
        all = λ above i far less. subst (λ n. 0 < n) (sym (level_stays moves t.entries i)) (u.all above i far (omega (arith, less, long)));
      }

-- ---- the clauses
module _ (a b : ArenaState) (moves : List Move) (f : IsRenamed a b moves) where
  -- the reference that a clause had
  before : (s : ℕ) → IsLive b s → (r : ℕ) × (moved_to moves r ≡ Some s)
  before s live = f.whole s (live_within b s live)

  stored_moved : (formula : Problem) (table : Table) (next : ℕ) → ((r : ℕ) → IsLive a r → IsKept formula table next a r) → (s : ℕ) → IsLive b s → IsKept formula table next b s
  stored_moved formula table next kept s live =
      let was = before s live in
      let moved = clause_moved a b moves was.0 s f was.1 in
      let same = sym moved.1 in
      let k = kept was.0 moved.0 in
      record {
        wide = subst (λ o. HasTwo (literals_in o)) same k.wide;
        named = subst (λ o. IsNamedBy table (literals_in o) (id_in o)) same k.named;
        low = subst (λ o. id_in o < next) same k.low;
        late = subst (λ o. IsTrue (learned_in o) → length (clauses_of formula.constraints) < id_in o) same k.late;
      }

  held_moved : (tidies : Bool) (fixed : List Literal) (n : ℕ) (clause : List Literal) → IsHeld tidies a fixed n clause → IsHeld tidies b fixed n clause
  held_moved tidies fixed n clause (inl (r, live, id)) =
      let w = f.kept r live in
      inl (w.0, ap is_some w.2 ∙ live, ap id_in w.2 ∙ id)
  held_moved tidies fixed n clause (inr more) = inr more

  needs_moved : (fixed : List Literal) (clause : List Literal) → NeedsNoLearned a fixed clause → NeedsNoLearned b fixed clause
  needs_moved fixed clause (inl both) = inl both
  needs_moved fixed clause (inr (inl t)) = inr (inl t)
  needs_moved fixed clause (inr (inr (r, live, original, inside))) =
      let w = f.kept r live in
      inr (inr (w.0, ap is_some w.2 ∙ live, ap learned_in w.2 ∙ original, ap (λ o. is_inside (literals_in o) clause) w.2 ∙ inside))

  apart_moved : ((r q : ℕ) → IsLive a r → IsLive a q → id_at a r ≡ id_at a q → r ≡ q) → (s t : ℕ) → IsLive b s → IsLive b t → id_at b s ≡ id_at b t → s ≡ t
  apart_moved apart s t s_live t_live same =
      let v = before s s_live in
      let w = before t t_live in
      let x = clause_moved a b moves v.0 s f v.1 in
      let y = clause_moved a b moves w.0 t f w.1 in
      let one = apart v.0 w.0 x.0 y.0 (sym (ap id_in x.1) ∙ same ∙ ap id_in y.1) in
      some_same s t (sym v.1 ∙ ap (moved_to moves) one ∙ w.1)

  learned_moved : (ids : List ℕ) → AreLearned a ids → AreLearned b ids
  learned_moved ids all s live is =
      let was = before s live in
      let moved = clause_moved a b moves was.0 s f was.1 in
      ap (λ o. is_among ids (id_in o)) moved.1 ∙ all was.0 moved.0 (ap learned_in (sym moved.1) ∙ is)

  clauses_moved : (tidies : Bool) (formula : Problem) (table : Table) (next m n : ℕ) (fixed : List Literal) → MovesBelow moves b m n → ClauseTies tidies formula table next a m fixed → ClauseTies tidies formula table next b n fixed
  clauses_moved tidies formula table next m n fixed below t = record {
    stored = stored_moved formula table next t.stored;
    covered = λ n clause low is. held_moved tidies fixed n clause (t.covered n clause low is);
    apart = apart_moved t.apart;
    original = λ clause is. needs_moved fixed clause (t.original clause is);
    old = tidy_moved a b moves f m n below t.old;
  }

  -- ---- the reasons
  reason_moved : (entries : List TrailEntry) (e : State) (i : ℕ) (r : Reason) → HasReasonOf a entries e i r → HasReasonOf b (moved_entries moves entries) e i (renamed_reason moves (entry_at entries i).level r)
  reason_moved entries e i reason.Decision has = subst (λ n. 0 < n) (sym (level_stays moves entries i)) has
  reason_moved entries e i (reason.Clause r) has =
      let w = f.kept r has.live in
      let same : literals_at b w.0 ≡ literals_at a r = ap literals_in w.2 in
      subst (λ o. HasReasonOf b (moved_entries moves entries) e i (clause_under o (entry_at entries i).level r)) (sym w.1) (record {
        live = ap is_some w.2 ∙ has.live;
        has = subst (λ l. Contains (literals_at b w.0) l) (sym (literal_stays moves entries i)) (subst (λ ls. Contains ls (entry_at entries i).literal) (sym same) has.has);
        others = subst (λ l. AreOthersFalse (take i (moved_entries moves entries)) (literals_at b w.0) l) (sym (literal_stays moves entries i))
            (subst (λ ls. AreOthersFalse (take i (moved_entries moves entries)) ls (entry_at entries i).literal) (sym same) (others_moved moves i entries (literals_at a r) (entry_at entries i).literal has.others));
      })
  reason_moved entries e i (reason.Row row) has =
      let literal = literal_stays moves entries i in
      let level = level_stays moves entries i in
      record {
        named = has.named;
        is = has.is;
        implied = has.implied;
        level = subst (λ n. has.named.level ≤ n) (sym level) has.level;
        has = subst (λ l. IsTrue (set.contains has.named.form.variables l.variable)) (sym literal) has.has;
        others = λ v low other is. subst (λ xs. IsAssignedIn xs v) (sym (front moves i entries)) (assigned_moved moves (take i entries) v (has.others v low (λ q. other (q ∙ ap (λ l. l.variable) (sym literal))) is));
        met = λ values agrees. has.met values (agree_before moves (suc i) entries values agrees);
        numbers = has.numbers;
        sums = has.sums;
      }

  reasons_moved : (entries : List TrailEntry) (units : ℕ) (e : State) → ReasonTies a entries units e → ReasonTies b (moved_entries moves entries) units e
  reasons_moved entries units e t i far less =
      let long = size moves entries in
      subst (λ x. HasReasonOf b (moved_entries moves entries) e i x.reason) (sym (entry_renamed moves entries i))
      (reason_moved entries e i (entry_at entries i).reason (t i far (omega (arith, less, long))))

  -- ---- the names
  -- at level 0 a clause that is gone is no reason any more
  under_live : (r s : ℕ) (o : Option ℕ) → moved_to moves r ≡ o → clause_under o 0 r ≡ reason.Clause s → IsLive b s
  under_live r s (Some t) goes is = let same : t ≡ s = cc in let moved = clause_moved a b moves r t f goes in subst (IsLive b) same (ap is_some moved.1 ∙ moved.0)
  under_live r s None goes is = cc

  named_live : (old : Reason) (s : ℕ) → renamed_reason moves 0 old ≡ reason.Clause s → IsLive b s
  named_live reason.Decision s is = cc
  named_live (reason.Clause r) s is = under_live r s (moved_to moves r) refl is
  named_live (reason.Row row) s is = cc

-- ---- the whole
module _ (formula : Problem) (c : SearchState) (e : State) (rows : List (List Literal)) (s : Search) (moves : List Move) (b : ArenaState) (w : WatchState) (n : ℕ)
    (f : IsRenamed c.arena b moves) (r : AreRenamed moves c.watches w) (below : MovesBelow moves b c.tidy_below n) (sound : IsCodeTrail (record c.trail { entries = map (renamed moves) c.trail.entries })) where
  abbrev d : SearchState
  d = record c { arena = b; watches = w; tidy_below = n; trail = record c.trail { entries = map (renamed moves) c.trail.entries } }

  ties_moved : Ties formula c e rows s → Ties formula d e rows s
  ties_moved t = record {
    log = t.log;
    clauses = clauses_moved c.arena b moves f c.tidies formula s.moment.tables.clauses c.next c.tidy_below n _ below t.clauses;
    learned = learned_moved c.arena b moves f s.moment.learned t.learned;
    trail = record {
      follows = record { tied = tied_moved moves s.trail c.trail.entries t.trail.follows.tied; sound = sound };
      variables = t.trail.variables;
      stand = record { variables = t.trail.stand.variables; stand = λ v low high free. t.trail.stand.stand v low high (open_before moves c.trail.entries v free) };
      phased = t.trail.phased;
    };
    units = units_moved moves s.moment.tables.clauses c.next c.trail s.trail c.units.items t.units;
    engine = t.engine;
    reasons = reasons_moved c.arena b moves f c.trail.entries (length c.units.items) e t.reasons;
    counts = t.counts;
    ids = t.ids;
    levels = t.levels;
  }

  watched_moved : IsWatched c.watches c.arena c.trail → IsWatched w b d.trail
  watched_moved is = record {
    fits = renamed_fits c.watches w c.arena b c.trail moves f r is.fits;
    all = λ q live. let was = before c.arena b moves f q live in let moved = clause_moved c.arena b moves was.0 q f was.1 in (r.kept was.0 q was.1 (is.all was.0 moved.0)).0;
  }

pub stands_moved : (moves : List Move) (c new : SearchState) → IsCompacted moves c new → IsCodeTrail new.trail → StandsStill c new
stands_moved moves c new is sound formula e rows told (s, ok, are, ties, watched) =
    let sound_then = subst (λ (x : SearchState). IsCodeTrail x.trail) is.others sound in
    subst (λ x. SearchStands formula x e rows told) (sym is.others) (
      s,
      ok,
      are,
      ties_moved formula c e rows s moves new.arena new.watches new.tidy_below is.arena is.watches is.tidy_below sound_then ties,
      watched_moved formula c e rows s moves new.arena new.watches new.tidy_below is.arena is.watches is.tidy_below sound_then watched,
    )

pub names_live : (moves : List Move) (c new : SearchState) → IsCompacted moves c new → IsCodeTrail new.trail → LeavesNoOldName c new
names_live moves c new is sound formula e rows told stands =
    let now = stands_moved moves c new is sound formula e rows told stands in
    let units = ap (λ (x : SearchState). length x.units.items) is.others in
    let trail = ap (λ (x : SearchState). x.trail.entries) is.others in (
      λ i r less named. ⊎_elim
          (λ (low : i < length c.units.items).
          let level_0 = stands.3.units.level_0 i low in
          let was = ap (λ es. (entry_at es i).reason) trail ∙ ap (λ x. x.reason) (entry_renamed moves c.trail.entries i) in
          named_live c.arena new.arena moves is.arena (entry_at c.trail.entries i).reason r (ap (λ k. renamed_reason moves k (entry_at c.trail.entries i).reason) (sym level_0) ∙ sym was ∙ named))
          (λ (far : length c.units.items ≤ i).
          let has : IsClauseReasonOf new.arena new.trail.entries i r = subst (HasReasonOf new.arena new.trail.entries e i) named (now.3.reasons i (omega (arith, units, far)) less) in
          has.live) (cases_lt i (length c.units.items)),
      now.4.fits.nodes.live,
    )
