-- A search some of whose clauses got other lbds.
use Rattle.std.proofs.Common.{◌≡◌, refl, sym, ap, ◌∙◌, subst, ℕ, ◌<◌, ◌≤◌, nat_lt, IsTrue, List, length, get_or, Option, true≢false, arith}
use Rattle.std.specs.List.{All}
use Rattle.std.proofs.lemmas.Bool.{ltb-true, ltb-false}
use Rattle.std.proofs.lemmas.List.{get_or-map, get_or-take, length-map, length-take}
use Rattle.std.proofs.lemmas.List.Elements.{Contains-get_or}
use Rattle.cx_base.specs.Literals.{Literal, same_literal}
use Rattle.cx_base.specs.Problem.{Problem}
use Rattle.cx_base.specs.declared.steps.LogEvent.{LogEvent}
use Rattle.cx_base.proofs.LiteralLaws.{are_one, same_literal-itself}
use Rattle.cx_semantics.specs.Chain.{has_literal}
use Rattle.cx_semantics.proofs.Members.{has_by_index}
use Rattle.cx_trail.specs.declared.entry.Reason.TheVariants as reason
use Rattle.cx_trail.specs.Sequence.{TrailState, IsAssignedIn, IsTrueIn, entry_at, no_entry}
use Rattle.clause_arena.specs.Clauses.{ArenaState, literals_at}
use Rattle.parity_engine.specs.State.{State}
use Rattle.conflict_learn.specs.Learning.{literals_of}
use Rattle.conflict_learn.specs.declared.learning.Resolved.{Resolved}
use Rattle.conflict_learn.proofs.ChainOfResolutions.{by_cases}
use Rattle.search_steps.specs.Search.{Search}
use Rattle.search_steps.specs.Trail.{held}
use Rattle.cdcl_search.specs.declared.state.SearchState.{SearchState}
use Rattle.cdcl_search.specs.Ties.{Ties, IsClauseReasonOf, HasReasonOf}
use Rattle.cdcl_core.specs.Grading.{ungraded, IsGraded, HaveLiveReasons}
use Rattle.cdcl_core.specs.Learning.{Learns}
use Rattle.cdcl_core.proofs.GradedClauses.{same_literals, live_then, clauses_then, learned_then, reasons_then, watched_then}

-- ---- one change after another
pub graded_still : (c : SearchState) → IsGraded c c
graded_still c = record { clauses = refl; rest = refl }

pub graded_on : (a b c : SearchState) → IsGraded a b → IsGraded b c → IsGraded a c
graded_on a b c before after = record {
  clauses = after.clauses ∙ before.clauses;
  rest = after.rest ∙ ap (λ (x : SearchState). record x { arena = c.arena }) before.rest;
}

pub same_trail : (a b : SearchState) → IsGraded a b → b.trail ≡ a.trail
same_trail a b g = ap (λ (x : SearchState). x.trail) g.rest

-- ---- reasons
-- the literals of a reason have values
reason_assigned : (c : SearchState) (i r : ℕ) → i < length c.trail.entries → IsClauseReasonOf c.arena c.trail.entries i r → All (λ l. IsAssignedIn c.trail.entries l.variable) (literals_at c.arena r)
reason_assigned c i r less why k d h =
    let es = c.trail.entries in
    let l = (entry_at es i).literal in
    let m = get_or (literals_at c.arena r) k d in
    by_cases (same_literal m l)
    (λ q. (i, less, ap (λ (x : Literal). x.variable) (sym (are_one m l q))))
    (λ q.
    let f = why.others m (Contains-get_or (literals_at c.arena r) k d h) (λ e. true≢false (sym (same_literal-itself m) ∙ ap (same_literal m) e ∙ q)) in
    let short = f.1.0 in
    let few = length-take i es in
    let early : f.0 < i = omega (arith, short, few) in
    (f.0, omega (arith, short, few), ap (λ x. x.literal.variable) (sym (get_or-take i es f.0 no_entry early)) ∙ ap (λ (x : Literal). x.variable) f.1.1))

pub live_reasons : (formula : Problem) (c : SearchState) (e : State) (rows : List (List Literal)) (s : Search) → Ties formula c e rows s → HaveLiveReasons c
live_reasons formula c e rows s t r (i, less, above, is) =
    let far : length c.units.items ≤ i = by_cases (nat_lt i (length c.units.items))
    (λ q. let low = t.units.level_0 i (ltb-true i (length c.units.items) q) in absurd (omega (arith, low, above)))
    (λ q. ltb-false i (length c.units.items) q) in
    let why : IsClauseReasonOf c.arena c.trail.entries i r = subst (HasReasonOf c.arena c.trail.entries e i) is (t.reasons i far less) in
    (why.live, reason_assigned c i r less why)

pub live_reasons_on : (a b : SearchState) → IsGraded a b → HaveLiveReasons a → HaveLiveReasons b
live_reasons_on a b g have = subst HaveLiveReasons (sym g.rest) (λ r implies.
    let h = have r implies in (
      live_then a.arena b.arena g.clauses r h.0,
      subst (λ ls. All (λ l. IsAssignedIn a.trail.entries l.variable) ls) (sym (same_literals a.arena b.arena g.clauses r)) h.1,
    ))

-- ---- the resolved literals are true
pub resolved_assigned : (t : TrailState) (resolved : List Resolved) → ((l : Literal) → IsTrue (has_literal (literals_of resolved) l) → IsTrueIn t.entries l) → All (λ r. IsAssignedIn t.entries r.literal.variable) resolved
resolved_assigned t resolved stand k d h =
    let l = (get_or resolved k d).literal in
    let long = length-map resolved (λ (r : Resolved). r.literal) in
    let at : get_or (literals_of resolved) k d.literal ≡ l = get_or-map (λ (r : Resolved). r.literal) resolved k d d.literal h in
    let is_true = stand l (ap (has_literal (literals_of resolved)) (sym at) ∙ has_by_index (literals_of resolved) k d.literal (omega (arith, h, long))) in
    (is_true.0, is_true.1.0, ap (λ (x : Literal). x.variable) is_true.1.1)

-- ---- the search fits as before
ties_with : (formula : Problem) (c : SearchState) (e : State) (rows : List (List Literal)) (s : Search) (a : ArenaState) → ungraded a ≡ ungraded c.arena → Ties formula c e rows s → Ties formula (record c { arena = a }) e rows s
ties_with formula c e rows s a same t = record {
  log = t.log;
  clauses = clauses_then c.arena a same c.tidies formula s.moment.tables.clauses c.next c.tidy_below (held 0 s.trail) t.clauses;
  learned = learned_then c.arena a same s.moment.learned t.learned;
  trail = t.trail;
  units = t.units;
  engine = t.engine;
  reasons = reasons_then c.arena a same c.trail.entries (length c.units.items) e t.reasons;
  counts = t.counts;
  ids = t.ids;
  levels = t.levels;
}

-- so the clause that a conflict teaches may be put among the others as before
pub learns_graded : (formula : Problem) (c d : SearchState) (e : State) (lits : List Literal) (back : ℕ) (told : Option (List LogEvent)) → IsGraded c d → Learns formula c e lits back told → Learns formula d e lits back told
learns_graded formula c d e lits back told g l = subst (λ x. Learns formula x e lits back told) (sym g.rest) (record {
  search = l.search;
  taught = record {
    search = l.taught.search;
    rows = l.taught.rows;
    ties = ties_with formula c e l.taught.rows l.search d.arena g.clauses l.taught.ties;
    watched = watched_then c.arena d.arena g.clauses c.watches c.trail l.taught.watched;
    first = l.taught.first;
    more = l.taught.more;
    parts = l.taught.parts;
    learned = l.taught.learned;
    placed = l.taught.placed;
    integers = l.taught.integers;
    goes_on = l.taught.goes_on;
    room = l.taught.room;
    few = l.taught.few;
  };
  hints = l.hints;
  right = l.right;
  told_is = l.told_is;
})
