use Rattle.std.proofs.Common.{refl, sym, ap, ◌∙◌, subst, [], length, arith}
use Rattle.watch_lists.specs.Events.{Happens}
use Rattle.watch_lists.specs.declared.event.Event.TheVariants.{Quiet}
use Rattle.cdcl_search.specs.declared.state.SearchState.{SearchState}
use Rattle.cdcl_search.specs.Finds.{HasAll}
use Rattle.cdcl_search.proofs.Feeding.{trail_is_short}
use Rattle.cdcl_search.proofs.Longer.{same_rests, same_then, same_by_all}
use Rattle.cdcl_search.proofs.propagation.propagate.Goals as goal

pub loop-reference-init : goal.loop-reference-init
loop-reference-init g c = record { stands = λ told stands. stands; unbroken = c.requires.unbroken; same = same_rests c.args.state.now; grows = omega arith }

pub follow_clauses-requires : goal.follow_clauses-requires
follow_clauses-requires g c = (c.loop-reference.invariant.stands c.requires.stands.0 c.requires.stands.1).4.fits

pub returns-in-Conflict-clause-stands : goal.returns-in-Conflict-clause-stands
returns-in-Conflict-clause-stands g c told stands = c.follow_clauses.ensures.stands c.args.formula.now (g.P.ParityEngine.state c.loop-reference.engine) told (c.loop-reference.invariant.stands told stands)

pub returns-in-Conflict-clause-finds : goal.returns-in-Conflict-clause-finds
returns-in-Conflict-clause-finds g c = (c.in-Conflict.ensures.happens.0, c.in-Conflict.ensures.happens.1, c.loop-reference.invariant.unbroken)

pub returns-in-Conflict-clause-same : goal.returns-in-Conflict-clause-same
returns-in-Conflict-clause-same g c =
    same_then c.args.state.now c.loop-reference.state c.follow_clauses.new.state c.loop-reference.invariant.same c.follow_clauses.ensures.same

pub returns-in-Conflict-clause-grows : goal.returns-in-Conflict-clause-grows
returns-in-Conflict-clause-grows g c = let a = c.follow_clauses.ensures.grows in let b = c.loop-reference.invariant.grows in omega (arith, a, b)

pub feed-requires : goal.feed-requires
feed-requires g c = record {
  stands = (c.requires.stands.0, c.follow_clauses.ensures.stands c.args.formula.now (g.P.ParityEngine.state c.loop-reference.engine) c.requires.stands.0 (c.loop-reference.invariant.stands c.requires.stands.0 c.requires.stands.1));
  unbroken = c.loop-reference.invariant.unbroken;
}

pub follow_rows-requires-clause-stands : goal.follow_rows-requires-clause-stands
follow_rows-requires-clause-stands g c =
    (c.requires.stands.0, c.feed.ensures.stays.stands c.requires.stands.0 (c.follow_clauses.ensures.stands c.args.formula.now (g.P.ParityEngine.state c.loop-reference.engine) c.requires.stands.0 (c.loop-reference.invariant.stands c.requires.stands.0 c.requires.stands.1)))

pub returns-in-Quiet-follow_rows-clause-stands : goal.returns-in-Quiet-follow_rows-clause-stands
returns-in-Quiet-follow_rows-clause-stands g c told stands =
    c.follow_rows.ensures.stands told (c.feed.ensures.stays.stands told (c.follow_clauses.ensures.stands c.args.formula.now (g.P.ParityEngine.state c.loop-reference.engine) told (c.loop-reference.invariant.stands told stands)))

pub returns-in-Quiet-follow_rows-clause-finds : goal.returns-in-Quiet-follow_rows-clause-finds
returns-in-Quiet-follow_rows-clause-finds g c =
    let says = c.in-Quiet-follow_rows.ensures.says in
    let is = says.0 ∙ c.feed.ensures.given in
    let quiet : Happens c.follow_rows.new.state.watches.attached c.follow_rows.new.state.arena c.follow_rows.new.state.trail Quiet = subst (λ (k : SearchState). Happens k.watches.attached k.arena k.trail Quiet) (sym is) c.in-Quiet.ensures.happens in
    let all : HasAll c.follow_rows.new.state = subst HasAll (sym is) refl in
    (quiet, all, says.1, says.2)

pub returns-in-Quiet-follow_rows-clause-same : goal.returns-in-Quiet-follow_rows-clause-same
returns-in-Quiet-follow_rows-clause-same g c =
    same_by_all c.args.state.now c.loop-reference.state c.follow_clauses.new.state c.feed.new.state c.follow_rows.new.state c.loop-reference.invariant.same c.follow_clauses.ensures.same c.feed.ensures.given c.follow_rows.ensures.same

pub returns-in-Quiet-follow_rows-clause-grows : goal.returns-in-Quiet-follow_rows-clause-grows
returns-in-Quiet-follow_rows-clause-grows g c =
    let is = c.in-Quiet-follow_rows.ensures.says.0 ∙ c.feed.ensures.given in
    let n = ap (λ (k : SearchState). length k.trail.entries) is in
    let a = c.follow_clauses.ensures.grows in
    let b = c.loop-reference.invariant.grows in
    omega (arith, n, a, b)

-- the trail is longer once the rows have implied something
pub empty_rows-requires : goal.empty_rows-requires
empty_rows-requires g c =
    let told = c.requires.stands.0 in
    record {
      stands = (told, c.follow_rows.ensures.stands told (c.feed.ensures.stays.stands told (c.follow_clauses.ensures.stands c.args.formula.now (g.P.ParityEngine.state c.loop-reference.engine) told (c.loop-reference.invariant.stands told c.requires.stands.1))));
      unbroken = c.in-Implied.ensures.says.1;
    }

pub loop-reference-smaller : goal.loop-reference-smaller
loop-reference-smaller g c =
    let told = c.requires.stands.0 in
    let stands = c.empty_rows.ensures.stands told (c.follow_rows.ensures.stands told (c.feed.ensures.stays.stands told (c.follow_clauses.ensures.stands c.args.formula.now (g.P.ParityEngine.state c.loop-reference.engine) told (c.loop-reference.invariant.stands told c.requires.stands.1)))) in
    let short = trail_is_short c.args.formula.now c.empty_rows.new.state (g.P.ParityEngine.state c.empty_rows.new.engine) [] told stands in
    let n = c.in-Implied.ensures.says.0 in
    let m = ap (λ (k : SearchState). length k.trail.entries) c.feed.ensures.given in
    let a = c.follow_clauses.ensures.grows in
    let r = c.empty_rows.ensures.grows in
    omega (arith, short, n, m, a, r)

pub loop-reference-preserved : goal.loop-reference-preserved
loop-reference-preserved g c =
    let n = c.in-Implied.ensures.says.0 in
    let m = ap (λ (k : SearchState). length k.trail.entries) c.feed.ensures.given in
    let a = c.follow_clauses.ensures.grows in
    let b = c.loop-reference.invariant.grows in
    let r = c.empty_rows.ensures.grows in
    record {
      stands = λ told stands. c.empty_rows.ensures.stands told (c.follow_rows.ensures.stands told (c.feed.ensures.stays.stands told (c.follow_clauses.ensures.stands c.args.formula.now (g.P.ParityEngine.state c.loop-reference.engine) told (c.loop-reference.invariant.stands told stands))));
      unbroken = c.in-None.ensures.ends;
      same = same_then c.args.state.now c.follow_rows.new.state c.empty_rows.new.state (same_by_all c.args.state.now c.loop-reference.state c.follow_clauses.new.state c.feed.new.state c.follow_rows.new.state c.loop-reference.invariant.same c.follow_clauses.ensures.same c.feed.ensures.given c.follow_rows.ensures.same) c.empty_rows.ensures.same;
      grows = omega (arith, n, m, a, b, r);
    }

pub returns-in-Some-clause-stands : goal.returns-in-Some-clause-stands
returns-in-Some-clause-stands g c told stands =
    c.empty_rows.ensures.stands told (c.follow_rows.ensures.stands told (c.feed.ensures.stays.stands told (c.follow_clauses.ensures.stands c.args.formula.now (g.P.ParityEngine.state c.loop-reference.engine) told (c.loop-reference.invariant.stands told stands))))

pub returns-in-Some-clause-finds : goal.returns-in-Some-clause-finds
returns-in-Some-clause-finds g c = c.in-Some.ensures.ends

pub returns-in-Some-clause-same : goal.returns-in-Some-clause-same
returns-in-Some-clause-same g c =
    same_then c.args.state.now c.follow_rows.new.state c.empty_rows.new.state (same_by_all c.args.state.now c.loop-reference.state c.follow_clauses.new.state c.feed.new.state c.follow_rows.new.state c.loop-reference.invariant.same c.follow_clauses.ensures.same c.feed.ensures.given c.follow_rows.ensures.same) c.empty_rows.ensures.same

pub returns-in-Some-clause-grows : goal.returns-in-Some-clause-grows
returns-in-Some-clause-grows g c =
    let n = c.in-Implied.ensures.says.0 in
    let m = ap (λ (k : SearchState). length k.trail.entries) c.feed.ensures.given in
    let a = c.follow_clauses.ensures.grows in
    let b = c.loop-reference.invariant.grows in
    let r = c.empty_rows.ensures.grows in
    omega (arith, n, m, a, b, r)

pub returns-in-Conflict-follow_rows-clause-stands :
    goal.returns-in-Conflict-follow_rows-clause-stands
returns-in-Conflict-follow_rows-clause-stands g c told stands =
    c.follow_rows.ensures.stands told (c.feed.ensures.stays.stands told (c.follow_clauses.ensures.stands c.args.formula.now (g.P.ParityEngine.state c.loop-reference.engine) told (c.loop-reference.invariant.stands told stands)))

pub returns-in-Conflict-follow_rows-clause-finds : goal.returns-in-Conflict-follow_rows-clause-finds
returns-in-Conflict-follow_rows-clause-finds g c =
    let says = c.in-Conflict-follow_rows.ensures.says in
    let all : HasAll c.follow_rows.new.state = subst HasAll (sym (says.0 ∙ c.feed.ensures.given)) refl in
    (all, says.1)

pub returns-in-Conflict-follow_rows-clause-same : goal.returns-in-Conflict-follow_rows-clause-same
returns-in-Conflict-follow_rows-clause-same g c =
    same_by_all c.args.state.now c.loop-reference.state c.follow_clauses.new.state c.feed.new.state c.follow_rows.new.state c.loop-reference.invariant.same c.follow_clauses.ensures.same c.feed.ensures.given c.follow_rows.ensures.same

pub returns-in-Conflict-follow_rows-clause-grows :
    goal.returns-in-Conflict-follow_rows-clause-grows
returns-in-Conflict-follow_rows-clause-grows g c =
    let is = c.in-Conflict-follow_rows.ensures.says.0 ∙ c.feed.ensures.given in
    let n = ap (λ (k : SearchState). length k.trail.entries) is in
    let a = c.follow_clauses.ensures.grows in
    let b = c.loop-reference.invariant.grows in
    omega (arith, n, a, b)
