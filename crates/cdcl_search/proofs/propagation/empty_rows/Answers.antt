use Rattle.std.proofs.Common.{◌≡◌, refl, sym, ap, ◌∙◌, subst, [], length, arith}
use Rattle.parity_engine.specs.declared.state.Mood.{Mood}
use Rattle.parity_engine.specs.declared.state.Mood.TheVariants.{Calm, Broken}
use Rattle.cdcl_search.specs.declared.state.SearchState.{SearchState}
use Rattle.cdcl_search.specs.Finds.{HasAll}
use Rattle.cdcl_search.proofs.Feeding.{trail_is_short}
use Rattle.cdcl_search.proofs.Longer.{same_rests, same_by_rows}
use Rattle.cdcl_search.proofs.propagation.empty_rows.Goals as goal

calm_is_not_broken : (mood : Mood) → mood ≡ Calm → mood ≡ Broken → ⊥
calm_is_not_broken mood is b = cc

pub rows-init : goal.rows-init
rows-init g c = record { stands = λ told stands. stands; unbroken = c.requires.unbroken; same = same_rests c.args.state.now; grows = omega arith }

pub feed-requires : goal.feed-requires
feed-requires g c = record {
  stands = (c.requires.stands.0, c.rows.invariant.stands c.requires.stands.0 c.requires.stands.1);
  unbroken = c.rows.invariant.unbroken;
}

pub follow_rows-requires-clause-stands : goal.follow_rows-requires-clause-stands
follow_rows-requires-clause-stands g c = (c.requires.stands.0, c.feed.ensures.stays.stands c.requires.stands.0 (c.rows.invariant.stands c.requires.stands.0 c.requires.stands.1))

pub returns-in-Quiet-clause-stands : goal.returns-in-Quiet-clause-stands
returns-in-Quiet-clause-stands g c told stands = c.follow_rows.ensures.stands told (c.feed.ensures.stays.stands told (c.rows.invariant.stands told stands))

pub returns-in-Quiet-clause-ends : goal.returns-in-Quiet-clause-ends
returns-in-Quiet-clause-ends g c = calm_is_not_broken _ c.in-Quiet.ensures.says.2

pub returns-in-Quiet-clause-same : goal.returns-in-Quiet-clause-same
returns-in-Quiet-clause-same g c = same_by_rows c.args.state.now c.rows.state c.feed.new.state c.follow_rows.new.state c.rows.invariant.same c.feed.ensures.given c.follow_rows.ensures.same

pub returns-in-Quiet-clause-grows : goal.returns-in-Quiet-clause-grows
returns-in-Quiet-clause-grows g c =
    let is = c.in-Quiet.ensures.says.0 ∙ c.feed.ensures.given in
    let n = ap (λ (k : SearchState). length k.trail.entries) is in
    let b = c.rows.invariant.grows in
    omega (arith, n, b)

pub returns-in-Conflict-clause-stands : goal.returns-in-Conflict-clause-stands
returns-in-Conflict-clause-stands g c told stands = c.follow_rows.ensures.stands told (c.feed.ensures.stays.stands told (c.rows.invariant.stands told stands))

pub returns-in-Conflict-clause-ends : goal.returns-in-Conflict-clause-ends
returns-in-Conflict-clause-ends g c =
    let says = c.in-Conflict.ensures.says in
    let all : HasAll c.follow_rows.new.state = subst HasAll (sym (says.0 ∙ c.feed.ensures.given)) refl in
    (all, says.1)

pub returns-in-Conflict-clause-same : goal.returns-in-Conflict-clause-same
returns-in-Conflict-clause-same g c = same_by_rows c.args.state.now c.rows.state c.feed.new.state c.follow_rows.new.state c.rows.invariant.same c.feed.ensures.given c.follow_rows.ensures.same

pub returns-in-Conflict-clause-grows : goal.returns-in-Conflict-clause-grows
returns-in-Conflict-clause-grows g c =
    let is = c.in-Conflict.ensures.says.0 ∙ c.feed.ensures.given in
    let n = ap (λ (k : SearchState). length k.trail.entries) is in
    let b = c.rows.invariant.grows in
    omega (arith, n, b)

pub rows-smaller : goal.rows-smaller
rows-smaller g c =
    let told = c.requires.stands.0 in
    let stands = c.follow_rows.ensures.stands told (c.feed.ensures.stays.stands told (c.rows.invariant.stands told c.requires.stands.1)) in
    let short = trail_is_short c.args.formula.now c.follow_rows.new.state (g.P.ParityEngine.state c.follow_rows.new.engine) [] told stands in
    let n = c.in-Implied.ensures.says.0 in
    let m = ap (λ (k : SearchState). length k.trail.entries) c.feed.ensures.given in
    omega (arith, short, n, m)

pub rows-preserved : goal.rows-preserved
rows-preserved g c =
    let n = c.in-Implied.ensures.says.0 in
    let m = ap (λ (k : SearchState). length k.trail.entries) c.feed.ensures.given in
    let b = c.rows.invariant.grows in
    record {
      stands = λ told stands. c.follow_rows.ensures.stands told (c.feed.ensures.stays.stands told (c.rows.invariant.stands told stands));
      unbroken = c.in-Implied.ensures.says.1;
      same = same_by_rows c.args.state.now c.rows.state c.feed.new.state c.follow_rows.new.state c.rows.invariant.same c.feed.ensures.given c.follow_rows.ensures.same;
      grows = omega (arith, n, m, b);
    }
