use Rattle.std.proofs.Common.{◌≡◌, ap, ◌∙◌, sym, subst, Some}
use Rattle.cx_semantics.specs.Chain.{has_literal}
use Rattle.conflict_learn.specs.Final.{StandsBelow}
use Rattle.conflict_learn.specs.Learning.{literal_at}
use Rattle.conflict_learn.specs.Touching.{Touched}
use Rattle.conflict_learn.proofs.TouchLaws.{antecedent_here, others_before}
use Rattle.conflict_learn.proofs.learning.resolve.Goals as goal

pub touch-requires-clause-negated : goal.touch-requires-clause-negated
touch-requires-clause-negated g c m h n =
    let trail = c.args.trail.now in
    let place = c.args.place in
    let l = c.entry-entry.result.literal in
    let at : l ≡ literal_at trail place = ap (λ x. x.literal) c.entry-entry.ensures.is in
    let clause = c.in-Some.clause.now in
    others_before trail l place clause c.requires.place at (antecedent_here trail _ l place clause c.requires.stands at c.in-Some.ensures.implied) m h n

pub returns-in-Some-clause-resolved : goal.returns-in-Some-clause-resolved
returns-in-Some-clause-resolved g c =
    let trail = c.args.trail.now in
    let place = c.args.place in
    let l = c.entry-entry.result.literal in
    let at : l ≡ literal_at trail place = ap (λ x. x.literal) c.entry-entry.ensures.is in
    let clause = c.in-Some.clause.now in (
      clause,
      c.in-Some.ensures.held,
      antecedent_here trail _ l place clause c.requires.stands at c.in-Some.ensures.implied,
      subst (λ x. Touched (Some x) c.args.marks.now c.touch.new.marks clause) at c.touch.ensures.touched,
    )

pub touch-requires-2-clause-negated : goal.touch-requires-2-clause-negated
touch-requires-2-clause-negated g c m h n =
    let trail = c.args.trail.now in
    let place = c.args.place in
    let l = c.entry-entry.result.literal in
    let at : l ≡ literal_at trail place = ap (λ x. x.literal) c.entry-entry.ensures.is in
    let clause = c.in_ok-clause.clause in
    others_before trail l place clause c.requires.place at (antecedent_here trail _ l place clause c.requires.stands at c.in_ok-clause.ensures.implied) m (ap (λ ls. has_literal ls m) (sym c.as_slice.ensures) ∙ h) n

pub returns-clause-resolved : goal.returns-clause-resolved
returns-clause-resolved g c =
    let trail = c.args.trail.now in
    let place = c.args.place in
    let l = c.entry-entry.result.literal in
    let at : l ≡ literal_at trail place = ap (λ x. x.literal) c.entry-entry.ensures.is in
    let clause = c.in_ok-clause.clause in (
      clause,
      c.in_ok-clause.ensures.clause,
      antecedent_here trail _ l place clause c.requires.stands at c.in_ok-clause.ensures.implied,
      subst (λ x. Touched (Some x) c.args.marks.now c.touch-2.new.marks clause) at (subst (λ ls. Touched (Some l) c.args.marks.now c.touch-2.new.marks ls) c.as_slice.ensures c.touch-2.ensures.touched),
    )

pub clause_of-requires-clause-below : goal.clause_of-requires-clause-below
clause_of-requires-clause-below g c =
    let at : literal_at c.args.trail.now c.args.place ≡ c.entry-entry.result.literal = sym (ap (λ x. x.literal) c.entry-entry.ensures.is) in
    subst (λ t. StandsBelow t (g.S.Antecedents.reach c.args.source.now) c.entry-entry.result.literal) (sym c.requires.stands) (c.args.place, c.requires.reach, (c.requires.place, at))
