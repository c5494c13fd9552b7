use Rattle.std.proofs.Common.{◌≡◌, ap, subst, List}
use Rattle.conflict_learn.specs.Learning.{literal_at}
use Rattle.conflict_learn.specs.Touching.{IsCovered}
use Rattle.conflict_learn.proofs.TouchLaws.{antecedent_here, others_before, before_is_in}
use Rattle.conflict_learn.proofs.shortening.is_redundant.Goals as goal

pub is_covered-requires-clause-negated : goal.is_covered-requires-clause-negated
is_covered-requires-clause-negated g c m h n =
    let trail = c.args.trail.now in
    let place = c.args.place in
    let l = c.entry-entry.result.literal in
    let at : l ≡ literal_at trail place = ap (λ x. x.literal) c.entry-entry.ensures.is in
    let clause = c.in-Some.clause.now in
    let a = antecedent_here trail _ l place clause c.requires.stands at c.in-Some.ensures.implied in
    before_is_in trail place m (let within = c.requires.place in omega (Rattle.std.proofs.Common.arith, within)) (others_before trail l place clause c.requires.place at a m h n)

pub returns-in-Some-clause-covered : goal.returns-in-Some-clause-covered
returns-in-Some-clause-covered g c h =
    let trail = c.args.trail.now in
    let place = c.args.place in
    let l = c.entry-entry.result.literal in
    let at : l ≡ literal_at trail place = ap (λ x. x.literal) c.entry-entry.ensures.is in
    let clause = c.in-Some.clause.now in (
      clause,
      _,
      c.in-Some.ensures.held,
      antecedent_here trail _ l place clause c.requires.stands at c.in-Some.ensures.implied,
      subst (λ x. IsCovered trail c.args.marks.now x clause) at (c.is_covered.ensures h),
    )
