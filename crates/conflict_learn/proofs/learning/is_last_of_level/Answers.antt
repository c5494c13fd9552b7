use Rattle.std.proofs.Common.{◌≤◌, ap, ◌∙◌, sym, true≢false, arith}
use Rattle.std.proofs.lemmas.Bool.{ltb-true, ltb-false}
use Rattle.conflict_learn.specs.Learning.{literal_at, level_at}
use Rattle.conflict_learn.proofs.MarkLaws.{lower_before, all_clear}
use Rattle.conflict_learn.proofs.learning.is_last_of_level.Goals as goal

pub returns-in-Some-clause-last : goal.returns-in-Some-clause-last
returns-in-Some-clause-last c h q less m =
    let trail = c.args.trail.now in
    let p = c.in-Some.next in
    let top : level_at trail q ≤ level_at trail p = lower_before trail c.level.ensures.sound c.args.marks.now c.args.lowest c.args.place p (omega (arith, c.requires.place)) c.in-Some.ensures q less m in
    omega (arith, top, ap (λ x. x.level) c.entry.ensures.is, c.level.ensures.level, ltb-true _ _ h)

pub returns-in-Some-clause-more : goal.returns-in-Some-clause-more
returns-in-Some-clause-more c h =
    let p = c.in-Some.next in
    let last = c.in-Some.ensures in
    let high = c.level.ensures.sound.levels p (omega (arith, last.below, c.requires.place)) in
    (p, last.below, last.marked, omega (arith, high, ap (λ x. x.level) c.entry.ensures.is, c.level.ensures.level, ltb-false _ _ h))

pub returns-in-None-clause-last : goal.returns-in-None-clause-last
returns-in-None-clause-last c h q less m =
    let trail = c.args.trail.now in
    absurd (true≢false (sym m ∙ all_clear trail c.args.marks.now c.args.lowest c.args.place c.requires.stand c.in-None.ensures (literal_at trail q).variable))

pub returns-in-None-clause-more : goal.returns-in-None-clause-more
returns-in-None-clause-more c h = absurd (true≢false h)
