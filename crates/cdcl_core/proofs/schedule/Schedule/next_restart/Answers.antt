use Rattle.std.proofs.Common.{sym, ap, ◌∙◌, arith, true≢false}
use Rattle.cdcl_core.specs.declared.schedule.Schedule.{Schedule}
use Rattle.cdcl_core.proofs.OnSchedule.{few_restarts, few_since, is_restart_at, one_more_on_schedule, restarts_on_schedule}
use Rattle.cdcl_core.proofs.schedule.Schedule.next_restart.Goals as goal

pub count-requires : goal.count-requires
count-requires c =
    let few = few_since c.args.self.now c.requires.0 c.requires.2 in
    let bound = c.requires.1 in
    omega (arith, few, bound)

pub is_due-requires : goal.is_due-requires
is_due-requires c =
    let few = few_restarts c.args.self.now c.requires.0 c.requires.2 in
    let bound = c.requires.1 in
    let same = ap (λ (s : Schedule). s.restarts) c.count.ensures in
    omega (arith, few, bound, same)

pub begin_again-requires : goal.begin_again-requires
begin_again-requires c =
    let few = few_restarts c.args.self.now c.requires.0 c.requires.2 in
    let bound = c.requires.1 in
    let same = ap (λ (s : Schedule). s.restarts) c.count.ensures in
    omega (arith, few, bound, same)

pub returns-then-not-is_due-clause-on : goal.returns-then-not-is_due-clause-on
returns-then-not-is_due-clause-on c = λ count on.
    one_more_on_schedule c.args.self.now c.count.new.self count on (ap (λ (s : Schedule). s.since) c.count.ensures) (ap (λ (s : Schedule). s.restarts) c.count.ensures)
    (λ due. true≢false (sym (c.is_due.ensures.1 due) ∙ c.if-not-is_due.true))

pub returns-then-not-is_due-clause-number : goal.returns-then-not-is_due-clause-number
returns-then-not-is_due-clause-number c = ap (λ (s : Schedule). s.restarts) c.count.ensures

pub returns-clause-on : goal.returns-clause-on
returns-clause-on c = λ count on.
    restarts_on_schedule c.args.self.now c.count.new.self c.begin_again.new.self count on (ap (λ (s : Schedule). s.since) c.count.ensures) (ap (λ (s : Schedule). s.restarts) c.count.ensures) (c.is_due.ensures.0 c.if-not-is_due.false)
    (ap (λ (s : Schedule). s.since) c.begin_again.ensures) (ap (λ (s : Schedule). s.restarts) c.begin_again.ensures)

pub returns-clause-number : goal.returns-clause-number
returns-clause-number c =
    let was = ap (λ (s : Schedule). s.restarts) c.count.ensures in
    let now = ap (λ (s : Schedule). s.restarts) c.begin_again.ensures in
    (omega (arith, was, now), omega arith)

pub returns-clause-due : goal.returns-clause-due
returns-clause-due c = λ count on.
    let was = ap (λ (s : Schedule). s.restarts) c.count.ensures in
    let now = ap (λ (s : Schedule). s.restarts) c.begin_again.ensures in
    is_restart_at c.args.self.now c.count.new.self c.begin_again.new.self count on (ap (λ (s : Schedule). s.since) c.count.ensures) was (c.is_due.ensures.0 c.if-not-is_due.false) c.begin_again.new.self.restarts (omega (arith, was, now))
