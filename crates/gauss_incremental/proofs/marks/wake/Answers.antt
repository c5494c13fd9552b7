use Rattle.std.proofs.Common.{◌<◌, ◌∙◌, length, sym, subst}
use Rattle.gauss_incremental.specs.Lists.{IsFit, IsPassedBy}
use Rattle.gauss_incremental.proofs.Listing.{passed_none, woken_all}
use Rattle.gauss_incremental.proofs.marks.wake.Goals as goal
use Rattle.gauss_incremental.proofs.marks.wake.Goals.{After-empty}

pub returns-then-column-columns-clause-passed : goal.returns-then-column-columns-clause-passed
returns-then-column-columns-clause-passed c =
    passed_none c.args.watches.now.lists c.args.basics.now c.args.watches.now.watched.items c.args.watches.now.line.flags c.args.columns c.args.column (length c.args.watches.now.line.flags) c.requires.listed c.if-column-columns.true

pub set-set-requires : goal.set-set-requires
set-set-requires c = subst (λ n. c.args.column < n) (sym c.requires.fit.columns_are) c.if-column-columns.false

pub empty-requires : goal.empty-requires
empty-requires c = subst (λ n. c.args.column < n) (sym c.requires.fit.columns_are) c.if-column-columns.false

pub wake_set-requires-clause-alike : goal.wake_set-requires-clause-alike
wake_set-requires-clause-alike c = rw c.deref.ensures.value c.requires.alike

pub wake_set-requires-clause-few : goal.wake_set-requires-clause-few
wake_set-requires-clause-few c = c.set-set.ensures.few

pub wake_set-requires-clause-step : goal.wake_set-requires-clause-step
wake_set-requires-clause-step c = c.slots-step.ensures.is ∙ c.set-set.ensures.long

all : (c : After-empty) → IsPassedBy c.empty.new.self c.args.basics.now c.args.watches.now.watched.items c.args.watches.now.line.flags c.wake_set.new.line.flags c.args.columns c.args.column (length c.args.watches.now.line.flags)
    × IsFit c.empty.new.self c.args.columns
all c =
    woken_all c.args.watches.now.lists c.empty.new.self c.set-set.result.now c.args.basics.now c.args.watches.now.watched.items c.args.watches.now.line.flags c.wake_set.new.line.flags c.args.columns c.args.column
    c.slots-step.result c.requires.fit c.if-column-columns.false c.slots-step.ensures.is c.requires.listed c.set-set.ensures (rw c.deref.ensures.value at c.wake_set.ensures.wakes) c.empty.ensures

pub returns-clause-passed : goal.returns-clause-passed
returns-clause-passed c = (all (goal.at.returns-clause-passed c).After-empty).0

pub returns-clause-fit : goal.returns-clause-fit
returns-clause-fit c = (all (goal.at.returns-clause-fit c).After-empty).1

pub returns-clause-long : goal.returns-clause-long
returns-clause-long c = c.wake_set.ensures.long
