use Rattle.std.proofs.Common.{◌∙◌}
use Rattle.watch_lists.proofs.renaming.move_all.Goals as goal

pub all-preserved : goal.all-preserved
all-preserved c =
    let i = c.all.invariant in
    let e = c.move_one.ensures in
    record {
      pairs = e.pairs;
      lists = e.lists ∙ i.lists;
      over = λ vars k. e.over vars (i.over vars k);
      below = e.below _ _ i.below;
    }
