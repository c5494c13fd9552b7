use Rattle.std.proofs.Common.{◌∙◌}
use Rattle.watch_lists.proofs.AnewLaws.{within_any}
use Rattle.watch_lists.proofs.anew.choose_all.Goals as goal

pub all-preserved : goal.all-preserved
all-preserved c =
    let i = c.all.invariant in
    let e = c.choose_one.ensures in
    record {
      pairs = e.pairs;
      count = e.count ∙ i.count;
      lists = e.lists ∙ i.lists;
      over = λ vars k o. e.over vars (within_any vars c.args.arena.now c.all.at k) (i.over vars k o);
      chosen = e.chosen i.chosen;
    }
