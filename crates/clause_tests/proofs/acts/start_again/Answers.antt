use Rattle.std.proofs.Common.{sym, subst}
use Rattle.watch_lists.specs.Watching.{WatchState, Fits}
use Rattle.clause_tests.proofs.acts.start_again.Goals as goal

pub returns : goal.returns
returns c = subst (λ (w : WatchState). Fits w c.args.arena.now c.back_to-2.new.self) (sym c.back_to.ensures)
    (c.taken_back_fits.ensures c.args.watches.now c.args.arena.now c.args.trail.now c.back_to-2.new.self 0 c.back_to-2.ensures.back c.requires)
