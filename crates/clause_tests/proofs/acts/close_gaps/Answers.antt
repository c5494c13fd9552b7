use Rattle.std.proofs.Common.{sym, subst}
use Rattle.cx_trail.specs.Sequence.{TrailState}
use Rattle.watch_lists.specs.Watching.{Fits}
use Rattle.clause_tests.proofs.acts.close_gaps.Goals as goal

pub returns : goal.returns
returns c = subst (λ (t : TrailState). Fits c.rename-2.new.self c.compact.new.self t) (sym c.rename.ensures.renamed)
    (c.renamed_watches_fit.ensures c.args.watches.now c.rename-2.new.self c.args.arena.now c.compact.new.self c.args.trail.now c.in_ok-moved.moved c.in_ok-moved.ensures.renamed c.rename-2.ensures c.requires)
