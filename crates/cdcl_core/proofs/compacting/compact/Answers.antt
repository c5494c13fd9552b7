use Rattle.std.proofs.Common.{ap}
use Rattle.watch_lists.proofs.RenamedLaws.{lowered}
use Rattle.cdcl_core.proofs.CompactedTies.{stands_moved, names_live}
use Rattle.cdcl_core.proofs.compacting.compact.Goals as goal

pub rename-requires-2 : goal.rename-requires-2
rename-requires-2 c = lowered c.args.state.now.arena c.compact.new.self c.in_ok-moved.moved c.in_ok-moved.ensures.renamed

pub returns-clause-compacted : goal.returns-clause-compacted
returns-clause-compacted c = (
  c.in_ok-moved.moved,
  record {
    arena = c.in_ok-moved.ensures.renamed;
    watches = c.rename-2.ensures;
    tidy_below = c.new_end-state.ensures c.args.state.now.arena c.args.state.now.tidy_below c.in_ok-moved.ensures.renamed c.first_live-first.ensures;
    others = ap (λ t. record c.args.state.now { arena = c.compact.new.self; trail = t; watches = c.rename-2.new.self; tidy_below = c.new_end-state.result }) c.rename.ensures.renamed;
  },
)

pub returns-clause-stands : goal.returns-clause-stands
returns-clause-stands c = stands_moved c.in_ok-moved.moved c.args.state.now (record c.args.state.now { arena = c.compact.new.self; trail = c.rename.new.self; watches = c.rename-2.new.self; tidy_below = c.new_end-state.result })
    (record {
      arena = c.in_ok-moved.ensures.renamed;
      watches = c.rename-2.ensures;
      tidy_below = c.new_end-state.ensures c.args.state.now.arena c.args.state.now.tidy_below c.in_ok-moved.ensures.renamed c.first_live-first.ensures;
      others = ap (λ t. record c.args.state.now { arena = c.compact.new.self; trail = t; watches = c.rename-2.new.self; tidy_below = c.new_end-state.result }) c.rename.ensures.renamed;
    }) c.rename.ensures.sound

pub returns-clause-names : goal.returns-clause-names
returns-clause-names c = names_live c.in_ok-moved.moved c.args.state.now (record c.args.state.now { arena = c.compact.new.self; trail = c.rename.new.self; watches = c.rename-2.new.self; tidy_below = c.new_end-state.result })
    (record {
      arena = c.in_ok-moved.ensures.renamed;
      watches = c.rename-2.ensures;
      tidy_below = c.new_end-state.ensures c.args.state.now.arena c.args.state.now.tidy_below c.in_ok-moved.ensures.renamed c.first_live-first.ensures;
      others = ap (λ t. record c.args.state.now { arena = c.compact.new.self; trail = t; watches = c.rename-2.new.self; tidy_below = c.new_end-state.result }) c.rename.ensures.renamed;
    }) c.rename.ensures.sound
