use Rattle.std.proofs.Common.{ap}
use Rattle.clause_arena.specs.Clauses.{ArenaState}
use Rattle.clause_tidy.proofs.Composing.{nothing_tidied}
use Rattle.clause_tidy.proofs.Keeping.{keeping_tidies}
use Rattle.clause_tidy.proofs.WeightLaws.{same_kept}
use Rattle.clause_tidy.proofs.Dropping.{may_go_then}
use Rattle.clause_tidy.proofs.Shrinkings.{nothing_shrinks, kept_long, kept_shrinks}
use Rattle.clause_tidy.proofs.changes.keep_for.Goals as goal

pub returns-then-not-learned-clause-tidies : goal.returns-then-not-learned-clause-tidies
returns-then-not-learned-clause-tidies c = λ formula spare. keeping_tidies c.args.arena.now c.keep.new.self c.args.pair.now.part c.requires.part (ap (λ (x : ArenaState). x.clauses) c.keep.ensures) formula spare

pub returns-then-not-learned-clause-may_go : goal.returns-then-not-learned-clause-may_go
returns-then-not-learned-clause-may_go c =
    may_go_then c.args.arena.now c.keep.new.self c.args.pair.now.part c.args.pair.now.whole c.requires.part c.requires.whole c.requires.differ c.requires.inside (ap (λ (x : ArenaState). x.clauses) c.keep.ensures)

pub returns-else-not-learned-clause-tidies : goal.returns-else-not-learned-clause-tidies
returns-else-not-learned-clause-tidies c = λ formula spare. nothing_tidied formula spare c.args.arena.now

pub returns-then-not-learned-clause-weight : goal.returns-then-not-learned-clause-weight
returns-then-not-learned-clause-weight c = same_kept c.args.arena.now c.keep.new.self c.args.pair.now.part c.requires.part (ap (λ (x : ArenaState). x.clauses) c.keep.ensures)

pub returns-then-not-learned-clause-shrinks : goal.returns-then-not-learned-clause-shrinks
returns-then-not-learned-clause-shrinks c = kept_shrinks c.args.arena.now c.keep.new.self c.args.pair.now.part c.requires.part (ap (λ (x : ArenaState). x.clauses) c.keep.ensures)

pub returns-then-not-learned-clause-references : goal.returns-then-not-learned-clause-references
returns-then-not-learned-clause-references c = kept_long c.args.arena.now c.keep.new.self c.args.pair.now.part c.requires.part (ap (λ (x : ArenaState). x.clauses) c.keep.ensures)

pub returns-else-not-learned-clause-shrinks : goal.returns-else-not-learned-clause-shrinks
returns-else-not-learned-clause-shrinks c = nothing_shrinks c.args.arena.now
