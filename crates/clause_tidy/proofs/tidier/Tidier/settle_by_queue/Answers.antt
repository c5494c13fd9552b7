use Rattle.clause_tidy.specs.Answers.{MendsTo}
use Rattle.clause_tidy.proofs.ShorterTold.{nothing_on}
use Rattle.clause_tidy.proofs.tidier.Tidier.settle_by_queue.Goals as goal

pub returns-in-Err-clause-tidies : goal.returns-in-Err-clause-tidies
returns-in-Err-clause-tidies g c =
    nothing_on g.L.Sink c.args.arena.now c.args.log.now (MendsTo c.args.self.now.formula.now c.args.self.now.spare c.args.arena.now c.args.arena.now) (g.met.L.Sink.keeps_itself c.args.log.now) c.args.self.now.formula.now c.args.self.now.spare
