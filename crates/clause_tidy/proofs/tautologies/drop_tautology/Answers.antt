use Rattle.clause_tidy.proofs.Stages.{first_stage}
use Rattle.clause_tidy.proofs.tautologies.drop_tautology.Goals as goal

pub returns-then-not-is_to_go-clause-tidies : goal.returns-then-not-is_to_go-clause-tidies
returns-then-not-is_to_go-clause-tidies g c = λ formula spare. first_stage g.L.Sink formula spare c.args.arena.now c.args.log.now (g.met.L.Sink.keeps_itself c.args.log.now)
