use Rattle.cx_judgements.proofs.LearnedClauses.{learns_clauses}
use Rattle.cx_judgements.proofs.laws.marked_logs_learn.Goals as goal

pub returns : goal.returns
returns c = learns_clauses
