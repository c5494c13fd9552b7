use Rattle.std.proofs.Common.{rules}
use Rattle.cx_base.proofs.places.Places.push.Goals as goal

pub returns-in_ok-push-in-Clause-clause-clauses : goal.returns-in_ok-push-in-Clause-clause-clauses
returns-in_ok-push-in-Clause-clause-clauses c = search rules

pub returns-in_ok-push-in-Clause-clause-parities :
    goal.returns-in_ok-push-in-Clause-clause-parities
returns-in_ok-push-in-Clause-clause-parities c = search rules
