use Rattle.std.proofs.Common.{subst}
use Rattle.proof_rules.specs.declared.live.Kind.TheVariants.{Clauses, Parities}
use Rattle.proof_trim.specs.Outcomes.{ListsNames}
use Rattle.proof_trim.proofs.trimming.named_constraints.Goals as goal

pub returns-clause-clauses : goal.returns-clause-clauses
returns-clause-clauses c = subst (λ count. ListsNames c.args.names.now Clauses count c.in_ok-clauses.clauses) c.clause_count.ensures c.in_ok-clauses.ensures

pub returns-clause-parities : goal.returns-clause-parities
returns-clause-parities c = subst (λ count. ListsNames c.args.names.now Parities count c.in_ok-parities.parities) c.parity_count.ensures c.in_ok-parities.ensures
