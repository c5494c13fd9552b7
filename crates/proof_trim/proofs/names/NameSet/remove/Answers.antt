use Rattle.proof_trim.proofs.SetLaws.{remove_clause, remove_parity}
use Rattle.proof_trim.proofs.names.NameSet.remove.Goals as goal

pub returns-in-Clauses : goal.returns-in-Clauses
returns-in-Clauses c = remove_clause c.args.self.now c.args.id c.remove.new.self c.args.kind c.in-Clauses.is c.remove.ensures

pub returns-in-Parities : goal.returns-in-Parities
returns-in-Parities c = remove_parity c.args.self.now c.args.id c.remove-in-Parities.new.self c.args.kind c.in-Parities.is c.remove-in-Parities.ensures
