use Rattle.proof_trim.proofs.SetLaws.{when_ok, insert_clause, insert_parity}
use Rattle.proof_trim.proofs.names.NameSet.insert.Goals as goal

pub returns-in-Clauses : goal.returns-in-Clauses
returns-in-Clauses c = when_ok c.insert.result _ _ (insert_clause c.args.self.now c.args.id c.insert.new.self c.args.kind c.in-Clauses.is) c.insert.ensures

pub returns-in-Parities : goal.returns-in-Parities
returns-in-Parities c = when_ok c.insert-in-Parities.result _ _ (insert_parity c.args.self.now c.args.id c.insert-in-Parities.new.self c.args.kind c.in-Parities.is) c.insert-in-Parities.ensures
