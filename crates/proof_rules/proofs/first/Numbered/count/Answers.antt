use Rattle.std.proofs.Common.{arith}
use Rattle.proof_rules.proofs.FirstLaws.{few_clauses, few_parities}
use Rattle.proof_rules.proofs.first.Numbered.count.Goals as goal

pub returns-in-Clauses-clause-few : goal.returns-in-Clauses-clause-few
returns-in-Clauses-clause-few c = omega (arith, c.len-few.ensures.len, c.len-few.ensures.few, c.clause_count.ensures, few_clauses c.in-Clauses.formula.now.constraints)

pub returns-in-Parities-clause-few : goal.returns-in-Parities-clause-few
returns-in-Parities-clause-few c = omega (arith, c.len-few-in-Parities.ensures.len, c.len-few-in-Parities.ensures.few, c.parity_count.ensures, few_parities c.in-Parities.formula.now.constraints)
