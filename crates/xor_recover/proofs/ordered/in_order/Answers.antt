use Rattle.std.proofs.Common.{rules}
use Rattle.std.proofs.lemmas.List.Sorted.{IsNonDecreasingBy-from_sort_by_key}
use Rattle.cx_base.specs.Problem.{clauses_of}
use Rattle.xor_recover.specs.declared.wholes.Whole.{Whole}
use Rattle.xor_recover.specs.Starts.{pair_of}
use Rattle.xor_recover.proofs.Walk.{order_moved}
use Rattle.xor_recover.proofs.WholeRows.{wholes_moved}
use Rattle.xor_recover.proofs.ordered.in_order.Goals as goal

pub returns-clause-starts : goal.returns-clause-starts
returns-clause-starts c = order_moved (clauses_of c.args.formula.now.constraints) _ _ _ _ c.sort_unstable_by_key.ensures.permutation c.sort_unstable_by_key-2.ensures.permutation c.in_ok-starts.ensures.starts

pub returns-clause-wholes : goal.returns-clause-wholes
returns-clause-wholes c = wholes_moved (clauses_of c.args.formula.now.constraints) _ _ c.sort_unstable_by_key-2.ensures.permutation c.in_ok-starts.ensures.wholes

pub returns-clause-starts_rise : goal.returns-clause-starts_rise
returns-clause-starts_rise c = IsNonDecreasingBy-from_sort_by_key pair_of c.sort_unstable_by_key.new.self.items c.sort_unstable_by_key.ensures.sorted (λ a r f' k. search rules)

pub returns-clause-wholes_rise : goal.returns-clause-wholes_rise
returns-clause-wholes_rise c = IsNonDecreasingBy-from_sort_by_key (λ (w : Whole). pair_of w.start) c.sort_unstable_by_key-2.new.self.items c.sort_unstable_by_key-2.ensures.sorted (λ a r f' k. search rules)
