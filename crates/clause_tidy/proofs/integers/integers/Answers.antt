use Rattle.std.proofs.Common.{◌≡◌, ◌∙◌, ap, rules, [], ◌∷◌, ◌++◌}
use Rattle.cx_base.specs.Integers.{literals}
use Rattle.clause_tidy.proofs.IntegerLaws.{next_made, all_made}
use Rattle.clause_tidy.proofs.integers.integers.Goals as goal

pub loop-lit-preserved : goal.loop-lit-preserved
loop-lit-preserved c =
    let pushed : c.push.new.self.items ≡ c.loop-lit.integers.items ++ c.integer.result ∷ [] = search rules in
    next_made c.args.lits.now c.loop-lit.lit-index c.loop-lit.integers.items c.push.new.self.items c.lit-item.result c.integer.result c.loop-lit-test.true c.lit-item.is c.loop-lit.invariant
    c.integer.ensures.integer c.integer.ensures.literal c.integer.ensures.proper pushed

pub from_vec-requires : goal.from_vec-requires
from_vec-requires c = c.loop-lit.invariant.proper

pub returns-clause-integers : goal.returns-clause-integers
returns-clause-integers c = c.from_vec.ensures ∙ (all_made c.args.lits.now c.loop-lit.lit-index c.loop-lit.integers.items c.loop-lit-test.false c.loop-lit.invariant).integers

pub returns-clause-literals : goal.returns-clause-literals
returns-clause-literals c = ap literals c.from_vec.ensures ∙ (all_made c.args.lits.now c.loop-lit.lit-index c.loop-lit.integers.items c.loop-lit-test.false c.loop-lit.invariant).literals
