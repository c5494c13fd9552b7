use Rattle.std.proofs.Common.{arith, rules}
use Rattle.cx_trail.proofs.LevelLaws.{level_count}
use Rattle.cx_trail.proofs.trail.Trail.decide.Goals as goal

pub overflow_add-self : goal.overflow_add-self
overflow_add-self c =
    let k = c.push.invariant in
    omega (arith, level_count _ _ _ k.is_whole.levels, k.is_whole.short, k.is_whole.few)

pub returns-clause-pushed : goal.returns-clause-pushed
returns-clause-pushed c = search rules
