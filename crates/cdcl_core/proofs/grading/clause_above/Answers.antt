use Rattle.std.proofs.Common.{◌<◌, refl, sym, arith}
use Rattle.cx_trail.specs.Sequence.{entry_at}
use Rattle.cdcl_core.proofs.grading.clause_above.Goals as goal

pub returns-in-Clause : goal.returns-in-Clause
returns-in-Clause c =
    let a = c.requires in
    let e = entry_at c.args.trail.now.entries a.0 in
    let level = c.level_of.ensures e (a.0, a.1, refl, a.2) in
    let other = c.if-level_of-eq0.false in
    let above : 0 < e.level = omega (arith, level, other) in
    (a.0, a.1, above, sym (c.in-Clause.ensures e (a.0, a.1, refl, a.2)))
