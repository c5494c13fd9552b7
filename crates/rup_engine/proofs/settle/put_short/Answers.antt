use Rattle.std.proofs.Common.{refl}
use Rattle.rup_engine.proofs.SearchLaws.{first_in, puts_true, puts_pushed, puts_false}
use Rattle.rup_engine.proofs.settle.put_short.Goals as goal

pub returns-in-True-clause-puts : goal.returns-in-True-clause-puts
returns-in-True-clause-puts c =
    let first = c.in-Some.ensures.item in
    puts_true c.args.arena.now c.args.reference c.in-Some.lit.now c.args.trail.now c.truth.ensures.sound c.requires.level (first_in _ _ _ c.lits.ensures first.3.0 first.1) c.in-True.ensures.means

pub returns-in-Open-clause-puts : goal.returns-in-Open-clause-puts
returns-in-Open-clause-puts c =
    let first = c.in-Some.ensures.item in
    let inside = first_in _ _ _ c.lits.ensures first.3.0 first.1 in
    let live = c.if-not-is_live.ensures.0 refl in
    puts_pushed c.args.arena.now c.args.reference c.in-Some.lit.now c.args.trail.now c.imply.new.self c.requires.level c.imply.ensures.pushed live inside (λ m h. c.requires.short live m c.in-Some.lit.now h inside)

pub returns-in-False-clause-puts : goal.returns-in-False-clause-puts
returns-in-False-clause-puts c =
    let first = c.in-Some.ensures.item in
    let inside = first_in _ _ _ c.lits.ensures first.3.0 first.1 in
    let live = c.if-not-is_live.ensures.0 refl in
    puts_false c.args.arena.now c.args.reference c.in-Some.lit.now c.args.trail.now live (λ m h. c.requires.short live m c.in-Some.lit.now h inside) c.in-False.ensures.means
