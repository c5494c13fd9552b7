use Rattle.std.proofs.Common.{◌<◌, ◌∙◌, sym, ap, subst, suc, List, ◌∷◌, length, drop, arith}
use Rattle.std.specs.List.{AllByRecursion}
use Rattle.cx_base.specs.declared.steps.ProofStep.{ProofStep}
use Rattle.proof_trim.specs.Stored.{FitsIn, steps_at}
use Rattle.proof_trim.proofs.StoreLaws.{length-steps, stands_at, fits_there}
use Rattle.proof_trim.proofs.store.StepStore.open_at.Goals as goal

pub start_of-start-requires : goal.start_of-start-requires
start_of-start-requires c = omega (arith, length-steps c.self.inside.integers 0 c.self.inside.ends, ap length c.self.view_is, c.requires.place)

pub end_of-end-requires : goal.end_of-end-requires
end_of-end-requires c = omega (arith, length-steps c.self.inside.integers 0 c.self.inside.ends, ap length c.self.view_is, c.requires.place)

pub fill-requires-clause-low : goal.fill-requires-clause-low
fill-requires-clause-low c =
    let less : c.args.place < length c.self.inside.ends = omega (arith, length-steps c.self.inside.integers 0 c.self.inside.ends, ap length c.self.view_is, c.requires.place) in
    (stands_at c.self.inside.integers c.self.inside.ends c.self.inside.longest c.args.place _ _ c.self.invariant.0 less c.start_of-start.ensures c.end_of-end.ensures).low

pub fill-requires-clause-high : goal.fill-requires-clause-high
fill-requires-clause-high c =
    let less : c.args.place < length c.self.inside.ends = omega (arith, length-steps c.self.inside.integers 0 c.self.inside.ends, ap length c.self.view_is, c.requires.place) in
    (stands_at c.self.inside.integers c.self.inside.ends c.self.inside.longest c.args.place _ _ c.self.invariant.0 less c.start_of-start.ensures c.end_of-end.ensures).high

pub fill-requires-clause-step : goal.fill-requires-clause-step
fill-requires-clause-step c =
    let zs = c.self.inside.integers in
    let ends = c.self.inside.ends in
    let less : c.args.place < length ends = omega (arith, length-steps zs 0 ends, ap length c.self.view_is, c.requires.place) in
    let at = stands_at zs ends c.self.inside.longest c.args.place _ _ c.self.invariant.0 less c.start_of-start.ensures c.end_of-end.ensures in
    fits_there zs (steps_at zs 0 ends) c.self.inside.longest c.args.place c.start_of-start.result c.end_of-end.result c.args.opened.now.room at
    (subst (λ (steps : List ProofStep). AllByRecursion (FitsIn c.args.opened.now.room) steps) (sym c.self.view_is) c.requires.room)

pub returns-clause-step : goal.returns-clause-step
returns-clause-step c =
    let zs = c.self.inside.integers in
    let ends = c.self.inside.ends in
    let less : c.args.place < length ends = omega (arith, length-steps zs 0 ends, ap length c.self.view_is, c.requires.place) in
    let at = stands_at zs ends c.self.inside.longest c.args.place _ _ c.self.invariant.0 less c.start_of-start.ensures c.end_of-end.ensures in
    ap (drop c.args.place) (sym c.self.view_is) ∙ at.there ∙ (λ i. sym c.fill.ensures.step i ∷ drop (suc c.args.place) (c.self.view_is i))
