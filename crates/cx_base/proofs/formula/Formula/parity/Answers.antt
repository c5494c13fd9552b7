use Rattle.std.proofs.Common.{◌∙◌, ◌-◌, ◌<◌, ap, sym, subst, length, arith, Some}
use Rattle.cx_base.specs.Problem.{Problem, parities_of}
use Rattle.cx_base.specs.Places.{ArePlaces}
use Rattle.cx_base.proofs.PlaceLaws.{parity_at, length-parities_of}
use Rattle.cx_base.proofs.formula.Formula.parity.Goals as goal

pub index-place-requires : goal.index-place-requires
index-place-requires c =
    let long = length-parities_of _ _ _ c.self.invariant.2 ∙ ap (λ (p : Problem). length (parities_of p.constraints)) c.self.view_is in
    omega (arith, long)

pub lits_at-requires : goal.lits_at-requires
lits_at-requires c =
    let placed = subst (ArePlaces _ _) (ap (λ (p : Problem). p.constraints) c.self.view_is) c.self.invariant.2 in
    let less : c.args.number - 1 < length (parities_of c.args.self.now.constraints) = omega arith in
    (parity_at _ _ _ _ _ placed less c.index-place.ensures).less

pub returns-clause-parity : goal.returns-clause-parity
returns-clause-parity c =
    let placed = subst (ArePlaces _ _) (ap (λ (p : Problem). p.constraints) c.self.view_is) c.self.invariant.2 in
    let less : c.args.number - 1 < length (parities_of c.args.self.now.constraints) = omega arith in
    (parity_at _ _ _ _ _ placed less c.index-place.ensures).is ∙ ap Some (sym c.lits_at.ensures)
