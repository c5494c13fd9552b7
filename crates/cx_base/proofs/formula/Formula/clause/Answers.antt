use Rattle.std.proofs.Common.{◌∙◌, ◌-◌, ◌<◌, ap, sym, subst, length, arith, Some}
use Rattle.cx_base.specs.Problem.{Problem, clauses_of}
use Rattle.cx_base.specs.Places.{ArePlaces}
use Rattle.cx_base.proofs.PlaceLaws.{clause_at, length-clauses_of}
use Rattle.cx_base.proofs.formula.Formula.clause.Goals as goal

pub index-place-requires : goal.index-place-requires
index-place-requires c =
    let long = length-clauses_of _ _ _ c.self.invariant.2 ∙ ap (λ (p : Problem). length (clauses_of p.constraints)) c.self.view_is in
    omega (arith, long)

pub lits_at-requires : goal.lits_at-requires
lits_at-requires c =
    let placed = subst (ArePlaces _ _) (ap (λ (p : Problem). p.constraints) c.self.view_is) c.self.invariant.2 in
    let less : c.args.number - 1 < length (clauses_of c.args.self.now.constraints) = omega arith in
    (clause_at _ _ _ _ _ placed less c.index-place.ensures).less

pub returns-clause-clause : goal.returns-clause-clause
returns-clause-clause c =
    let placed = subst (ArePlaces _ _) (ap (λ (p : Problem). p.constraints) c.self.view_is) c.self.invariant.2 in
    let less : c.args.number - 1 < length (clauses_of c.args.self.now.constraints) = omega arith in
    (clause_at _ _ _ _ _ placed less c.index-place.ensures).is ∙ ap Some (sym c.lits_at.ensures)
