use Rattle.std.proofs.Common.{◌≡◌, ◌∙◌, rules, List, refl, sym, ap, subst}
use Rattle.cx_base.specs.Literals.{Literal}
use Rattle.conflict_learn.specs.Learning.{Implied}
use Rattle.clause_tests.proofs.source.CheckedSourceAntecedents.clause_of.Goals as goal

pub returns-in_ok-to_vec-in-Clause-clause-implied : goal.returns-in_ok-to_vec-in-Clause-clause-implied
returns-in_ok-to_vec-in-Clause-clause-implied c = λ p h e.
    let t = c.args.self.now.trail.now in
    let at = c.place_of-place.ensures in
    let same : c.from_vec-copy.result ≡ c.lits-lits.result.now = search rules in
    let z : p ≡ c.place_of-place.result = at.sound.distinct p c.place_of-place.result h at.within
    (ap (λ (y : Literal). y.variable) e ∙ sym (ap (λ (y : Literal). y.variable) at.negated ∙ ap (λ (y : Literal). y.variable) c.negate.ensures)) in
    subst (λ (lits : List Literal). Implied t p lits) (sym same) (subst (λ x. Implied t x c.lits-lits.result.now) (sym z) (c.if-not-is_antecedent.ensures refl))
