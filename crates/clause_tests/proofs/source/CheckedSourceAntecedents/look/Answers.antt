use Rattle.std.proofs.Common.{◌≡◌, ◌∙◌, refl, sym, ap, subst}
use Rattle.cx_base.specs.Literals.{Literal}
use Rattle.conflict_learn.specs.Learning.{Implied}
use Rattle.clause_tests.proofs.source.CheckedSourceAntecedents.look.Goals as goal

pub returns-else-not-is_antecedent-clause-implied : goal.returns-else-not-is_antecedent-clause-implied
returns-else-not-is_antecedent-clause-implied c = λ p h e.
    let t = c.args.self.now.trail.now in
    let at = c.place_of-place.ensures in
    let z : p ≡ c.place_of-place.result = at.sound.distinct p c.place_of-place.result h at.within
    (ap (λ (y : Literal). y.variable) e ∙ sym (ap (λ (y : Literal). y.variable) at.negated ∙ ap (λ (y : Literal). y.variable) c.negate.ensures)) in
    subst (λ x. Implied t x c.lits-lits.result.now) (sym z) (c.if-not-is_antecedent.ensures refl)
