use Rattle.std.proofs.Common.{ℕ, ◌∙◌, sym, ap, subst}
use Rattle.std.specs.List.{AllByRecursion}
use Rattle.cx_base.specs.Problem.{AreWithin}
use Rattle.gf2_matrix.proofs.FormSums.{every-at}
use Rattle.gf2_space.specs.Spaces.{AffineSpace}
use Rattle.gf2_space.proofs.affine.Space.contains.Goals as goal

pub is_met-requires : goal.is_met-requires
is_met-requires c =
    let n = c.self.inside.rows.vars in
    let given = c.given-parity-items.result.now in
    let within : AllByRecursion (AreWithin n) given = subst (AllByRecursion (AreWithin n)) (sym c.given-parity-items.ensures) c.self.invariant.0.say.within in
    subst (λ (k : ℕ). AreWithin k c.as_slice.result.now) (ap (λ (s : AffineSpace). s.vars) c.self.view_is ∙ sym c.requires)
    (subst (AreWithin n) (sym (c.as_slice.ensures ∙ c.parity-item.is)) (every-at (AreWithin n) given c.loop-parity.parity-index c.parity-item.result within c.loop-parity-test.true))
