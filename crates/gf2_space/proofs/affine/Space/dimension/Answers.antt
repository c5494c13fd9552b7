use Rattle.std.proofs.Common.{subst}
use Rattle.gf2_space.specs.Spaces.{AffineSpace, IsSpaceOf}
use Rattle.gf2_space.proofs.Echelons.{space_of_kept}
use Rattle.gf2_space.proofs.affine.Space.dimension.Goals as goal

pub returns-clause-space : goal.returns-clause-space
returns-clause-space c =
    let m = c.self.inside in
    subst (λ (s : AffineSpace). IsSpaceOf s.vars s.parities s) c.self.view_is (space_of_kept m.rows m.owners.items m.free.items c.self.invariant.0)
