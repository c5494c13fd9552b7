use Rattle.std.proofs.Common.{ℕ, List, ◌≡◌, ◌-◌, ◌∙◌, sym, ap, arith}
use Rattle.cx_base.specs.Literals.{value_of}
use Rattle.gf2_space.specs.Spaces.{AffineSpace}
use Rattle.gf2_space.specs.Kept.{point_value}
use Rattle.gf2_space.proofs.Echelons.{point_read}
use Rattle.gf2_space.proofs.affine.Space.point.Goals as goal

pub returns : goal.returns
returns c =
    let m = c.self.inside in
    let x = c.args.var - 1 in
    let index = c.index-index.ensures.index in
    let within = c.requires in
    let vars : m.rows.vars ≡ c.args.self.now.vars = ap (λ (t : AffineSpace). t.vars) c.self.view_is in
    c.point_value.ensures
    ∙ ap (λ (o : List ℕ). point_value m.rows o x) c.deref.ensures.value
    ∙ sym (point_read m.rows m.owners.items m.free.items c.self.invariant.0 x (omega arith))
    ∙ ap (λ (t : AffineSpace). value_of t.point c.args.var) c.self.view_is
