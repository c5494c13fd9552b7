use Rattle.std.proofs.Common.{◌≡◌, ◌-◌, ◌<◌, ◌∙◌, ap, arith, get_or, length}
use Rattle.std.proofs.lemmas.List.{get_or_default}
use Rattle.parity_engine.proofs.Rising.{column-low, column-high}
use Rattle.gf2_space.specs.Spaces.{AffineSpace}
use Rattle.gf2_space.proofs.affine.Space.free.Goals as goal
use Rattle.gf2_space.proofs.affine.Space.free.Goals.{After-row_known-1}

here : (c : After-row_known-1) → c.args.number - 1 < length c.self.inside.free.items
here c =
    let low = c.requires.low in
    let high = c.requires.high in
    let same : length c.self.inside.free.items ≡ length c.args.self.now.free = ap (λ (s : AffineSpace). length s.free) c.self.view_is in
    omega arith

read : (c : After-row_known-1) → c.index.result.now ≡ get_or c.self.inside.free.items (c.args.number - 1) 0
read c = c.index.ensures ∙ get_or_default c.self.inside.free.items (c.args.number - 1) c.index.result.now 0 (here c)

pub new-requires-clause-low : goal.new-requires-clause-low
new-requires-clause-low c =
    let m = c.self.inside in
    let e = read c in
    let low = column-low 1 m.rows.vars m.free.items (c.args.number - 1) c.self.invariant.0.free_are.rising (here c) in
    omega arith

pub new-requires-clause-high : goal.new-requires-clause-high
new-requires-clause-high c =
    let m = c.self.inside in
    let e = read c in
    let high = column-high 1 m.rows.vars m.free.items (c.args.number - 1) c.self.invariant.0.free_are.rising (here c) in
    let few = c.vars-vars.ensures.small in
    let is = c.vars-vars.ensures.is in
    omega arith
