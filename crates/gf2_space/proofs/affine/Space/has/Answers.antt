use Rattle.std.proofs.Common.{ℕ, List, ◌≡◌, ◌-◌, ◌<◌, ◌∙◌, sym, ap, arith, get_or, length}
use Rattle.parity_engine.proofs.Rising.{column-high}
use Rattle.gf2_space.specs.Spaces.{AffineSpace, vector_value}
use Rattle.gf2_space.specs.Kept.{vector_bit}
use Rattle.gf2_space.proofs.Echelons.{vector_read}
use Rattle.gf2_space.proofs.affine.Space.has.Goals as goal
use Rattle.gf2_space.proofs.affine.Space.has.Goals.{After-free}

here : (c : After-free) → c.args.number - 1 < length c.self.inside.free.items
here c =
    let low = c.requires.low in
    let high = c.requires.high in
    let same : length c.self.inside.free.items ≡ length c.args.self.now.free = ap (λ (s : AffineSpace). length s.free) c.self.view_is in
    omega arith

read : (c : After-free) → c.free.result ≡ get_or c.self.inside.free.items (c.args.number - 1) 0
read c = c.free.ensures ∙ sym (ap (λ (s : AffineSpace). get_or s.free (c.args.number - 1) 0) c.self.view_is)

pub vector_has-requires-clause-free_within : goal.vector_has-requires-clause-free_within
vector_has-requires-clause-free_within c =
    let m = c.self.inside in
    let e = read c in
    let high = column-high 1 m.rows.vars m.free.items (c.args.number - 1) c.self.invariant.0.free_are.rising (here c) in
    omega arith

pub returns : goal.returns
returns c =
    let m = c.self.inside in
    let s = (goal.at.returns c).After-free in
    let i = c.args.number - 1 in
    let x = c.args.var - 1 in
    let index = c.index-index.ensures.index in
    let within = c.requires.within in
    let vars : m.rows.vars ≡ c.args.self.now.vars = ap (λ (t : AffineSpace). t.vars) c.self.view_is in
    c.vector_has.ensures
    ∙ ap (λ (o : List ℕ). vector_bit m.rows o c.free.result x) c.deref.ensures.value
    ∙ ap (λ v. vector_bit m.rows m.owners.items v x) (read s)
    ∙ sym (vector_read m.rows m.owners.items m.free.items c.self.invariant.0 i x (here s) (omega arith))
    ∙ ap (λ (t : AffineSpace). vector_value t.vectors i c.args.var) c.self.view_is
