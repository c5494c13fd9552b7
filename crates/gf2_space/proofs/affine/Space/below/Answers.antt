use Rattle.std.proofs.Common.{ℕ, [], ◌∷◌, ◌++◌, ◌≡◌, ◌-◌, ◌<◌, ◌≤◌, ◌∙◌, sym, subst, ap, arith, get_or, length}
use Rattle.parity_engine.proofs.Rising.{column-low, column-high}
use Rattle.parity_engine.specs.Equations.{numbers_from}
use Rattle.gf2_matrix.specs.Columns.{place}
use Rattle.gf2_matrix.proofs.Rows.{place-holds}
use Rattle.gf2_space.specs.declared.supports.Support.{Support}
use Rattle.gf2_space.specs.Spaces.{AffineSpace}
use Rattle.gf2_space.specs.Kept.{vector_of}
use Rattle.gf2_space.specs.Supports.{support}
use Rattle.gf2_space.proofs.Echelons.{read-map}
use Rattle.gf2_space.proofs.Supporting.{vector_line, support_none}
use Rattle.gf2_space.proofs.affine.Space.below.Goals as goal
use Rattle.gf2_space.proofs.affine.Space.below.Goals.{After-free}

here : (c : After-free) → c.args.number - 1 < length c.self.inside.free.items
here c =
    let low = c.requires.low in
    let high = c.requires.high in
    let same : length c.self.inside.free.items ≡ length c.args.self.now.free = ap (λ (s : AffineSpace). length s.free) c.self.view_is in
    omega arith

read : (c : After-free) → c.free.result ≡ get_or c.self.inside.free.items (c.args.number - 1) 0
read c = c.free.ensures ∙ sym (ap (λ (s : AffineSpace). get_or s.free (c.args.number - 1) 0) c.self.view_is)

low : (c : After-free) → 1 ≤ get_or c.self.inside.free.items (c.args.number - 1) 0
low c = column-low 1 c.self.inside.rows.vars c.self.inside.free.items (c.args.number - 1) c.self.invariant.0.free_are.rising (here c)

high : (c : After-free) → get_or c.self.inside.free.items (c.args.number - 1) 0 ≤ c.self.inside.rows.vars
high c = column-high 1 c.self.inside.rows.vars c.self.inside.free.items (c.args.number - 1) c.self.invariant.0.free_are.rising (here c)

-- the line in terms of what is kept
line : (c : After-free) → numbers_from 1 (get_or c.args.self.now.vectors (c.args.number - 1) [])
    ≡ support c.self.inside.rows c.self.inside.owners.items (get_or c.self.inside.free.items (c.args.number - 1) 0) c.self.inside.rows.vars ++ get_or c.args.self.now.free (c.args.number - 1) 0 ∷ []
line c =
    let m = c.self.inside in
    let i : ℕ = c.args.number - 1 in
    let v : ℕ = get_or m.free.items i 0 in
    ap (λ (s : AffineSpace). numbers_from 1 (get_or s.vectors i [])) (sym c.self.view_is)
    ∙ ap (numbers_from 1) (read-map (vector_of m.rows m.owners.items) 0 [] m.free.items i (here c))
    ∙ vector_line m.rows m.owners.items v c.self.invariant.0.owners_are (low c) (high c) (c.self.invariant.0.free_are.unowned i (here c))
    ∙ ap (λ (s : AffineSpace). support m.rows m.owners.items v m.rows.vars ++ get_or s.free i 0 ∷ []) c.self.view_is

pub returns-then-column-columns : goal.returns-then-column-columns
returns-then-column-columns c =
    let s = (goal.at.returns-then-column-columns c).After-free in
    let m = c.self.inside in
    let i : ℕ = c.args.number - 1 in
    let lt = c.if-column-columns.true in
    let count = c.columns.ensures.count in
    let k : ℕ = c.place_of-column.result in
    let k_in : k < length m.rows.columns = omega arith in
    let at : get_or m.rows.columns k 0 ≡ get_or m.free.items i 0 =
    ap (λ j. get_or m.rows.columns j 0) c.place_of-column.ensures
    ∙ place-holds m.rows.columns c.free.result (subst (λ j. j < length m.rows.columns) c.place_of-column.ensures k_in) ∙ read s in
    let list : c.deref.result.now ≡ support m.rows m.owners.items (get_or m.free.items i 0) m.rows.vars =
    c.deref.ensures.value ∙ ap (λ (t : Support). t.vars.items) c.index.ensures ∙ c.self.invariant.1.each k c.index.result.now k_in
    ∙ ap (λ v. support m.rows m.owners.items v m.rows.vars) at in
    line s ∙ ap (λ l. l ++ get_or c.args.self.now.free i 0 ∷ []) (sym list)

pub returns-else-column-columns : goal.returns-else-column-columns
returns-else-column-columns c =
    let s = (goal.at.returns-else-column-columns c).After-free in
    let m = c.self.inside in
    let i : ℕ = c.args.number - 1 in
    let ge = c.if-column-columns.false in
    let count = c.columns.ensures.count in
    let e : place m.rows.columns c.free.result ≡ place m.rows.columns (get_or m.free.items i 0) = ap (place m.rows.columns) (read s) in
    let p = c.place_of-column.ensures in
    line s
    ∙ ap (λ l. l ++ get_or c.args.self.now.free i 0 ∷ [])
    (support_none m.rows m.owners.items (get_or m.free.items i 0) m.rows.vars c.self.invariant.0.say c.self.invariant.0.owners_are (low s) (omega arith))
