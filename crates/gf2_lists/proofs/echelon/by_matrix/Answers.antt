use Rattle.std.proofs.Common.{ℕ, ◌<◌, ◌^◌, ◌∙◌, sym, subst, length}
use Rattle.gf2_lists.specs.Made.{AreListsOf}
use Rattle.gf2_lists.proofs.MadeLaws.{by_matrix_are}
use Rattle.gf2_lists.proofs.echelon.by_matrix.Goals as goal

pub returns : goal.returns
returns c =
    let m = c.echelon.new.self in
    let shape = c.echelon.ensures.shape in
    let rows = c.in_ok-rows.rows.items in
    let vars_are = shape.vars ∙ c.in_ok-matrix.ensures.over.0 in
    by_matrix_are c.args.vars m rows vars_are c.echelon.ensures.of_given c.echelon.ensures.echelon (subst (λ (n : ℕ). AreListsOf n m.rows rows (length m.rows)) vars_are c.in_ok-rows.ensures)
    c.args.parities.now (shape.given ∙ c.in_ok-matrix.ensures.over.1) (subst (λ (k : ℕ). k < 2 ^ 32) (sym shape.rows) c.in_ok-matrix.ensures.few_rows)
