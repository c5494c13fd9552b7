use Rattle.std.proofs.Common.{◌∙◌, ◌+◌, ℕ, cond, nat_eq, ap}
use Rattle.std.specs.FinSet as set
use Rattle.cx_base.specs.Parity.{NormalForm}
use Rattle.gf2_rows.specs.Bits.{bit_of}
use Rattle.parity_engine.proofs.Forms.{contains-form}
use Rattle.gf2_matrix.specs.Content.{row_at, equation}
use Rattle.gauss_jordan.proofs.Copies.{terms_more}
use Rattle.gauss_jordan.proofs.slot.copy_terms.Goals as goal

pub loop-before-preserved : goal.loop-before-preserved
loop-before-preserved c =
    let m = c.args.matrix.now in
    let n : ℕ = c.loop-before.before in
    let row = row_at m.rows c.args.row in
    terms_more m c.args.row c.args.terms.now c.loop-before.terms c.put.new.row n c.has.result c.loop-before.invariant c.put.auto.row
    (λ j. c.put.ensures j ∙ ap (λ k. cond (nat_eq j k) c.has.result (bit_of c.loop-before.terms j)) c.from.ensures)
    (c.has.ensures ∙ ap (λ v. set.contains c.row_view-view.result.variables v) c.new.ensures ∙ ap (λ (f : NormalForm). set.contains f.variables (n + 1)) c.row_view-view.ensures
    ∙ contains-form (equation row) n)
