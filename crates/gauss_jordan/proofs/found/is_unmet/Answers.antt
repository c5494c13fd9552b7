use Rattle.std.proofs.Common.{◌∙◌, sym, ap}
use Rattle.cx_base.specs.Literals.{differ}
use Rattle.gf2_matrix.specs.Content.{row_at}
use Rattle.gf2_rows.proofs.Words.{differ-beq}
use Rattle.gauss_jordan.proofs.found.is_unmet.Goals as goal

pub returns : goal.returns
returns c = λ m r of wide v long holds.
    ap (λ b. differ b (row_at m.rows r).right) (sym (c.parity_and.ensures ∙ of.sum c.args.truths.now v wide long holds))
    ∙ ap (differ c.parity_and.result) (sym (c.right.ensures ∙ of.right)) ∙ sym (differ-beq c.parity_and.result c.right.result)
