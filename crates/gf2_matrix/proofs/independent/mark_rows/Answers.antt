use Rattle.std.proofs.Common.{◌≡◌, ◌<◌, ◌∙◌, true, false, length, get_or, sym, subst, arith, inl, inr}
use Rattle.std.proofs.lemmas.Bool.{cases_eq}
use Rattle.gf2_matrix.specs.Content.{has, row_at}
use Rattle.gf2_matrix.proofs.Marking.{none_found}
use Rattle.gf2_matrix.proofs.independent.mark_rows.Goals as goal
use Rattle.gf2_matrix.proofs.independent.mark_rows.Goals.{then-is_some, else-is_some}

pub loop-row-preserved : goal.loop-row-preserved
loop-row-preserved c = λ r x k lt small has_x on.
    let m = c.args.matrix.now in
    let before = c.loop-row.invariant in
    let row_in : c.loop-row.row < length m.rows = let t = c.loop-row-test.true in let n = c.rows-row-end.ensures.count in omega arith in
    elim c.if-is_some.branch [
      | then-is_some w ↦
          rw w.marks-is
          (elim (cases_eq r c.loop-row.row) [
            | inl e ↦ w.mark_sources.ensures.marked k small (subst (λ i. get_or (row_at m.rows i).sources k false ≡ true) e on)
            | inr ne ↦ w.mark_sources.ensures.stay k (before r x k (omega arith) small has_x on)
          ])
      | else-is_some w ↦
          rw w.marks-is
          (elim (cases_eq r c.loop-row.row) [
            | inl e ↦
                absurd
                (none_found m c.loop-row.row c.first_column.result c.rows-row-end.ensures.of_given row_in (sym c.is_some.ensures ∙ w.if-is_some.false) c.first_column.ensures x
                (subst (λ i. has (row_at m.rows i) x ≡ true) e has_x))
            | inr ne ↦ before r x k (omega arith) small has_x on
          ])
    ]
