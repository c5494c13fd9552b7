use Rattle.std.proofs.Common.{◌+◌, ap, sym, ◌∙◌}
use Rattle.std.specs.List.{count_by}
use Rattle.std.proofs.lemmas.List.{take_all}
use Rattle.std.proofs.lemmas.List.Sums.{count_by_more_no, count_by_more_yes}
use Rattle.clause_tidy.specs.Marks.{is_marked}
use Rattle.clause_tidy.proofs.marks.count_marked.Goals.{then-is_marked, else-is_marked}
use Rattle.clause_tidy.proofs.marks.count_marked.Goals as goal

pub loop-lit-preserved : goal.loop-lit-preserved
loop-lit-preserved c =
    let p = is_marked c.args.marks.now in
    let lits = c.args.lits.now in
    let i = c.loop-lit.lit-index in
    let x = c.lit-item.result in
    elim c.if-is_marked.branch [
      | then-is_marked w ↦ w.count-is ∙ ap (λ n. n + 1) c.loop-lit.invariant ∙ sym (count_by_more_yes p lits i x c.loop-lit-test.true (ap p (sym c.lit-item.is) ∙ sym c.is_marked.ensures ∙ w.if-is_marked.true))
      | else-is_marked w ↦ w.count-is ∙ c.loop-lit.invariant ∙ sym (count_by_more_no p lits i x c.loop-lit-test.true (ap p (sym c.lit-item.is) ∙ sym c.is_marked.ensures ∙ w.if-is_marked.false))
    ]

pub returns : goal.returns
returns c = c.loop-lit.invariant ∙ ap (count_by (is_marked c.args.marks.now)) (take_all c.loop-lit.lit-index c.args.lits.now c.loop-lit-test.false)
