use Rattle.std.proofs.Common.{List, Bool, ℕ, true, false, ◌≡◌, ◌+◌, ◌∙◌, sym, ap, subst, length, get_or}
use Rattle.std.proofs.lemmas.List.{with_items_is}
use Rattle.gf2_lists.specs.Occurring.{HasMarks}
use Rattle.parity_engine.specs.Written.{AreRising}
use Rattle.gf2_lists.proofs.RowLaws.{read_vars}
use Rattle.gf2_lists.proofs.Marking.{marks_more}
use Rattle.gf2_lists.proofs.columns.marks_of.Goals as goal

pub mark_list-requires : goal.mark_list-requires
mark_list-requires c =
    let i = c.loop-row.row-index in
    subst (λ (m : ℕ). AreRising 1 m c.deref.result.now) (sym (ap length c.deref_mut.ensures.value ∙ c.loop-row.invariant.long))
    (subst (AreRising 1 c.args.vars) (read_vars c.args.rows.now i c.row-item.result c.loop-row-test.true c.row-item.is ∙ sym c.deref.ensures.value) (c.requires i c.loop-row-test.true))

pub loop-row-preserved : goal.loop-row-preserved
loop-row-preserved c =
    let i = c.loop-row.row-index in
    let old = c.loop-row.marks in
    let new = c.mark_list.new.marks in
    let same = c.deref_mut.ensures.value in
    let long = c.mark_list.ensures.long ∙ ap length same in
    subst (λ (m : List Bool). HasMarks c.args.vars c.args.rows.now m (i + 1)) (sym (with_items_is old new (long ∙ sym old.ok.0)))
    (marks_more c.args.vars i c.args.rows.now old.items new c.row-item.result c.deref.result.now c.loop-row.invariant c.loop-row-test.true c.row-item.is c.deref.ensures.value long
    (subst (λ (o : List Bool). (x : ℕ) → get_or o x false ≡ true → get_or new x false ≡ true) same c.mark_list.ensures.stay) c.mark_list.ensures.marked)
