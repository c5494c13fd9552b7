use Rattle.std.proofs.Common.{sym, subst}
use Rattle.proof_rules.specs.Contents.{IsParityContent}
use Rattle.plain_tests.proofs.JudgedLaws.{same_form_by}
use Rattle.plain_tests.proofs.log_rules.have_same_form.Goals as goal

pub returns : goal.returns
returns c =
    let lits = c.args.lits.now in
    let others = c.args.others.now in
    same_form_by lits others c.deref.result.now c.deref-2.result.now c.are_equal.result
    (subst (IsParityContent lits) (sym c.deref.ensures.value) c.in_ok-fill_parity_content.ensures)
    (subst (IsParityContent others) (sym c.deref-2.ensures.value) c.in_ok-fill_parity_content-2.ensures)
    c.are_equal.ensures
