use Rattle.std.proofs.Common.{◌∙◌, ap, ℕ, List}
use Rattle.std.specs.List.{remove}
use Rattle.cx_base.specs.Parity.{normal_form}
use Rattle.plain_tests.specs.Marking.{are_one_each}
use Rattle.plain_tests.proofs.MarkingLaws.{one_each_by}
use Rattle.plain_tests.proofs.fitting.has_one_of_each.Goals as goal

pub returns : goal.returns
returns c =
    let lits = c.args.lits.now in
    let content = c.in_ok-fill_parity_content.ensures in
    one_each_by (normal_form c.args.parity.now).variables content.0 lits content.2 c.are_one_each.result
    (c.are_one_each.ensures ∙ ap (λ (vars : List ℕ). are_one_each vars lits) (c.deref.ensures.value ∙ c.remove-right_side.ensures.items ∙ ap (λ (xs : List ℕ). remove xs 0) content.1))
