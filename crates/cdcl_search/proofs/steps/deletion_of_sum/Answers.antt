use Rattle.std.proofs.Common.{ap, ◌≡◌, [], rules}
use Rattle.cx_base.specs.declared.steps.LogStep.TheVariants.{DeleteParity}
use Rattle.cdcl_search.proofs.StepTexts.{deletion_of_sum_text}
use Rattle.cdcl_search.proofs.steps.deletion_of_sum.Goals as goal

pub returns : goal.returns
returns c =
    let none : c.from_vec.result ≡ [] = search rules in
    record { is = ap (DeleteParity c.args.id) none; text = deletion_of_sum_text c.args.id c.from_vec.result c.requires none }
