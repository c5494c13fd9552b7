use Rattle.std.proofs.Common.{ap, ◌≡◌, [], rules}
use Rattle.cx_base.specs.declared.steps.LogStep.TheVariants.{Delete}
use Rattle.clause_tidy.proofs.StepTexts.{deletion_text}
use Rattle.clause_tidy.proofs.steps.deletion.Goals as goal

pub returns : goal.returns
returns c =
    let none : c.from_vec.result ≡ [] = search rules in
    record { is = ap (Delete c.args.id) none; text = deletion_text c.args.id c.from_vec.result c.requires none }
