use Rattle.std.proofs.Common.{◌∙◌, ap, ◌++◌, decimal}
use Rattle.step_text.proofs.lay_out.lay_out_deletion.Goals as goal

pub returns-clause-laid : goal.returns-clause-laid
returns-clause-laid c = c.lay_out_id.ensures.laid ∙ ap (λ t. decimal c.args.name ++ t) c.lay_out_deleted-behind.ensures.laid
