use Rattle.std.proofs.Common.{◌∙◌, ap, ◌∷◌}
use Rattle.step_text.proofs.lay_out.lay_out_parity_deletion.Goals as goal

pub returns-clause-laid : goal.returns-clause-laid
returns-clause-laid c = c.lay_out_text.ensures.laid ∙ ap (λ t. 120 ∷ t) c.lay_out_deleted-behind.ensures.laid
