use Rattle.std.proofs.Common.{◌∙◌, ap, ◌++◌, decimal}
use Rattle.cx_texts.specs.Grammar.{spelled_list}
use Rattle.step_text.specs.Spaced.{spaced}
use Rattle.step_text.proofs.lay_out.lay_out_line.Goals as goal

pub returns-clause-laid : goal.returns-clause-laid
returns-clause-laid c =
    let head = c.args.head in
    let literals = spaced (spelled_list head.literals.now) in
    c.lay_out_text.ensures.laid
    ∙ ap (λ t. head.before.now ++ t) (c.lay_out_id-end.ensures.laid ∙ ap (λ t. decimal head.id ++ t) (c.lay_out_list-end.ensures.laid ∙ ap (λ t. literals ++ t) c.lay_out_tail-end.ensures.laid))
