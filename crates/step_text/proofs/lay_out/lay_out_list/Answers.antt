use Rattle.std.proofs.Common.{◌∙◌, sym, ap, ◌∷◌, ◌++◌, [], flat_map, drop, append_assoc}
use Rattle.step_text.specs.Spaced.{spaced_integer}
use Rattle.step_text.proofs.Puts.{spaced_integers}
use Rattle.step_text.proofs.lay_out.lay_out_list.Goals as goal

pub returns-clause-laid : goal.returns-clause-laid
returns-clause-laid c =
    let members = flat_map spaced_integer c.args.members.now in
    let behind = drop c.args.end c.args.sheet.now in
    c.lay_out_integers.ensures.laid ∙ ap (λ t. members ++ t) c.lay_out_text-begin.ensures.laid
    ∙ sym (append_assoc members (32 ∷ 48 ∷ []) behind) ∙ ap (λ t. t ++ behind) (sym (spaced_integers c.args.members.now))
