use Rattle.std.proofs.Common.{◌∙◌, sym, ap, ◌∷◌, ◌++◌, [], flat_map, drop, append_assoc}
use Rattle.step_text.specs.Spaced.{spaced_id}
use Rattle.step_text.proofs.Puts.{spaced_ids}
use Rattle.step_text.proofs.lay_out.lay_out_id_list.Goals as goal

pub returns-clause-laid : goal.returns-clause-laid
returns-clause-laid c =
    let members = flat_map spaced_id c.args.members.now in
    let behind = drop c.args.end c.args.sheet.now in
    c.lay_out_ids.ensures.laid ∙ ap (λ t. members ++ t) c.lay_out_text-begin.ensures.laid
    ∙ sym (append_assoc members (32 ∷ 48 ∷ []) behind) ∙ ap (λ t. t ++ behind) (sym (spaced_ids c.args.members.now))
