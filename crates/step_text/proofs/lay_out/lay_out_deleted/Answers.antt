use Rattle.std.proofs.Common.{◌≤◌, ◌∙◌, ap, ◌∷◌, ◌++◌, decimal, length, arith}
use Rattle.std.proofs.Math.ListN.{drop_of_length-le}
use Rattle.step_text.specs.declared.lay_out.TheConstants.{DELETION_ROOM}
use Rattle.step_text.proofs.lay_out.lay_out_deleted.Goals as goal

pub returns-clause-laid : goal.returns-clause-laid
returns-clause-laid c =
    let short : length c.args.sheet.now ≤ DELETION_ROOM = omega arith in
    let zero = c.lay_out_text-behind.ensures.laid ∙ ap (λ t. 32 ∷ 48 ∷ 10 ∷ t) (drop_of_length-le c.args.sheet.now short) in
    let id = c.lay_out_id-id.ensures.laid ∙ ap (λ t. decimal c.args.deleted ++ t) zero in
    c.lay_out_text.ensures.laid ∙ ap (λ t. 32 ∷ 100 ∷ 32 ∷ t) id
