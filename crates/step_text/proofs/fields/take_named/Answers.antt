use Rattle.std.proofs.Common.{[], ◌∷◌}
use Rattle.std.proofs.lemmas.Result.{err_from_is_err_and}
use Rattle.cx_texts.specs.Grammar.{id, integers}
use Rattle.cx_texts.proofs.Shapes.{an_id, some_integers}
use Rattle.step_text.proofs.TakingLaws.{takes_append, refused_after, one_refused}
use Rattle.step_text.proofs.fields.take_named.Goals as goal

pub returns-in_err-id : goal.returns-in_err-id
returns-in_err-id c =
    let p = err_from_is_err_and c.from_residual.result c.from_residual.ensures.1 in
    rw (p.1, p.2) (λ ks. one_refused an_id (some_integers ∷ ks) _ _ _ c.in_err-id.ensures)

pub returns-in_err-literals : goal.returns-in_err-literals
returns-in_err-literals c =
    let p = err_from_is_err_and c.from_residual-in_err-literals.result c.from_residual-in_err-literals.ensures.1 in
    rw (p.1, p.2) (λ ks. refused_after (id c.in_ok-id.id ∷ []) (some_integers ∷ ks) _ _ _ _ c.in_ok-id.ensures (c.in_err-literals.ensures ks))

pub returns : goal.returns
returns c =
    takes_append (id c.in_ok-id.id ∷ []) (integers c.in_ok-literals.literals ∷ []) _ _ _ c.in_ok-id.ensures c.in_ok-literals.ensures
