use Rattle.std.proofs.Common.{[], ◌∷◌}
use Rattle.std.proofs.lemmas.Result.{err_from_is_err_and}
use Rattle.cx_texts.specs.Grammar.{id, integer, end, integers}
use Rattle.cx_texts.proofs.Shapes.{an_integer, an_end}
use Rattle.step_text.proofs.TakingLaws.{takes_append, refused_after, one_refused}
use Rattle.step_text.proofs.Taken.{kept_hint}
use Rattle.proof_text.proofs.steps.take_implied.Goals as goal

pub returns-in_err-hint : goal.returns-in_err-hint
returns-in_err-hint c =
    let p = err_from_is_err_and c.from_residual-in_err-hint.result c.from_residual-in_err-hint.ensures.1 in
    let n = c.in_ok-named.named in
    rw (p.1, p.2) (λ ks. refused_after (id n.id ∷ integers n.literals ∷ []) (an_integer ∷ an_end ∷ ks) _ _ _ _ c.in_ok-named.ensures (one_refused an_integer (an_end ∷ ks) _ _ _ c.in_err-hint.ensures))

pub returns-in_err-take_end : goal.returns-in_err-take_end
returns-in_err-take_end c =
    let p = err_from_is_err_and c.from_residual-in_err-take_end.result c.from_residual-in_err-take_end.ensures.1 in
    let n = c.in_ok-named.named in
    let two = takes_append (id n.id ∷ integers n.literals ∷ []) (integer c.in_ok-hint.hint ∷ []) _ _ _ c.in_ok-named.ensures c.in_ok-hint.ensures in
    rw (p.1, p.2) (λ ks. refused_after (id n.id ∷ integers n.literals ∷ integer c.in_ok-hint.hint ∷ []) (an_end ∷ ks) _ _ _ _ two (one_refused an_end ks _ _ _ c.in_err-take_end.ensures))

pub returns : goal.returns
returns c =
    let n = c.in_ok-named.named in
    let two = takes_append (id n.id ∷ integers n.literals ∷ []) (integer c.in_ok-hint.hint ∷ []) _ _ _ c.in_ok-named.ensures c.in_ok-hint.ensures in
    kept_hint _ _ c.in_ok-hint.hint _ _ (takes_append (id n.id ∷ integers n.literals ∷ integer c.in_ok-hint.hint ∷ []) (end ∷ []) _ _ _ two c.in_ok-take_end.ensures)
