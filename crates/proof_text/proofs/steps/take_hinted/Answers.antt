use Rattle.std.proofs.Common.{[], ◌∷◌}
use Rattle.std.proofs.lemmas.Result.{err_from_is_err_and}
use Rattle.cx_texts.specs.Grammar.{id, integers}
use Rattle.cx_texts.proofs.Shapes.{some_integers}
use Rattle.step_text.proofs.TakingLaws.{takes_append, refused_after}
use Rattle.proof_text.proofs.steps.take_hinted.Goals as goal

pub returns-in_err-hints : goal.returns-in_err-hints
returns-in_err-hints c =
    let p = err_from_is_err_and c.from_residual-in_err-hints.result c.from_residual-in_err-hints.ensures.1 in
    let n = c.in_ok-named.named in
    rw (p.1, p.2) (λ ks. refused_after (id n.id ∷ integers n.literals ∷ []) (some_integers ∷ ks) _ _ _ _ c.in_ok-named.ensures (c.in_err-hints.ensures ks))

pub returns : goal.returns
returns c =
    let n = c.in_ok-named.named in
    takes_append (id n.id ∷ integers n.literals ∷ []) (integers c.in_ok-hints.hints ∷ []) _ _ _ c.in_ok-named.ensures c.in_ok-hints.ensures
