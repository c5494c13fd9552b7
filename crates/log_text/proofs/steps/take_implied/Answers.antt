use Rattle.std.proofs.Common.{[], ◌∷◌}
use Rattle.std.proofs.lemmas.Result.{err_from_is_err_and}
use Rattle.cx_texts.specs.Grammar.{mark, id, end, integers}
use Rattle.cx_texts.proofs.Shapes.{a_mark, an_id, an_end}
use Rattle.step_text.proofs.TakingLaws.{takes_append, refused_after, one_refused}
use Rattle.log_text.proofs.steps.take_implied.Goals as goal

pub returns-in_err-take_letter : goal.returns-in_err-take_letter
returns-in_err-take_letter c =
    let p = err_from_is_err_and c.from_residual-in_err-take_letter.result c.from_residual-in_err-take_letter.ensures.1 in
    let n = c.in_ok-named.named in
    rw (p.1, p.2) (λ ks. refused_after (id n.id ∷ integers n.literals ∷ []) (a_mark 108 ∷ an_id ∷ an_end ∷ ks) _ _ _ _ c.in_ok-named.ensures (one_refused (a_mark 108) (an_id ∷ an_end ∷ ks) _ _ _ c.in_err-take_letter.ensures))

pub returns-in_err-source : goal.returns-in_err-source
returns-in_err-source c =
    let p = err_from_is_err_and c.from_residual-in_err-source.result c.from_residual-in_err-source.ensures.1 in
    let n = c.in_ok-named.named in
    let two = takes_append (id n.id ∷ integers n.literals ∷ []) (mark 108 ∷ []) _ _ _ c.in_ok-named.ensures c.in_ok-take_letter.ensures in
    rw (p.1, p.2) (λ ks. refused_after (id n.id ∷ integers n.literals ∷ mark 108 ∷ []) (an_id ∷ an_end ∷ ks) _ _ _ _ two (one_refused an_id (an_end ∷ ks) _ _ _ c.in_err-source.ensures))

pub returns-in_err-take_end : goal.returns-in_err-take_end
returns-in_err-take_end c =
    let p = err_from_is_err_and c.from_residual-in_err-take_end.result c.from_residual-in_err-take_end.ensures.1 in
    let n = c.in_ok-named.named in
    let two = takes_append (id n.id ∷ integers n.literals ∷ []) (mark 108 ∷ []) _ _ _ c.in_ok-named.ensures c.in_ok-take_letter.ensures in
    let three = takes_append (id n.id ∷ integers n.literals ∷ mark 108 ∷ []) (id c.in_ok-source.source ∷ []) _ _ _ two c.in_ok-source.ensures in
    rw (p.1, p.2) (λ ks. refused_after (id n.id ∷ integers n.literals ∷ mark 108 ∷ id c.in_ok-source.source ∷ []) (an_end ∷ ks) _ _ _ _ three (one_refused an_end ks _ _ _ c.in_err-take_end.ensures))

pub returns : goal.returns
returns c =
    let n = c.in_ok-named.named in
    let two = takes_append (id n.id ∷ integers n.literals ∷ []) (mark 108 ∷ []) _ _ _ c.in_ok-named.ensures c.in_ok-take_letter.ensures in
    let three = takes_append (id n.id ∷ integers n.literals ∷ mark 108 ∷ []) (id c.in_ok-source.source ∷ []) _ _ _ two c.in_ok-source.ensures in
    takes_append (id n.id ∷ integers n.literals ∷ mark 108 ∷ id c.in_ok-source.source ∷ []) (end ∷ []) _ _ _ three c.in_ok-take_end.ensures
