use Rattle.std.proofs.Common.{[], ◌∷◌}
use Rattle.std.proofs.lemmas.Result.{err_from_is_err_and}
use Rattle.cx_texts.specs.Grammar.{mark, id, ids, integers}
use Rattle.cx_texts.proofs.Shapes.{a_mark, some_ids}
use Rattle.step_text.proofs.TakingLaws.{takes_append, refused_after, one_refused}
use Rattle.log_text.proofs.steps.take_sourced.Goals as goal

pub returns-in_err-take_letter : goal.returns-in_err-take_letter
returns-in_err-take_letter c =
    let p = err_from_is_err_and c.from_residual-in_err-take_letter.result c.from_residual-in_err-take_letter.ensures.1 in
    let n = c.in_ok-named.named in
    rw (p.1, p.2) (λ ks. refused_after (id n.id ∷ integers n.literals ∷ []) (a_mark 108 ∷ some_ids ∷ ks) _ _ _ _ c.in_ok-named.ensures (one_refused (a_mark 108) (some_ids ∷ ks) _ _ _ c.in_err-take_letter.ensures))

pub returns-in_err-sources : goal.returns-in_err-sources
returns-in_err-sources c =
    let p = err_from_is_err_and c.from_residual-in_err-sources.result c.from_residual-in_err-sources.ensures.1 in
    let n = c.in_ok-named.named in
    let two = takes_append (id n.id ∷ integers n.literals ∷ []) (mark 108 ∷ []) _ _ _ c.in_ok-named.ensures c.in_ok-take_letter.ensures in
    rw (p.1, p.2) (λ ks. refused_after (id n.id ∷ integers n.literals ∷ mark 108 ∷ []) (some_ids ∷ ks) _ _ _ _ two (c.in_err-sources.ensures ks))

pub returns : goal.returns
returns c =
    let n = c.in_ok-named.named in
    let two = takes_append (id n.id ∷ integers n.literals ∷ []) (mark 108 ∷ []) _ _ _ c.in_ok-named.ensures c.in_ok-take_letter.ensures in
    takes_append (id n.id ∷ integers n.literals ∷ mark 108 ∷ []) (ids c.in_ok-sources.sources ∷ []) _ _ _ two c.in_ok-sources.ensures
