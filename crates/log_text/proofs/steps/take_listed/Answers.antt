use Rattle.std.proofs.Common.{[], ◌∷◌, sym, ◌∙◌}
use Rattle.std.proofs.lemmas.Result.{err_from_is_err_and}
use Rattle.cx_texts.specs.Grammar.{mark, id, integers}
use Rattle.step_text.proofs.TakingLaws.{takes_append}
use Rattle.step_text.proofs.Choices.{letter_taken}
use Rattle.log_text.proofs.StepLaws.{listed_refused, listed_parity_refused}
use Rattle.log_text.proofs.steps.take_listed.Goals as goal

pub returns-in_err-named : goal.returns-in_err-named
returns-in_err-named c =
    let p = err_from_is_err_and c.from_residual.result c.from_residual.ensures.1 in
    let first = letter_taken 120 c.args.tokens.now c.pass.new.self (sym c.is_letter.ensures ∙ c.if-is_letter.true) c.pass.ensures in
    rw (p.1, p.2) (listed_parity_refused _ _ _ _ first (c.in_err-named.ensures []))

pub returns-in_err-named-2 : goal.returns-in_err-named-2
returns-in_err-named-2 c =
    let p = err_from_is_err_and c.from_residual-in_err-named-2.result c.from_residual-in_err-named-2.ensures.1 in
    rw (p.1, p.2) (listed_refused _ _ _ (sym c.is_letter.ensures ∙ c.if-is_letter.false) (c.in_err-named-2.ensures []))

pub returns-in_ok-named : goal.returns-in_ok-named
returns-in_ok-named c =
    let first = letter_taken 120 c.args.tokens.now c.pass.new.self (sym c.is_letter.ensures ∙ c.if-is_letter.true) c.pass.ensures in
    takes_append (mark 120 ∷ []) (id c.in_ok-named.named.id ∷ integers c.in_ok-named.named.literals ∷ []) _ _ _ first c.in_ok-named.ensures
