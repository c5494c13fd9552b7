use Rattle.std.proofs.Common.{[], ◌∷◌, sym, ◌∙◌}
use Rattle.std.proofs.lemmas.Result.{err_from_is_err_and}
use Rattle.cx_texts.specs.Grammar.{mark, id, ids, integers}
use Rattle.step_text.proofs.TakingLaws.{takes_append}
use Rattle.step_text.proofs.Choices.{letter_taken}
use Rattle.proof_text.proofs.StepLaws.{parity_refused, parity_names_refused}
use Rattle.proof_text.proofs.steps.take_parity_step.Goals as goal

pub returns-in_err-names : goal.returns-in_err-names
returns-in_err-names c =
    let p = err_from_is_err_and c.from_residual.result c.from_residual.ensures.1 in
    let first = letter_taken 120 c.args.tokens.now c.pass.new.self c.requires c.pass.ensures in
    let second = letter_taken 100 c.pass.new.self c.pass-then-is_letter.new.self (sym c.is_letter.ensures ∙ c.if-is_letter.true) c.pass-then-is_letter.ensures in
    rw (p.1, p.2) (parity_names_refused _ _ _ _ _ first second (c.in_err-names.ensures []))

pub returns-in_err-parity : goal.returns-in_err-parity
returns-in_err-parity c =
    let p = err_from_is_err_and c.from_residual-in_err-parity.result c.from_residual-in_err-parity.ensures.1 in
    let first = letter_taken 120 c.args.tokens.now c.pass.new.self c.requires c.pass.ensures in
    let no_letter = sym c.is_letter.ensures ∙ c.if-is_letter.false in
    rw (p.1, p.2) (parity_refused _ _ _ _ first no_letter (c.in_err-parity.ensures []))

pub returns-in_ok-names : goal.returns-in_ok-names
returns-in_ok-names c =
    let first = letter_taken 120 c.args.tokens.now c.pass.new.self c.requires c.pass.ensures in
    let second = letter_taken 100 c.pass.new.self c.pass-then-is_letter.new.self (sym c.is_letter.ensures ∙ c.if-is_letter.true) c.pass-then-is_letter.ensures in
    let both = takes_append (mark 120 ∷ []) (mark 100 ∷ []) _ _ _ first second in
    takes_append (mark 120 ∷ mark 100 ∷ []) (ids c.in_ok-names.names ∷ []) _ _ _ both c.in_ok-names.ensures

pub returns-in_ok-parity : goal.returns-in_ok-parity
returns-in_ok-parity c =
    let first = letter_taken 120 c.args.tokens.now c.pass.new.self c.requires c.pass.ensures in
    let parity = c.in_ok-parity.parity in
    takes_append (mark 120 ∷ []) (id parity.id ∷ integers parity.literals ∷ integers parity.hints ∷ []) _ _ _ first c.in_ok-parity.ensures
