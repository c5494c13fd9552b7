use Rattle.std.proofs.Common.{[], ◌∷◌, sym, ◌∙◌}
use Rattle.std.proofs.lemmas.Result.{err_from_is_err_and}
use Rattle.cx_texts.specs.Grammar.{mark, id, ids, integers, end}
use Rattle.step_text.proofs.TakingLaws.{takes_append}
use Rattle.step_text.proofs.Choices.{letter_taken}
use Rattle.log_text.proofs.StepLaws.{implied_clause_refused, implied_parity_refused}
use Rattle.log_text.proofs.steps.take_implied_step.Goals as goal

pub returns-in_err-parity : goal.returns-in_err-parity
returns-in_err-parity c =
    let p = err_from_is_err_and c.from_residual.result c.from_residual.ensures.1 in
    let first = letter_taken 105 c.args.tokens.now c.pass.new.self c.requires c.pass.ensures in
    let second = letter_taken 120 c.pass.new.self c.pass-then-is_letter.new.self (sym c.is_letter.ensures ∙ c.if-is_letter.true) c.pass-then-is_letter.ensures in
    rw (p.1, p.2) (implied_parity_refused _ _ _ _ _ first second (c.in_err-parity.ensures []))

pub returns-in_err-clause : goal.returns-in_err-clause
returns-in_err-clause c =
    let p = err_from_is_err_and c.from_residual-in_err-clause.result c.from_residual-in_err-clause.ensures.1 in
    let first = letter_taken 105 c.args.tokens.now c.pass.new.self c.requires c.pass.ensures in
    rw (p.1, p.2) (implied_clause_refused _ _ _ _ first (sym c.is_letter.ensures ∙ c.if-is_letter.false) (c.in_err-clause.ensures []))

pub returns-in_ok-parity : goal.returns-in_ok-parity
returns-in_ok-parity c =
    let first = letter_taken 105 c.args.tokens.now c.pass.new.self c.requires c.pass.ensures in
    let second = letter_taken 120 c.pass.new.self c.pass-then-is_letter.new.self (sym c.is_letter.ensures ∙ c.if-is_letter.true) c.pass-then-is_letter.ensures in
    let both = takes_append (mark 105 ∷ []) (mark 120 ∷ []) _ _ _ first second in
    let parity = c.in_ok-parity.parity in
    (takes_append (mark 105 ∷ mark 120 ∷ []) (id parity.id ∷ integers parity.literals ∷ mark 108 ∷ ids parity.sources ∷ []) _ _ _ both c.in_ok-parity.ensures, tt)

pub returns-in_ok-clause : goal.returns-in_ok-clause
returns-in_ok-clause c =
    let first = letter_taken 105 c.args.tokens.now c.pass.new.self c.requires c.pass.ensures in
    let clause = c.in_ok-clause.clause in
    (takes_append (mark 105 ∷ []) (id clause.id ∷ integers clause.literals ∷ mark 108 ∷ id clause.source ∷ end ∷ []) _ _ _ first c.in_ok-clause.ensures, tt)
