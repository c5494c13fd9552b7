use Rattle.std.proofs.Common.{[], ◌∷◌, sym, ◌∙◌}
use Rattle.std.proofs.lemmas.Result.{err_from_is_err_and}
use Rattle.cx_texts.specs.Grammar.{mark, id, ids, integers}
use Rattle.step_text.proofs.TakingLaws.{takes_append}
use Rattle.step_text.proofs.Choices.{letter_taken}
use Rattle.log_text.proofs.StepLaws.{added_parity_refused, added_id_refused, added_literals_refused, added_hints_refused}
use Rattle.log_text.proofs.steps.take_added.Goals as goal

pub returns-in_err-parity : goal.returns-in_err-parity
returns-in_err-parity c =
    let p = err_from_is_err_and c.from_residual.result c.from_residual.ensures.1 in
    let first = letter_taken 97 c.args.tokens.now c.pass.new.self c.requires c.pass.ensures in
    let second = letter_taken 120 c.pass.new.self c.pass-then-is_letter.new.self (sym c.is_letter.ensures ∙ c.if-is_letter.true) c.pass-then-is_letter.ensures in
    rw (p.1, p.2) (added_parity_refused _ _ _ _ _ first second (c.in_err-parity.ensures []))

pub returns-then-is_letter : goal.returns-then-is_letter
returns-then-is_letter c =
    let first = letter_taken 97 c.args.tokens.now c.pass.new.self c.requires c.pass.ensures in
    let second = letter_taken 120 c.pass.new.self c.pass-then-is_letter.new.self (sym c.is_letter.ensures ∙ c.if-is_letter.true) c.pass-then-is_letter.ensures in
    let both = takes_append (mark 97 ∷ []) (mark 120 ∷ []) _ _ _ first second in
    let parity = c.in_ok-parity.parity in
    (takes_append (mark 97 ∷ mark 120 ∷ []) (id parity.id ∷ integers parity.literals ∷ mark 108 ∷ ids parity.sources ∷ []) _ _ _ both c.in_ok-parity.ensures, tt)

pub returns-in_err-id : goal.returns-in_err-id
returns-in_err-id c =
    let p = err_from_is_err_and c.from_residual-in_err-id.result c.from_residual-in_err-id.ensures.1 in
    let first = letter_taken 97 c.args.tokens.now c.pass.new.self c.requires c.pass.ensures in
    rw (p.1, p.2) (added_id_refused _ _ _ _ first (sym c.is_letter.ensures ∙ c.if-is_letter.false) c.in_err-id.ensures)

pub returns-in_err-literals : goal.returns-in_err-literals
returns-in_err-literals c =
    let p = err_from_is_err_and c.from_residual-in_err-literals.result c.from_residual-in_err-literals.ensures.1 in
    let first = letter_taken 97 c.args.tokens.now c.pass.new.self c.requires c.pass.ensures in
    let two = takes_append (mark 97 ∷ []) (id c.in_ok-id.id ∷ []) _ _ _ first c.in_ok-id.ensures in
    rw (p.1, p.2) (added_literals_refused c.in_ok-id.id _ _ _ _ two (c.in_err-literals.ensures []))

pub returns-in_err-hints : goal.returns-in_err-hints
returns-in_err-hints c =
    let p = err_from_is_err_and c.from_residual-in_err-hints.result c.from_residual-in_err-hints.ensures.1 in
    let first = letter_taken 97 c.args.tokens.now c.pass.new.self c.requires c.pass.ensures in
    let two = takes_append (mark 97 ∷ []) (id c.in_ok-id.id ∷ []) _ _ _ first c.in_ok-id.ensures in
    let three = takes_append (mark 97 ∷ id c.in_ok-id.id ∷ []) (integers c.in_ok-literals.literals ∷ []) _ _ _ two c.in_ok-literals.ensures in
    let l = letter_taken 108 c.take_integers.new.tokens c.pass-then-is_letter-2.new.self (sym c.is_letter-2.ensures ∙ c.if-is_letter-2.true) c.pass-then-is_letter-2.ensures in
    let four = takes_append (mark 97 ∷ id c.in_ok-id.id ∷ integers c.in_ok-literals.literals ∷ []) (mark 108 ∷ []) _ _ _ three l in
    rw (p.1, p.2) (added_hints_refused c.in_ok-id.id c.in_ok-literals.literals _ _ _ _ four (c.in_err-hints.ensures []))

pub returns-then-is_letter-2 : goal.returns-then-is_letter-2
returns-then-is_letter-2 c =
    let first = letter_taken 97 c.args.tokens.now c.pass.new.self c.requires c.pass.ensures in
    let two = takes_append (mark 97 ∷ []) (id c.in_ok-id.id ∷ []) _ _ _ first c.in_ok-id.ensures in
    let three = takes_append (mark 97 ∷ id c.in_ok-id.id ∷ []) (integers c.in_ok-literals.literals ∷ []) _ _ _ two c.in_ok-literals.ensures in
    let l = letter_taken 108 c.take_integers.new.tokens c.pass-then-is_letter-2.new.self (sym c.is_letter-2.ensures ∙ c.if-is_letter-2.true) c.pass-then-is_letter-2.ensures in
    let four = takes_append (mark 97 ∷ id c.in_ok-id.id ∷ integers c.in_ok-literals.literals ∷ []) (mark 108 ∷ []) _ _ _ three l in
    (takes_append (mark 97 ∷ id c.in_ok-id.id ∷ integers c.in_ok-literals.literals ∷ mark 108 ∷ []) (integers c.in_ok-hints.hints ∷ []) _ _ _ four c.in_ok-hints.ensures, tt)

pub returns : goal.returns
returns c =
    let first = letter_taken 97 c.args.tokens.now c.pass.new.self c.requires c.pass.ensures in
    let two = takes_append (mark 97 ∷ []) (id c.in_ok-id.id ∷ []) _ _ _ first c.in_ok-id.ensures in
    let three = takes_append (mark 97 ∷ id c.in_ok-id.id ∷ []) (integers c.in_ok-literals.literals ∷ []) _ _ _ two c.in_ok-literals.ensures in
    (three, sym c.is_letter-2.ensures ∙ c.if-is_letter-2.false)
