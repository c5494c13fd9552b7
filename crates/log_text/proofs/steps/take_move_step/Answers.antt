use Rattle.std.proofs.Common.{[], ◌∷◌, sym, ◌∙◌}
use Rattle.std.proofs.lemmas.Result.{err_from_is_err_and}
use Rattle.cx_texts.specs.Grammar.{mark, pairs}
use Rattle.step_text.proofs.TakingLaws.{takes_append}
use Rattle.step_text.proofs.Choices.{letter_taken}
use Rattle.log_text.proofs.StepLaws.{parity_moves_refused, clause_moves_refused}
use Rattle.log_text.proofs.steps.take_move_step.Goals as goal

pub returns-in_err-moves : goal.returns-in_err-moves
returns-in_err-moves c =
    let p = err_from_is_err_and c.from_residual.result c.from_residual.ensures.1 in
    let first = letter_taken 114 c.args.tokens.now c.pass.new.self c.requires c.pass.ensures in
    let second = letter_taken 120 c.pass.new.self c.pass-then-is_letter.new.self (sym c.is_letter.ensures ∙ c.if-is_letter.true) c.pass-then-is_letter.ensures in
    rw (p.1, p.2) (parity_moves_refused _ _ _ _ _ first second (c.in_err-moves.ensures []))

pub returns-in_err-moves-2 : goal.returns-in_err-moves-2
returns-in_err-moves-2 c =
    let p = err_from_is_err_and c.from_residual-in_err-moves-2.result c.from_residual-in_err-moves-2.ensures.1 in
    let first = letter_taken 114 c.args.tokens.now c.pass.new.self c.requires c.pass.ensures in
    rw (p.1, p.2) (clause_moves_refused _ _ _ _ first (sym c.is_letter.ensures ∙ c.if-is_letter.false) (c.in_err-moves-2.ensures []))

pub returns-in_ok-moves : goal.returns-in_ok-moves
returns-in_ok-moves c =
    let first = letter_taken 114 c.args.tokens.now c.pass.new.self c.requires c.pass.ensures in
    let second = letter_taken 120 c.pass.new.self c.pass-then-is_letter.new.self (sym c.is_letter.ensures ∙ c.if-is_letter.true) c.pass-then-is_letter.ensures in
    let both = takes_append (mark 114 ∷ []) (mark 120 ∷ []) _ _ _ first second in
    (takes_append (mark 114 ∷ mark 120 ∷ []) (pairs c.in_ok-moves.moves ∷ []) _ _ _ both c.in_ok-moves.ensures, tt)

pub returns-in_ok-moves-2 : goal.returns-in_ok-moves-2
returns-in_ok-moves-2 c =
    let first = letter_taken 114 c.args.tokens.now c.pass.new.self c.requires c.pass.ensures in
    (takes_append (mark 114 ∷ []) (pairs c.in_ok-moves-2.moves ∷ []) _ _ _ first c.in_ok-moves-2.ensures, tt)
