use Rattle.std.proofs.Common.{[], ◌∷◌, sym, ◌∙◌}
use Rattle.std.proofs.lemmas.Result.{err_from_is_err_and}
use Rattle.cx_texts.specs.Grammar.{mark, id, ids, integers}
use Rattle.cx_texts.proofs.Shapes.{some_integers}
use Rattle.step_text.proofs.TakingLaws.{takes_append, refused_after}
use Rattle.step_text.proofs.Choices.{letter_taken}
use Rattle.proof_text.proofs.StepLaws.{no_start, clause_lists_refused, clause_names_refused}
use Rattle.proof_text.proofs.steps.take_clause_step.Goals as goal

pub returns-in_err-id : goal.returns-in_err-id
returns-in_err-id c =
    let p = err_from_is_err_and c.from_residual.result c.from_residual.ensures.1 in
    rw (p.1, p.2) (no_start _ _ _ c.requires.no_parity c.requires.not_implied c.in_err-id.ensures)

pub returns-in_err-names : goal.returns-in_err-names
returns-in_err-names c =
    let p = err_from_is_err_and c.from_residual-in_err-names.result c.from_residual-in_err-names.ensures.1 in
    let letter = letter_taken 100 c.take_id.new.tokens c.pass.new.self (sym c.is_letter.ensures ∙ c.if-is_letter.true) c.pass.ensures in
    rw (p.1, p.2) (clause_names_refused _ _ _ _ _ _ c.in_ok-id.ensures letter (c.in_err-names.ensures []))

pub returns-in_err-literals : goal.returns-in_err-literals
returns-in_err-literals c =
    let p = err_from_is_err_and c.from_residual-in_err-literals.result c.from_residual-in_err-literals.ensures.1 in
    let no_letter = sym c.is_letter.ensures ∙ c.if-is_letter.false in
    rw (p.1, p.2) (clause_lists_refused _ _ _ _ _ c.in_ok-id.ensures no_letter (c.in_err-literals.ensures (some_integers ∷ [])))

pub returns-in_err-hints : goal.returns-in_err-hints
returns-in_err-hints c =
    let p = err_from_is_err_and c.from_residual-in_err-hints.result c.from_residual-in_err-hints.ensures.1 in
    let no_letter = sym c.is_letter.ensures ∙ c.if-is_letter.false in
    let behind = refused_after (integers c.in_ok-literals.literals ∷ []) (some_integers ∷ []) _ _ _ _ c.in_ok-literals.ensures (c.in_err-hints.ensures []) in
    rw (p.1, p.2) (clause_lists_refused _ _ _ _ _ c.in_ok-id.ensures no_letter behind)

pub returns-in_ok-names : goal.returns-in_ok-names
returns-in_ok-names c =
    let letter = letter_taken 100 c.take_id.new.tokens c.pass.new.self (sym c.is_letter.ensures ∙ c.if-is_letter.true) c.pass.ensures in
    let two = takes_append (id c.in_ok-id.id ∷ []) (mark 100 ∷ []) _ _ _ c.in_ok-id.ensures letter in
    takes_append (id c.in_ok-id.id ∷ mark 100 ∷ []) (ids c.in_ok-names.names ∷ []) _ _ _ two c.in_ok-names.ensures

pub returns-in_ok-hints : goal.returns-in_ok-hints
returns-in_ok-hints c =
    let two = takes_append (id c.in_ok-id.id ∷ []) (integers c.in_ok-literals.literals ∷ []) _ _ _ c.in_ok-id.ensures c.in_ok-literals.ensures in
    takes_append (id c.in_ok-id.id ∷ integers c.in_ok-literals.literals ∷ []) (integers c.in_ok-hints.hints ∷ []) _ _ _ two c.in_ok-hints.ensures
