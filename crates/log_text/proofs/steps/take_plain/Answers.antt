use Rattle.std.proofs.Common.{[], ◌∷◌}
use Rattle.std.proofs.lemmas.Result.{err_from_is_err_and}
use Rattle.cx_texts.specs.Grammar.{mark}
use Rattle.step_text.proofs.TakingLaws.{takes_append}
use Rattle.step_text.proofs.Choices.{letter_taken}
use Rattle.log_text.specs.Taking.{letter_of, listed_fields}
use Rattle.log_text.proofs.StepLaws.{plain_refused}
use Rattle.log_text.proofs.steps.take_plain.Goals as goal

pub returns-in_err-listed : goal.returns-in_err-listed
returns-in_err-listed c =
    let p = err_from_is_err_and c.from_residual.result c.from_residual.ensures.1 in
    let first = letter_taken (letter_of c.args.plain) c.args.tokens.now c.pass.new.self c.requires c.pass.ensures in
    rw (p.1, p.2) (plain_refused c.args.plain _ _ _ _ first c.in_err-listed.ensures)

pub returns : goal.returns
returns c =
    let first = letter_taken (letter_of c.args.plain) c.args.tokens.now c.pass.new.self c.requires c.pass.ensures in
    let l = c.in_ok-listed.listed in
    let all = takes_append (mark (letter_of c.args.plain) ∷ []) (listed_fields l.of_parity l.named.id l.named.literals) _ _ _ first c.in_ok-listed.ensures in
    (rw c.plain_step.ensures.fields all, c.plain_step.ensures.alone _)
