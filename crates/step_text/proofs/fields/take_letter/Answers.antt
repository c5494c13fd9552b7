use Rattle.std.proofs.Common.{sym, ◌∙◌}
use Rattle.step_text.proofs.Choices.{letter_taken}
use Rattle.step_text.proofs.fields.take_letter.Goals as goal

pub returns-then-take_letter : goal.returns-then-take_letter
returns-then-take_letter c =
    let is = c.if-take_letter.true in
    letter_taken c.args.letter c.args.tokens.now c.take_letter.new.self (sym c.take_letter.ensures.is ∙ is) (c.take_letter.ensures.taken is)
