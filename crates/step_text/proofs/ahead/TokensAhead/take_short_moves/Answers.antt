use Rattle.std.proofs.Common.{subst, ◌+◌, drop}
use Rattle.cx_texts.specs.Tokens.{tokens_within}
use Rattle.cx_texts.specs.Words.{placed_words}
use Rattle.step_text.specs.Taking.{Takes, fields_of_pairs}
use Rattle.step_text.proofs.ahead.TokensAhead.take_short_moves.Goals as goal

pub returns : goal.returns
returns c =
    let a = c.self.inside in
    let at = c.in_ok-self-inside.field-0 in
    let taken = c.in_ok-self-inside.ensures in
    let left = tokens_within (a.from + at) (drop at a.text.now) in
    (taken.0, taken.1, subst (λ ts. Takes (fields_of_pairs taken.0) (placed_words ts) (placed_words left)) c.self.view_is (taken.2.2 a.from))
