use Rattle.std.proofs.Common.{subst, ◌+◌, drop}
use Rattle.cx_texts.specs.Tokens.{tokens_within}
use Rattle.cx_texts.specs.Words.{placed_words}
use Rattle.step_text.specs.Short.{TakesShorts}
use Rattle.step_text.proofs.ahead.TokensAhead.take_shorts.Goals as goal

pub returns : goal.returns
returns c =
    let a = c.self.inside in
    let shorts = c.in_ok-shorts.shorts in
    let taken = c.in_ok-shorts.ensures in
    let left = tokens_within (a.from + shorts.at) (drop shorts.at a.text.now) in
    (taken.0, taken.1, subst (λ ts. TakesShorts (placed_words ts) taken.0 shorts.ended (placed_words left)) c.self.view_is (taken.2.2 a.from))
