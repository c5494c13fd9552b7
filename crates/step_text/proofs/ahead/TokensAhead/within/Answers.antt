use Rattle.std.proofs.Common.{◌≡◌, ◌∙◌, sym, ap, ◌+◌, true, arith}
use Rattle.cx_texts.specs.Tokens.{tokens_within}
use Rattle.step_text.proofs.AheadLaws.{left_from}
use Rattle.step_text.proofs.ahead.TokensAhead.within.Goals as goal

pub returns : goal.returns
returns c =
    let place : c.args.place + 0 ≡ c.args.place = omega arith in
    sym (left_from c.args.place true c.args.text.now 0 c.begin_of_next.result c.begin_of_next.ensures.left) ∙ ap (λ n. tokens_within n c.args.text.now) place
