use Rattle.std.proofs.Common.{◌≡◌, ◌∙◌, ap, arith, drop, get_or, ◌∷◌, ◌+◌}
use Rattle.std.proofs.lemmas.List.{drop_more}
use Rattle.cx_texts.specs.Tokens.{tokens_from_by, tokens_left_by}
use Rattle.cx_texts.proofs.TokenLaws.{from-skip}
use Rattle.cx_texts.proofs.places.pass.Goals as goal

pub returns-in-99 : goal.returns-in-99
returns-in-99 c =
    let rule = c.args.end_lines in
    let text = c.args.text.now in
    let at = c.args.from.at in
    let first : get_or text at 0 ≡ 99 = c.in-99.is in (
      omega (arith, c.line_end.ensures.low),
      c.line_end.ensures.high,
      ap (λ b. tokens_left_by rule b at (drop at text)) c.if-from-2.false
          ∙ ap (tokens_from_by rule at) (drop_more text at 0 c.requires ∙ ap (λ b. b ∷ drop (at + 1) text) first)
          ∙ from-skip rule at (drop (at + 1) text) c.line_end.result (drop c.line_end.result text) c.line_end.ensures.skipped,
    )
