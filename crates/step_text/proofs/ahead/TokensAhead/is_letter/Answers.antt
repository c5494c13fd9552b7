use Rattle.std.proofs.Common.{◌∙◌, sym, ap, ◌<◌, take, length, arith}
use Rattle.cx_texts.specs.Words.{placed_words, word_of}
use Rattle.cx_texts.proofs.DigitLaws.{not_equal}
use Rattle.cx_texts.proofs.Slices.{part_behind}
use Rattle.step_text.specs.Heads.{is_letter, is_head_letter}
use Rattle.step_text.proofs.AheadLaws.{first_left, no_letter_left}
use Rattle.step_text.proofs.ahead.TokensAhead.is_letter.Goals as goal

pub returns : goal.returns
returns c =
    let a = c.self.inside in
    let inside : a.at < length a.text.now = omega arith in
    let run = c.run_len in
    let first = first_left a.from a.text.now a.at run.result inside (c.self.invariant.1 inside) run.ensures.high run.ensures.run run.ensures.ends in
    c.is_lone.ensures ∙ ap (λ xs. is_letter c.args.letter (word_of (take run.result xs))) (part_behind a.text.now a.at) ∙ sym (ap (λ ts. is_head_letter c.args.letter (placed_words ts)) (sym c.self.view_is ∙ first))

pub returns-then-self-letter : goal.returns-then-self-letter
returns-then-self-letter c =
    let a = c.self.inside in
    let inside : a.at < length a.text.now = omega arith in
    sym (no_letter_left c.args.letter a.from a.text.now a.at inside (c.self.invariant.1 inside) (not_equal _ _ c.if-self-letter.true)) ∙ ap (λ ts. is_head_letter c.args.letter (placed_words ts)) c.self.view_is
