use Rattle.std.proofs.Common.{◌∙◌, sym, ap, ◌<◌, ◌+◌, true, take, drop, length, arith}
use Rattle.cx_texts.specs.Words.{placed_words, word_of}
use Rattle.cx_texts.proofs.DigitLaws.{not_equal}
use Rattle.cx_texts.proofs.Slices.{part_behind}
use Rattle.step_text.specs.Heads.{is_letter, is_head_letter}
use Rattle.step_text.proofs.AheadLaws.{first_left, left_from, no_letter_left}
use Rattle.step_text.proofs.ahead.TokensAhead.take_letter.Goals as goal

pub returns-then-self-letter-clause-is : goal.returns-then-self-letter-clause-is
returns-then-self-letter-clause-is c =
    let a = c.self.inside in
    let inside : a.at < length a.text.now = omega arith in
    sym (no_letter_left c.args.letter a.from a.text.now a.at inside (c.self.invariant.1 inside) (not_equal _ _ c.if-self-letter.true)) ∙ ap (λ ts. is_head_letter c.args.letter (placed_words ts)) c.self.view_is

pub returns-then-not-is_lone-clause-is : goal.returns-then-not-is_lone-clause-is
returns-then-not-is_lone-clause-is c =
    let a = c.self.inside in
    let inside : a.at < length a.text.now = omega arith in
    let run = c.run_len-len in
    let first = first_left a.from a.text.now a.at run.result inside (c.self.invariant.1 inside) run.ensures.high run.ensures.run run.ensures.ends in
    sym c.if-not-is_lone.true ∙ c.is_lone.ensures ∙ ap (λ xs. is_letter c.args.letter (word_of (take run.result xs))) (part_behind a.text.now a.at) ∙ sym (ap (λ ts. is_head_letter c.args.letter (placed_words ts)) (sym c.self.view_is ∙ first))

pub returns-clause-is : goal.returns-clause-is
returns-clause-is c =
    let a = c.self.inside in
    let inside : a.at < length a.text.now = omega arith in
    let run = c.run_len-len in
    let first = first_left a.from a.text.now a.at run.result inside (c.self.invariant.1 inside) run.ensures.high run.ensures.run run.ensures.ends in
    sym c.if-not-is_lone.false ∙ c.is_lone.ensures ∙ ap (λ xs. is_letter c.args.letter (word_of (take run.result xs))) (part_behind a.text.now a.at) ∙ sym (ap (λ ts. is_head_letter c.args.letter (placed_words ts)) (sym c.self.view_is ∙ first))

pub returns-clause-taken : goal.returns-clause-taken
returns-clause-taken c _ =
    let a = c.self.inside in
    let inside : a.at < length a.text.now = omega arith in
    let run = c.run_len-len in
    let next = c.behind-self-inside in
    sym (left_from a.from true a.text.now (a.at + run.result) next.result next.ensures.left)
    ∙ ap (drop 1) (sym (first_left a.from a.text.now a.at run.result inside (c.self.invariant.1 inside) run.ensures.high run.ensures.run run.ensures.ends) ∙ c.self.view_is)
