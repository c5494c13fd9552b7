use Rattle.std.proofs.Common.{◌∙◌, sym, ap, Some, ◌+◌, ◌<◌, take, length, arith}
use Rattle.cx_texts.specs.Words.{placed_words, word_of}
use Rattle.cx_texts.proofs.Slices.{part_behind}
use Rattle.step_text.specs.Heads.{seen_head}
use Rattle.step_text.specs.Seen.{seen as saw}
use Rattle.step_text.proofs.AheadLaws.{first_left}
use Rattle.step_text.proofs.ahead.TokensAhead.word.Goals as goal

pub returns : goal.returns
returns c =
    let a = c.self.inside in
    let inside : a.at < length a.text.now = omega arith in
    let run = c.run_len-len in
    let first = first_left a.from a.text.now a.at run.result inside (c.self.invariant.1 inside) run.ensures.high run.ensures.run run.ensures.ends in
    let seen = ap (λ ts. seen_head (placed_words ts)) (sym c.self.view_is ∙ first) in
    ap (λ w. Some (record { place = a.from + a.at; word = w })) (c.see.ensures ∙ ap (λ xs. saw (word_of (take run.result xs))) (part_behind a.text.now a.at)) ∙ sym seen
