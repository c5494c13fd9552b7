use Rattle.std.proofs.Common.{refl, sym, subst, ◌+◌, drop, arith}
use Rattle.std.proofs.lemmas.Int.{ints}
use Rattle.cx_texts.specs.Tokens.{tokens_within}
use Rattle.step_text.specs.Short.{TakesNumber}
use Rattle.step_text.proofs.AheadLaws.{short_first}
use Rattle.step_text.proofs.Taken.{read_back}
use Rattle.step_text.proofs.ahead.TokensAhead.take_short.Goals as goal

pub returns : goal.returns
returns c =
    let a = c.self.inside in
    let text = a.text.now in
    let short = c.in_ok-short.short in
    let front = c.in_ok-short.ensures in
    let next = c.begin_behind-self-inside in
    let left = tokens_within (a.from + next.result) (drop next.result text) in
    let taken = short_first a.from text a.at short next.result c.self.invariant.1 front next.ensures.left in (
      omega (arith, ints),
      subst (λ z. TakesNumber c.args.self.now z left) (sym (read_back short.value short.value refl front.small)) (subst (λ ts. TakesNumber ts short.value left) c.self.view_is taken),
    )
