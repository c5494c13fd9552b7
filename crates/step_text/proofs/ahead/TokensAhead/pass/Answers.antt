use Rattle.std.proofs.Common.{◌∙◌, sym, ap, ◌+◌, true, drop, length, arith, inl, inr}
use Rattle.std.proofs.lemmas.Bool.{cases_lt}
use Rattle.step_text.proofs.AheadLaws.{first_left, left_from, none_left}
use Rattle.step_text.proofs.ahead.TokensAhead.pass.Goals as goal

pub returns : goal.returns
returns c =
    let a = c.self.inside in
    let run = c.run_len-len in
    let next = c.behind-self-inside in
    let behind = sym (left_from a.from true a.text.now (a.at + run.result) next.result next.ensures.left) in
    elim (cases_lt a.at (length a.text.now)) [
      | inl inside ↦ behind ∙ ap (drop 1) (sym (first_left a.from a.text.now a.at run.result inside (c.self.invariant.1 inside) run.ensures.high run.ensures.run run.ensures.ends) ∙ c.self.view_is)
      | inr end ↦ behind ∙ none_left (a.from + (a.at + run.result)) a.text.now (a.at + run.result) (omega arith) ∙ ap (drop 1) (sym (none_left (a.from + a.at) a.text.now a.at end) ∙ c.self.view_is)
    ]
