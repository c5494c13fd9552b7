use Rattle.std.proofs.Common.{[], rules, ◌≡◌, ◌∙◌, sym, ap, arith, ◌+◌, ◌-◌, ◌∷◌, true, map, drop, take}
use Rattle.cx_texts.specs.Tokens.{tokens_within_by}
use Rattle.cx_texts.proofs.LaterPlaces.{later, left-later}
use Rattle.cx_texts.proofs.TokenLaws.{token_at, next_part}
use Rattle.cx_texts.proofs.token_reader.TokenReader.next_token.Goals as goal

pub returns : goal.returns
returns c =
    let r = c.self.inside in
    let text = r.text.now in
    let at = c.in_ok-at.at in
    let run = c.run_len-len in
    let found = c.in_ok-at.ensures.found in
    let size : run.result ≡ (at + run.result) - at = omega arith in
    sym c.self.view_is ∙ left-later r.end_lines r.place.in_line r.from r.place.at (drop r.place.at text)
    ∙ ap (map (later r.from)) (found.2 ∙ next_part r.end_lines text at run.result found.0 found.1 run.ensures.high run.ensures.run run.ensures.ends)
    ∙ ap (λ ts. token_at (r.from + at) (take run.result (drop at text)) ∷ ts) (sym (left-later r.end_lines true r.from (at + run.result) (drop (at + run.result) text)))
    ∙ ap (λ n. token_at (r.from + at) (take n (drop at text)) ∷ tokens_within_by r.end_lines (r.from + (at + run.result)) (drop (at + run.result) text)) size

pub returns-in_err-at : goal.returns-in_err-at
returns-in_err-at c =
    let r = c.self.inside in
    let nothing : c.args.self.now ≡ [] = sym c.self.view_is ∙ left-later r.end_lines r.place.in_line r.from r.place.at (drop r.place.at r.text.now) ∙ ap (map (later r.from)) c.in_err-at.ensures.none in
    search rules
