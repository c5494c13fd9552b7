use Rattle.std.proofs.Common.{◌≡◌, [], rules, ◌∷◌, ◌∙◌, ◌+◌, sym, ap, subst, map, drop, take}
use Rattle.cx_texts.proofs.LaterPlaces.{later, left-later}
use Rattle.cx_texts.proofs.Slices.{part_behind}
use Rattle.cx_texts.proofs.TokenLaws.{token_at, next_part}
use Rattle.cx_texts.proofs.token_reader.TokenReader.next_as.Goals as goal

pub returns : goal.returns
returns g c =
    let r = c.self.inside in
    let text = r.text.now in
    let at = c.in_ok-at.at in
    let front = c.read-front in
    let found = c.in_ok-at.ensures.found in
    let next = c.behind_token-self-inside.result in (
      take front.result.len (drop at text),
      sym c.self.view_is ∙ left-later r.end_lines r.place.in_line r.from r.place.at (drop r.place.at text)
          ∙ ap (map (later r.from)) (found.2 ∙ next_part r.end_lines text at front.result.len found.0 found.1 front.ensures.high front.ensures.run front.ensures.ends
          ∙ ap (λ ts. record { place = at; text = take front.result.len (drop at text) } ∷ ts) (c.behind_token-self-inside.ensures.left r.end_lines))
          ∙ ap (λ ts. token_at (r.from + at) (take front.result.len (drop at text)) ∷ ts) (sym (left-later r.end_lines next.in_line r.from next.at (drop next.at text))),
      subst (λ xs. g.T.FrontToken.said front.result.token (take front.result.len xs)) (part_behind text at) front.ensures.says,
    )

pub returns-in_err-at : goal.returns-in_err-at
returns-in_err-at g c =
    let r = c.self.inside in
    let nothing : c.args.self.now ≡ [] = sym c.self.view_is ∙ left-later r.end_lines r.place.in_line r.from r.place.at (drop r.place.at r.text.now) ∙ ap (map (later r.from)) c.in_err-at.ensures.none in
    search rules
