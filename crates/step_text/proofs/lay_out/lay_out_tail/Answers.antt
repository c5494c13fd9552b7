use Rattle.std.proofs.Common.{◌≤◌, ◌∙◌, ap, sym, ◌∷◌, ◌++◌, length, arith, map, pos}
use Rattle.std.proofs.Math.ListN.{drop_of_length-le}
use Rattle.cx_texts.specs.Grammar.{spelled_list}
use Rattle.step_text.specs.Spaced.{spaced}
use Rattle.step_text.specs.Tails.{tail_text}
use Rattle.step_text.proofs.Puts.{list_tail}
use Rattle.step_text.proofs.lay_out.lay_out_tail.Goals as goal

pub returns-in-Nothing-clause-laid : goal.returns-in-Nothing-clause-laid
returns-in-Nothing-clause-laid c =
    let whole : length c.args.sheet.now ≤ length c.args.sheet.now = omega arith in
    let feed = c.lay_out_text-end.ensures.laid ∙ ap (λ t. 10 ∷ t) (drop_of_length-le c.args.sheet.now whole) in
    feed ∙ ap tail_text (sym c.in-Nothing.is)

pub returns-in-Hints-clause-laid : goal.returns-in-Hints-clause-laid
returns-in-Hints-clause-laid c =
    let whole : length c.args.sheet.now ≤ length c.args.sheet.now = omega arith in
    let feed = c.lay_out_text-end.ensures.laid ∙ ap (λ t. 10 ∷ t) (drop_of_length-le c.args.sheet.now whole) in
    let words = spelled_list c.in-Hints.hints.now in
    c.lay_out_list.ensures.laid ∙ ap (λ t. spaced words ++ t) feed ∙ list_tail words ∙ ap tail_text (sym c.in-Hints.is)

pub returns-in-MarkedHints-clause-laid : goal.returns-in-MarkedHints-clause-laid
returns-in-MarkedHints-clause-laid c =
    let whole : length c.args.sheet.now ≤ length c.args.sheet.now = omega arith in
    let feed = c.lay_out_text-end.ensures.laid ∙ ap (λ t. 10 ∷ t) (drop_of_length-le c.args.sheet.now whole) in
    let words = spelled_list c.in-MarkedHints.hints.now in
    let list = c.lay_out_list-begin.ensures.laid ∙ ap (λ t. spaced words ++ t) feed ∙ list_tail words in
    c.lay_out_text.ensures.laid ∙ ap (λ t. 32 ∷ 108 ∷ t) list ∙ ap tail_text (sym c.in-MarkedHints.is)

pub returns-in-MarkedIds-clause-laid : goal.returns-in-MarkedIds-clause-laid
returns-in-MarkedIds-clause-laid c =
    let whole : length c.args.sheet.now ≤ length c.args.sheet.now = omega arith in
    let feed = c.lay_out_text-end.ensures.laid ∙ ap (λ t. 10 ∷ t) (drop_of_length-le c.args.sheet.now whole) in
    let words = spelled_list (map pos c.in-MarkedIds.ids.now) in
    let list = c.lay_out_id_list-begin.ensures.laid ∙ ap (λ t. spaced words ++ t) feed ∙ list_tail words in
    c.lay_out_text-in-MarkedIds.ensures.laid ∙ ap (λ t. 32 ∷ 108 ∷ t) list ∙ ap tail_text (sym c.in-MarkedIds.is)
