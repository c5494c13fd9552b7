use Rattle.std.proofs.Common.{◌∙◌, ap, sym, subst, ◌∷◌, ◌++◌, [], map, pos}
use Rattle.cx_desk.specs.Outside.{Bytes}
use Rattle.cx_desk.specs.Calls.{PutsAll}
use Rattle.cx_texts.specs.Grammar.{spelled_list}
use Rattle.step_text.specs.Spaced.{spaced}
use Rattle.step_text.specs.Tails.{tail_text}
use Rattle.step_text.proofs.Puts.{two_puts, list_tail}
use Rattle.step_text.proofs.pieces.put_tail.Goals as goal

pub returns-in-Nothing : goal.returns-in-Nothing
returns-in-Nothing g c =
    let old = g.D.Desk.outside c.args.desk.now in
    let new = g.D.Desk.outside c.put_all.new.desk in
    subst (λ (t : Bytes). PutsAll c.args.port t old c.put_all.result new) (ap tail_text (sym c.in-Nothing.is)) c.put_all.ensures

pub returns-in-Hints : goal.returns-in-Hints
returns-in-Hints g c =
    let old = g.D.Desk.outside c.args.desk.now in
    let new = g.D.Desk.outside c.put_integers.new.desk in
    let text = list_tail (spelled_list c.in-Hints.hints.now) ∙ ap tail_text (sym c.in-Hints.is) in
    subst (λ (t : Bytes). PutsAll c.args.port t old c.put_integers.result new) text c.put_integers.ensures

pub returns-in_ok-put_all-in-MarkedHints : goal.returns-in_ok-put_all-in-MarkedHints
returns-in_ok-put_all-in-MarkedHints g c =
    let words = spelled_list c.in-MarkedHints.hints.now in
    let text = ap (λ t. 32 ∷ 108 ∷ t) (list_tail words) ∙ ap tail_text (sym c.in-MarkedHints.is) in
    let old = g.D.Desk.outside c.args.desk.now in
    let mid = g.D.Desk.outside c.put_all-in-MarkedHints.new.desk in
    let new = g.D.Desk.outside c.put_integers-in-MarkedHints.new.desk in
    two_puts c.args.port (32 ∷ 108 ∷ []) (spaced words ++ 10 ∷ []) _ old mid new c.put_integers-in-MarkedHints.result text c.in_ok-put_all-in-MarkedHints.ensures c.put_integers-in-MarkedHints.ensures

pub returns-in_ok-put_all-in-MarkedIds : goal.returns-in_ok-put_all-in-MarkedIds
returns-in_ok-put_all-in-MarkedIds g c =
    let words = spelled_list (map pos c.in-MarkedIds.ids.now) in
    let text = ap (λ t. 32 ∷ 108 ∷ t) (list_tail words) ∙ ap tail_text (sym c.in-MarkedIds.is) in
    let old = g.D.Desk.outside c.args.desk.now in
    let mid = g.D.Desk.outside c.put_all-in-MarkedIds.new.desk in
    let new = g.D.Desk.outside c.put_ids.new.desk in
    two_puts c.args.port (32 ∷ 108 ∷ []) (spaced words ++ 10 ∷ []) _ old mid new c.put_ids.result text c.in_ok-put_all-in-MarkedIds.ensures c.put_ids.ensures
