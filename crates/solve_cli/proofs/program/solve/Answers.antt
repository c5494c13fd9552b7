use Rattle.std.proofs.Common.{◌∙◌, ap, None}
use Rattle.solve_cli.proofs.Acting.{acts_then, acts_both}
use Rattle.solve_cli.proofs.Searching.{search_answered, search_gave_up, none_begun}
use Rattle.solve_cli.specs.Seen.{Seen, seen}
use Rattle.solve_cli.proofs.program.solve.Goals as goal

pub search_on-requires-clause-empty : goal.search_on-requires-clause-empty
search_on-requires-clause-empty g c =
    ap (λ (s : Seen). s.written.proof) ((c.in-Ok.ensures.begins c.args.options).did None tt).1.0
    ∙ none_begun c.args.formula c.args.log c.args.options (seen None (g.D.Desk.outside c.args.desk.now)) c.requires.empty

pub returns-in-Err : goal.returns-in-Err
returns-in-Err g c = c.in-Err.ensures.begins c.args.options

pub returns-in-Ok-search_on : goal.returns-in-Ok-search_on
returns-in-Ok-search_on g c =
    let o = g.D.Desk.outside c.args.desk.now in
    let m = g.D.Desk.outside c.begin_search.new.desk in
    let p = g.D.Desk.outside c.search_on.new.desk in
    let n = g.D.Desk.outside c.answer.new.desk in
    acts_then (c.in-Ok.ensures.begins c.args.options) (acts_both (c.in-Ok-search_on.ensures c.args.limit) (c.answer.ensures c.args.limit))
    (λ w b x. search_answered c.args.formula c.args.log c.args.options c.args.limit (seen w o) c.in-Ok.formula (seen w m) b.0 b.1 c.in-Ok-search_on.ending (seen w p) c.answer.result (seen w n) x.0 x.1)

pub returns : goal.returns
returns g c =
    let o = g.D.Desk.outside c.args.desk.now in
    let m = g.D.Desk.outside c.begin_search.new.desk in
    let n = g.D.Desk.outside c.search_on.new.desk in
    acts_then (c.in-Ok.ensures.begins c.args.options) (c.in-Err-search_on.ensures c.args.limit)
    (λ w b h. search_gave_up c.args.formula c.args.log c.args.options c.args.limit (seen w o) c.in-Ok.formula (seen w m) b.0 b.1 c.in-Err-search_on.outcome (seen w n) h)
