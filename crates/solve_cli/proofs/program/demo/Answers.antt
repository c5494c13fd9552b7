use Rattle.std.proofs.Common.{◌≤◌, length, sym, subst, take}
use Rattle.cx_base.specs.Problem.{Problem}
use Rattle.cx_desk.specs.declared.desk.Port.TheVariants as port
use Rattle.cx_texts.specs.Printed.{printed_log}
use Rattle.solve_cli.specs.declared.ending.Ending.TheVariants as ending
use Rattle.solve_cli.specs.declared.ending.Instance.{Instance}
use Rattle.solve_cli.specs.Demo.{demo_options, Stands}
use Rattle.solve_cli.specs.Seen.{seen}
use Rattle.solve_cli.specs.Solving.{ComesTo}
use Rattle.solve_cli.specs.Steps.{Acts, PutsAnswer}
use Rattle.solve_cli.proofs.Acting.{acts_none, acts_then, acts_as, acts_puts, acts_torn}
use Rattle.solve_cli.proofs.Demonstrating.{demo_none, demo_cut, demo_wanted, demo_answered}
use Rattle.solve_cli.proofs.Planted.{few_planted}
use Rattle.solve_cli.proofs.program.demo.Goals as goal

pub search-requires-clause-few : goal.search-requires-clause-few
search-requires-clause-few g c =
    subst (λ (f : Problem). length f.constraints ≤ 4294967295) (sym c.in-Ok.ensures) (few_planted c.args.kind c.args.size c.args.seed c.requires.high)

pub returns-in-Err : goal.returns-in-Err
returns-in-Err g c = λ limit. let o = g.D.Desk.outside c.args.desk.now in acts_none limit o (λ w. demo_none c.args.kind c.args.size c.args.seed limit (seen w o))

pub returns-in-Err-search : goal.returns-in-Err-search
returns-in-Err-search g c = λ limit. let o = g.D.Desk.outside c.args.desk.now in acts_none limit o (λ w. demo_none c.args.kind c.args.size c.args.seed limit (seen w o))

pub returns-in-Err-put_log : goal.returns-in-Err-put_log
returns-in-Err-put_log g c = λ limit.
    let o = g.D.Desk.outside c.args.desk.now in
    let n = g.D.Desk.outside c.put_log.new.desk in
    let events = c.search.new.log in
    let finds = subst (λ (f : Problem). ComesTo f demo_options (printed_log events) c.in-Ok-search.found) c.in-Ok.ensures c.in-Ok-search.ensures in
    let h = c.in-Err-put_log.ensures in
    acts_as (acts_torn limit port.Proof (take h.0 (printed_log events)) o n h.2) (λ w fault. demo_cut c.args.kind c.args.size c.args.seed limit events c.in-Ok-search.found w o finds n h)

pub returns-in-Err-show : goal.returns-in-Err-show
returns-in-Err-show g c = λ limit.
    let o = g.D.Desk.outside c.args.desk.now in
    let n = g.D.Desk.outside c.put_log.new.desk in
    let events = c.search.new.log in
    let finds = subst (λ (f : Problem). ComesTo f demo_options (printed_log events) c.in-Ok-search.found) c.in-Ok.ensures c.in-Ok-search.ensures in
    acts_as (acts_puts limit port.Proof (printed_log events) o n c.in-Ok-put_log.ensures) (λ w same. demo_wanted c.args.kind c.args.size c.args.seed limit events c.in-Ok-search.found w o finds n c.in-Ok-put_log.ensures)

pub returns : goal.returns
returns g c = λ limit.
    let o = g.D.Desk.outside c.args.desk.now in
    let at = g.D.Desk.outside c.put_log.new.desk in
    let n = g.D.Desk.outside c.answer.new.desk in
    let events = c.search.new.log in
    let shown = c.in-Ok-show.shown in
    let finds = subst (λ (f : Problem). ComesTo f demo_options (printed_log events) c.in-Ok-search.found) c.in-Ok.ensures c.in-Ok-search.ensures in
    let stands = subst (λ (f : Problem). Stands f (printed_log events) shown) c.in-Ok.ensures c.in-Ok-show.ensures in
    let answers = subst (λ (i : Instance). Acts limit at n (λ w. PutsAnswer (ending.Demonstrated i shown) (seen w at) c.answer.result (seen w n))) c.instance_of-instance.ensures (c.answer.ensures limit) in
    acts_then (acts_puts limit port.Proof (printed_log events) o at c.in-Ok-put_log.ensures) answers
    (λ w same a. demo_answered c.args.kind c.args.size c.args.seed limit events c.in-Ok-search.found w o finds shown at c.answer.result (seen w n) stands c.in-Ok-put_log.ensures a)
