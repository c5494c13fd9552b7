use Rattle.std.proofs.Common.{◌≡◌, IfErr, sym, subst, rules}
use Rattle.cx_desk.specs.Outside.{Outside}
use Rattle.step_text.specs.Slots.{SlotState, IsPossible, is_too_long}
use Rattle.xlrup_check.specs.Verdicts.{HasCause}
use Rattle.solve_cli.proofs.judge.check_on.Goals as goal

pub returns-clause-judged : goal.returns-clause-judged
returns-clause-judged g c = λ text may.
    let n = g.D.Desk.outside c.check.new.source.desk.now in
    let desk : ◌≡◌ {A = Outside} n (g.D.Desk.outside c.desk-1.given.0) = search rules in
    let reader : ◌≡◌ {A = SlotState} c.check.new.source.reader.now c.reader-1.given.0 = search rules in
    let here = subst (λ (x : SlotState). IsPossible x.bytes n text) (sym reader) (subst (λ (x : Outside). IsPossible c.reader-1.given.0.bytes x text) (sym desk) may) in
    c.check.ensures.judged text here

pub returns-clause-cause : goal.returns-clause-cause
returns-clause-cause g c = λ text may.
    let o = g.D.Desk.outside c.args.desk.now in
    let n = g.D.Desk.outside c.check.new.source.desk.now in
    let desk : ◌≡◌ {A = Outside} n (g.D.Desk.outside c.desk-1.given.0) = search rules in
    let reader : ◌≡◌ {A = SlotState} c.check.new.source.reader.now c.reader-1.given.0 = search rules in
    let here = subst (λ (x : SlotState). IsPossible x.bytes n text) (sym reader) (subst (λ (x : Outside). IsPossible c.reader-1.given.0.bytes x text) (sym desk) may) in
    subst (λ (x : Outside). IfErr c.check.result (HasCause (is_too_long c.args.reader.now.bytes o text) o.faults.reads x.faults.reads)) desk (c.check.ensures.cause text here)
