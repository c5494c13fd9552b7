use Rattle.std.proofs.Common.{refl, sym, subst, Some}
use Rattle.conflict_learn.specs.declared.fault.CoreFault.{CoreFault}
use Rattle.cdcl_search.specs.Logs.{GoesOn}
use Rattle.cdcl_core.specs.Tidying.{TidiesSearch}
use Rattle.cdcl_core.proofs.TidyLogs.{fault_goes_on, ok_goes_on, ok_tidies}
use Rattle.cdcl_core.proofs.tidying.tidy_arena.Goals as goal

pub tidy_from-requires-clause-tidy : goal.tidy_from-requires-clause-tidy
tidy_from-requires-clause-tidy g c = c.requires.stands.3.clauses.old.tidy

pub returns-in-Ok-clause-tidies : goal.returns-in-Ok-clause-tidies
returns-in-Ok-clause-tidies g c =
    let t = c.in-Ok.ensures in
    let e = g.P.ParityEngine.state c.args.engine.now in
    subst (λ n. TidiesSearch c.args.log.now.formula.now (record c.args.state.now { arena = c.tidy_from.new.arena; tidy_below = n }) e (g.L.Sink.items c.tidy_from.new.log) c.in-Ok.outcome) (sym c.len.ensures.len)
    (ok_tidies g.L.Sink c.args.log.now (record c.args.log.now { sink = record c.args.log.now.sink { now = c.tidy_from.new.log } }) refl refl t.frame c.args.state.now (g.P.ParityEngine.state c.args.engine.now) c.requires.stands c.requires.proper c.requires.restart c.tidy_from.new.arena c.in-Ok.outcome
    t.tidied t.each t.covers t.derived t.parts t.learned t.wide t.was t.agrees t.ends)

pub returns-in-Ok-clause-log : goal.returns-in-Ok-clause-log
returns-in-Ok-clause-log g c =
    let t = c.in-Ok.ensures in
    ok_goes_on g.L.Sink c.args.log.now (record c.args.log.now { sink = record c.args.log.now.sink { now = c.tidy_from.new.log } }) refl refl t.frame c.args.state.now (g.P.ParityEngine.state c.args.engine.now) c.requires.stands c.requires.proper c.requires.restart c.tidy_from.new.arena c.in-Ok.outcome
    t.agrees t.ends t.faults t.failed

pub returns-in-Err-clause-log : goal.returns-in-Err-clause-log
returns-in-Err-clause-log g c =
    let t = c.in-Err.ensures in
    subst (λ (f : CoreFault). GoesOn g.L.Sink c.args.log.now (Some f) (record c.args.log.now { sink = record c.args.log.now.sink { now = c.tidy_from.new.log } })) (sym c.fault_of.ensures)
    (fault_goes_on g.L.Sink c.args.log.now (record c.args.log.now { sink = record c.args.log.now.sink { now = c.tidy_from.new.log } }) refl refl t.frame c.args.state.now (g.P.ParityEngine.state c.args.engine.now) c.requires.stands c.requires.proper c.requires.restart c.in-Err.fault t.left t.torn t.faults t.failed)
