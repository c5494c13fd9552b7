use Rattle.std.proofs.Common.{[], subst, sym, ◌∙◌}
use Rattle.clause_arena.specs.Clauses.{ArenaState}
use Rattle.clause_tidy.specs.Agreeing.{AreProper}
use Rattle.tidy_rules.specs.Parts.{Tidied}
use Rattle.cdcl_core.specs.Tidying.{PutsUnit}
use Rattle.cdcl_core.proofs.TidyNow.{tidy_now}
use Rattle.cdcl_core.proofs.WaitingUnits.{are_proper, none_waits}
use Rattle.cdcl_search.specs.GoingOn.{log_then}
use Rattle.cdcl_core.proofs.tidying.tidy_clauses.Goals as goal

pub tidy_arena-requires-clause-stands : goal.tidy_arena-requires-clause-stands
tidy_arena-requires-clause-stands g c =
    c.forget.ensures.unwatched c.args.log.now.formula.now (g.P.ParityEngine.state c.args.engine.now) (g.L.Sink.items c.args.log.now.sink.now) c.requires.stands

pub tidy_arena-requires-clause-proper : goal.tidy_arena-requires-clause-proper
tidy_arena-requires-clause-proper g c = subst (AreProper c.args.log.now.formula.now) (sym c.forget.ensures.arena)
    (are_proper c.args.log.now.formula.now c.args.state.now (g.P.ParityEngine.state c.args.engine.now) (g.L.Sink.items c.args.log.now.sink.now) c.requires.stands)

pub returns-then-branch-clause-goes_on : goal.returns-then-branch-clause-goes_on
returns-then-branch-clause-goes_on g c =
    let log = c.go_on_tidied.new.log in
    let state = c.go_on_tidied.new.state in
    let e = g.P.ParityEngine.state c.args.engine.now in
    let told = g.L.Sink.items c.go_on_tidied.new.log.sink.now in
    let after = c.in_ok-go_on_tidied-in-Done.ensures in
    none_waits log.formula.now state e told after.stays.0 after.watched (subst (PutsUnit log.formula.now state e [] [] told) c.if-branch.true after.puts)

pub returns-then-branch-clause-tidied : goal.returns-then-branch-clause-tidied
returns-then-branch-clause-tidied g c =
    let log = c.go_on_tidied.new.log in
    let state = c.go_on_tidied.new.state in
    let e = g.P.ParityEngine.state c.args.engine.now in
    let told = g.L.Sink.items c.go_on_tidied.new.log.sink.now in
    let after = c.in_ok-go_on_tidied-in-Done.ensures in
    let done = rw c.in-Done.is at c.in_ok-lits.ensures.tidies in
    let stands = none_waits log.formula.now state e told after.stays.0 after.watched (subst (PutsUnit log.formula.now state e [] [] told) c.if-branch.true after.puts) in
    tidy_now log.formula.now state e told c.in-Done.units stands after.stays.0 (subst (λ (a : ArenaState). Tidied a c.in-Done.units) (sym after.stays.3) done.3)

pub tidy_arena-requires-clause-restart : goal.tidy_arena-requires-clause-restart
tidy_arena-requires-clause-restart g c = c.forget.ensures.restart

pub tidy_arena-requires-clause-going : goal.tidy_arena-requires-clause-going
tidy_arena-requires-clause-going g c = c.requires.going

pub go_on_tidied-requires-clause-each : goal.go_on_tidied-requires-clause-each
go_on_tidied-requires-clause-each g c = (rw c.in-Done.is at c.in_ok-lits.ensures.tidies).1

pub go_on_tidied-requires-clause-beside : goal.go_on_tidied-requires-clause-beside
go_on_tidied-requires-clause-beside g c = (rw c.in-Done.is at c.in_ok-lits.ensures.tidies).0

pub go_on_tidied-requires-clause-going : goal.go_on_tidied-requires-clause-going
go_on_tidied-requires-clause-going g c = c.in_ok-lits.ensures.log.failed ∙ c.requires.going

pub returns-then-branch-clause-log : goal.returns-then-branch-clause-log
returns-then-branch-clause-log g c = log_then g.L.Sink g.met.L.Sink.keeps_on _ c.tidy_arena.new.log _ _ c.in_ok-lits.ensures.log c.in_ok-go_on_tidied-in-Done.ensures.log

pub returns-in_ok-negated-in-Ended-clause-stays : goal.returns-in_ok-negated-in-Ended-clause-stays
returns-in_ok-negated-in-Ended-clause-stays g c = tt

pub returns-in_ok-negated-in-Ended-clause-log : goal.returns-in_ok-negated-in-Ended-clause-log
returns-in_ok-negated-in-Ended-clause-log g c = c.in_ok-lits.ensures.log

pub returns-else-branch-clause-tidied : goal.returns-else-branch-clause-tidied
returns-else-branch-clause-tidied g c = tt

pub returns-else-branch-clause-stays : goal.returns-else-branch-clause-stays
returns-else-branch-clause-stays g c = tt

pub returns-else-branch-clause-log : goal.returns-else-branch-clause-log
returns-else-branch-clause-log g c = log_then g.L.Sink g.met.L.Sink.keeps_on _ c.tidy_arena.new.log _ _ c.in_ok-lits.ensures.log c.in_ok-go_on_tidied-in-Done.ensures.log
