use Rattle.std.proofs.Common.{ℕ, List, sym, subst}
use Rattle.cx_base.specs.Literals.{Literal}
use Rattle.cdcl_search.proofs.Outcomes.{on_ok}
use Rattle.cdcl_core.specs.Tidying.{StandsBeside}
use Rattle.cdcl_core.proofs.WaitingUnits.{counted_beside, with_watches}
use Rattle.cdcl_core.proofs.tidying.go_on_tidied.Goals as goal

pub put_units-requires-clause-beside : goal.put_units-requires-clause-beside
put_units-requires-clause-beside g c =
    let e = g.P.ParityEngine.state c.args.engine.now in
    let formula = c.args.log.now.formula.now in
    let told = g.L.Sink.items c.args.log.now.sink.now in
    let state = c.args.state.now in
    let learned = c.count_learned-state.result in
    let w = c.attach_anew.new.self in
    subst (λ (us : List Literal). StandsBeside formula (with_watches state learned w) e us c.as_slice-2.result.now told) (sym c.as_slice.ensures)
    (subst (λ (ns : List ℕ). StandsBeside formula (with_watches state learned w) e c.args.units.now ns told) (sym c.as_slice-2.ensures)
    (counted_beside formula state e c.args.units.now c.args.ids.now told learned w c.count_learned-state.ensures c.requires.beside))

pub returns-clause-watched : goal.returns-clause-watched
returns-clause-watched g c = on_ok _ c.put_units.result c.put_units.ensures.stays
    (λ s. s.watched (record { fits = c.in_ok-attach_anew.ensures.fits c.args.state.now.trail (sym c.requires.variables); all = c.in_ok-attach_anew.ensures.attached }))

pub put_units-requires-clause-going : goal.put_units-requires-clause-going
put_units-requires-clause-going g c = c.requires.going

pub returns-clause-puts : goal.returns-clause-puts
returns-clause-puts g c = c.put_units.ensures.puts

pub returns-clause-log : goal.returns-clause-log
returns-clause-log g c = c.put_units.ensures.log
