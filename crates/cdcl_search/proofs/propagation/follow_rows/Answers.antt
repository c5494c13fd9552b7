use Rattle.std.proofs.Common.{◌≡◌, refl, sym, ap, subst, [], length, arith}
use Rattle.std.proofs.lemmas.List.{length_push}
use Rattle.cx_trail.specs.Sequence.{TrailState}
use Rattle.cx_trail.specs.declared.entry.Reason.TheVariants as reason
use Rattle.parity_engine.specs.State.{State, IsSilent}
use Rattle.parity_engine.specs.declared.state.Mood.TheVariants.{Calm, Busy}
use Rattle.search_policy.specs.Assuming.{IsLonger}
use Rattle.cdcl_search.proofs.Longer.{same_rests, longer_by_one}
use Rattle.cdcl_search.proofs.Naming.{implied_is_open, quiet_stands, implied_stands, conflict_stands, conflict_is_clash}
use Rattle.cdcl_search.proofs.propagation.follow_rows.Goals as goal

pub imply-requires-clause-open : goal.imply-requires-clause-open
imply-requires-clause-open g c =
    let a = c.in-Implied.ensures in
    implied_is_open c.args.formula.now c.args.state.now (g.P.ParityEngine.state c.args.engine.now) [] c.requires.stands.1.0 c.requires.stands.1.3 c.requires.all c.in-Implied.literal a.5.unassigned

pub returns-in-Quiet-clause-stands : goal.returns-in-Quiet-clause-stands
returns-in-Quiet-clause-stands g c told stands =
    let a = c.in-Quiet.ensures in
    quiet_stands c.args.formula.now c.args.state.now (g.P.ParityEngine.state c.args.engine.now) (g.P.ParityEngine.state c.next_event.new.self) [] told a.0 stands

pub returns-in-Implied-clause-stands : goal.returns-in-Implied-clause-stands
returns-in-Implied-clause-stands g c told stands =
    implied_stands c.args.formula.now c.args.state.now (g.P.ParityEngine.state c.args.engine.now) (g.P.ParityEngine.state c.next_event.new.self) [] told c.in-Implied.literal c.in-Implied.row (c.in-Implied.ensures)
    c.requires.all c.imply.new.self c.imply.ensures.pushed c.imply.ensures.sound stands

pub returns-in-Conflict-clause-stands : goal.returns-in-Conflict-clause-stands
returns-in-Conflict-clause-stands g c told stands =
    conflict_stands c.args.formula.now c.args.state.now (g.P.ParityEngine.state c.args.engine.now) (g.P.ParityEngine.state c.next_event.new.self) [] told c.in-Conflict.row (c.in-Conflict.ensures) stands

pub returns-in-Conflict-clause-says : goal.returns-in-Conflict-clause-says
returns-in-Conflict-clause-says g c = (refl, conflict_is_clash (g.P.ParityEngine.state c.args.engine.now) (g.P.ParityEngine.state c.next_event.new.self) c.in-Conflict.row (c.in-Conflict.ensures))

pub imply-requires-clause-high : goal.imply-requires-clause-high
imply-requires-clause-high g c =
    let ties = c.requires.stands.1.3 in
    let high = c.in-Implied.ensures.5.high in
    let vars = ties.engine.vars in
    let wide = ties.trail.variables in
    omega (arith, high, vars, wide)

pub imply-requires-clause-reason : goal.imply-requires-clause-reason
imply-requires-clause-reason g c = λ above is. cc

pub returns-in-Quiet-clause-says : goal.returns-in-Quiet-clause-says
returns-in-Quiet-clause-says g c =
    let a = c.in-Quiet.ensures in
    let silent : IsSilent (record (g.P.ParityEngine.state c.args.engine.now) { mood = Calm }) = record { consistent = a.1.consistent; forced = a.1.forced } in
    (refl, subst IsSilent (sym a.0) silent, ap (λ (s : State). s.mood) a.0)

pub returns-in-Implied-clause-says : goal.returns-in-Implied-clause-says
returns-in-Implied-clause-says g c =
    let longer = ap (λ (t : TrailState). length t.entries) c.imply.ensures.pushed in
    let one = length_push c.args.state.now.trail.entries (record { literal = c.in-Implied.literal; level = c.args.state.now.trail.level; reason = reason.Row c.in-Implied.row }) in
    let busy : (g.P.ParityEngine.state c.next_event.new.self).mood ≡ Busy = ap (λ (s : State). s.mood) c.in-Implied.ensures.2 in
    (omega (arith, longer, one), λ broken. cc (busy, broken))

pub returns-in-Quiet-clause-same : goal.returns-in-Quiet-clause-same
returns-in-Quiet-clause-same g c = same_rests c.args.state.now

pub returns-in-Implied-clause-same : goal.returns-in-Implied-clause-same
returns-in-Implied-clause-same g c = (ap (λ (t : TrailState). t.level) c.imply.ensures.pushed, refl, refl, refl, subst (IsLonger c.args.state.now.trail) (sym c.imply.ensures.pushed) (longer_by_one c.args.state.now.trail c.in-Implied.literal (reason.Row c.in-Implied.row)), refl)

pub returns-in-Conflict-clause-same : goal.returns-in-Conflict-clause-same
returns-in-Conflict-clause-same g c = same_rests c.args.state.now
