use Rattle.std.proofs.Common.{◌≡◌, subst, Bool, not, refl, get_or, length, ◌≤◌, arith, rules}
use Rattle.std.specs.Prelude.{MatchBool}
use Rattle.std.proofs.lemmas.List.{take_all}
use Rattle.cx_semantics.specs.Marked.{EventFits, EventsFit}
use Rattle.plain_tests.specs.Marking.{moment_of}
use Rattle.plain_tests.proofs.MarkingLaws.{does_not_fit, fits_more, fit_to_the_end}
use Rattle.plain_tests.proofs.marked.events_fit.Goals as goal

pub returns-then-not-branch : goal.returns-then-not-branch
returns-then-not-branch c =
    let f = c.args.formula.now in
    let event = c.index-events-place.result in
    let m = moment_of c.loop-place.told in
    let is : event ≡ get_or c.args.events.now c.loop-place.place event = search rules in
    let wrong : ¬ EventFits f m event = subst (λ (b : Bool). MatchBool b (EventFits f m event) (¬ EventFits f m event)) c.if-not-branch.true c.in_ok-event_fits.ensures in
    λ (last, fit, served). does_not_fit f (moment_of c.args.told.now) m c.args.events.now c.loop-place.place event c.loop-place-test.true is c.loop-place.invariant.fit wrong last fit

pub loop-place-preserved : goal.loop-place-preserved
loop-place-preserved c =
    let f = c.args.formula.now in
    let event = c.index-events-place.result in
    let m = moment_of c.loop-place.told in
    let is : event ≡ get_or c.args.events.now c.loop-place.place event = search rules in
    let fits : EventFits f m event = subst (λ (b : Bool). MatchBool b (EventFits f m event) (¬ EventFits f m event)) c.if-not-branch.false c.in_ok-event_fits.ensures in
    let few = c.loop-place.invariant.few in
    let more = c.in_ok-take_event.ensures.reductions in
    record {
      fit = fits_more f (moment_of c.args.told.now) m (moment_of c.take_event.new.told) c.args.events.now c.loop-place.place event c.loop-place-test.true is c.loop-place.invariant.fit fits c.in_ok-take_event.ensures.taken;
      few = omega (arith, few, more);
    }

pub returns : goal.returns
returns c =
    let f = c.args.formula.now in
    let first = moment_of c.args.told.now in
    let last = moment_of c.loop-place.told in
    let past = c.loop-place-test.false in
    let long : length c.args.events.now ≤ c.loop-place.place = omega (arith, past) in
    fit_to_the_end f first last c.args.events.now (not last.awaits) (subst (λ es. EventsFit f first es last) (take_all c.loop-place.place c.args.events.now long) c.loop-place.invariant.fit) refl
