use Rattle.std.proofs.Common.{◌≡◌, ◌+◌, ◌<◌, ◌∙◌, refl, sym, ap, subst, None, true, arith}
use Rattle.std.proofs.lemmas.Result.{err_from_is_err_and}
use Rattle.search_steps.specs.Recovering.{SettledWithRecovered}
use Rattle.cdcl_core.specs.LogLines.{AreTidyLines, HasMarksUpTo}
use Rattle.cdcl_core.specs.Results.{IsRightOutcomeIn, IsSettledBy}
use Rattle.cdcl_core.specs.Scheduling.{IsOnSchedule}
use Rattle.cdcl_core.specs.declared.schedule.Schedule.{Schedule}
use Rattle.cdcl_core.proofs.LinesInTime.{are_in_time, exactly, marks_counted, settled_within, tidy_after_mark}
use Rattle.cdcl_core.proofs.LogLineLaws.{goes_on_in, rests_in, stops_in, then_in}
use Rattle.cdcl_core.proofs.OnSchedule.{begins_on_schedule}
use Rattle.cdcl_core.proofs.RunLaws.{goes_on_as, run_then}
use Rattle.cdcl_core.proofs.rounds.Run.search_in_rounds.Goals as goal

pub loop-assumptions-init : goal.loop-assumptions-init
loop-assumptions-init g c = record {
  goes_on = record { stands = c.requires.begins.stands; unbroken = c.requires.begins.unbroken; fewer = let none = c.requires.begins.none in let some = c.requires.budget.0 in omega (arith, none, some) };
  settled = λ s. (c.requires.begins.level, c.requires.begins.none);
  clear = c.new-marks.ensures;
  keeps = c.in_ok-assumptions.ensures c.args.self.now.state.now.trail c.requires.begins.stands.3.trail.variables c.requires.begins.level;
  tidies = refl;
  on = begins_on_schedule c.new-schedule.result c.args.self.now.state.now.conflicts (ap (λ (s : Schedule). s.since) c.new-schedule.ensures) (ap (λ (s : Schedule). s.restarts) c.new-schedule.ensures) c.requires.begins.none;
  lines = λ t. subst (λ n. AreTidyLines n (g.L.Sink.lines c.args.self.now.log.now.sink.now)) (sym (ap (λ (s : Schedule). s.restarts) c.new-schedule.ensures)) (c.requires.lines t);
  log = rests_in g.L.Sink g.met.L.Sink.keeps_itself g.met.L.Sink.items_keep_else c.args.self.now.state.now.tidies c.args.self.now.log.now;
  same = record { log = refl; state = refl; engine = refl; budget = refl };
}

pub round-requires-clause-searches : goal.round-requires-clause-searches
round-requires-clause-searches g c =
    let i = c.loop-assumptions.invariant in
    let fewer = i.goes_on.fewer in
    let same = i.same.budget in
    let bound = c.requires.budget.1 in
    record { stands = i.goes_on.stands; keeps = i.keeps; few = (omega (arith, fewer, same), omega (arith, bound, same)); clear = i.clear; going = i.log.failed ∙ c.requires.going }

pub round-requires-clause-unbroken : goal.round-requires-clause-unbroken
round-requires-clause-unbroken g c = c.loop-assumptions.invariant.goes_on.unbroken

pub round-requires-clause-settled : goal.round-requires-clause-settled
round-requires-clause-settled g c = λ s. (c.loop-assumptions.invariant.settled s).0

pub follow_schedule-requires-clause-searches : goal.follow_schedule-requires-clause-searches
follow_schedule-requires-clause-searches g c =
    let i = c.loop-assumptions.invariant in
    let leaves = c.in_ok-outcome.ensures.leaves in
    let goes_on = rw c.in_default.is at leaves.goes_on in
    let fewer = goes_on.fewer in
    let now = leaves.same.budget in
    let same = i.same.budget in
    let bound = c.requires.budget.1 in
    record {
      stands = goes_on.stands;
      keeps = rw c.in_default.is at leaves.keeps;
      few = (omega (arith, fewer, now), omega (arith, bound, same, now));
      clear = leaves.clear;
      going = leaves.log.failed ∙ i.log.failed ∙ c.requires.going;
    }

pub follow_schedule-requires-clause-unbroken : goal.follow_schedule-requires-clause-unbroken
follow_schedule-requires-clause-unbroken g c = (rw c.in_default.is at c.in_ok-outcome.ensures.leaves.goes_on).unbroken

pub follow_schedule-requires-clause-on : goal.follow_schedule-requires-clause-on
follow_schedule-requires-clause-on g c = (c.loop-assumptions.self.state.now.conflicts, rw c.in_default.is at c.in_ok-outcome.ensures.leaves.one_more, c.loop-assumptions.invariant.on)

pub follow_schedule-requires-clause-lines : goal.follow_schedule-requires-clause-lines
follow_schedule-requires-clause-lines g c = λ t.
    let i = c.loop-assumptions.invariant in
    let leaves = c.in_ok-outcome.ensures.leaves in
    let goes_on = rw c.in_default.is at leaves.goes_on in
    let old = c.loop-assumptions.self in
    let now = c.round.new.self in
    let told = g.L.Sink.items now.log.now.sink.now in
    let marks = exactly now.state.now.conflicts told (marks_counted now.log.now.formula.now now.state.now (g.P.ParityEngine.state now.engine.now) told goes_on.stands) in
    tidy_after_mark g.L.Sink g.met.L.Sink.are_items g.met.L.Sink.gains_items old.log.now.sink.now now.log.now.sink.now leaves.log.frame
    c.loop-assumptions.schedule old.state.now.conflicts i.on (marks_counted old.log.now.formula.now old.state.now (g.P.ParityEngine.state old.engine.now) (g.L.Sink.items old.log.now.sink.now) i.goes_on.stands)
    (subst (λ n. HasMarksUpTo n told) (rw c.in_default.is at leaves.one_more) marks) (i.lines (sym i.tidies ∙ sym (rw c.in_default.is at leaves.tidies) ∙ t))

pub loop-assumptions-preserved : goal.loop-assumptions-preserved
loop-assumptions-preserved g c =
    let i = c.loop-assumptions.invariant in
    let leaves = c.in_ok-outcome.ensures.leaves in
    let then = c.in_ok-outcome-2.ensures in
    let goes_on = rw c.in_default-2.is at then.leaves.goes_on in
    let still = rw c.in_default.is at leaves.tidies in
    let on = rw c.in_default-2.is at then.lines in
    let tidies = still ∙ i.tidies in
    let budget = leaves.same.budget ∙ i.same.budget in
    record {
      goes_on = record { stands = goes_on.stands; unbroken = goes_on.unbroken; fewer = subst (λ n. c.follow_schedule.new.self.state.now.conflicts < n) budget goes_on.fewer };
      settled = λ s. absurd (rw c.in_default.is at (c.in_ok-outcome.ensures.settled (subst SettledWithRecovered then.log.formula s) (i.settled (subst SettledWithRecovered (then.log.formula ∙ leaves.log.formula) s)).0));
      clear = then.leaves.clear;
      keeps = rw c.in_default-2.is at then.leaves.keeps;
      tidies = (rw c.in_default-2.is at then.leaves.tidies) ∙ tidies;
      on = subst (IsOnSchedule c.follow_schedule.new.schedule) (sym (rw c.in_default-2.is at then.leaves.conflicts)) then.on;
      lines = λ t. on (tidies ∙ t);
      log = then_in g.L.Sink g.met.L.Sink.keeps_on g.met.L.Sink.keeps_else_on _ _ c.round.new.self.log.now _ _
          (then_in g.L.Sink g.met.L.Sink.keeps_on g.met.L.Sink.keeps_else_on _ _ c.loop-assumptions.self.log.now _ _ i.log (goes_on_in g.L.Sink g.met.L.Sink.items_keep_else _ c.loop-assumptions.self.log.now c.round.new.self.log.now None leaves.log))
          (goes_on_as g.L.Sink _ _ _ _ _ tidies then.log);
      same = run_then _ c.round.new.self _ (run_then _ c.loop-assumptions.self _ i.same leaves.same) then.leaves.same;
    }

pub returns-in-Some : goal.returns-in-Some
returns-in-Some g c =
    let i = c.loop-assumptions.invariant in
    let leaves = c.in_ok-outcome.ensures.leaves in
    let old = c.loop-assumptions.self in
    let now = c.round.new.self.log.now in
    let told = g.L.Sink.items now.sink.now in
    let right : IsRightOutcomeIn old.state.now.tidies now.formula.now old.budget told c.in-Some.outcome = rw c.in-Some.is at leaves.goes_on in
    let marks : HasMarksUpTo (old.state.now.conflicts + 1) told = rw c.in-Some.is at leaves.marks in
    record {
      answers = record {
        answers = subst (λ b. IsRightOutcomeIn b now.formula.now c.args.self.now.budget told c.in-Some.outcome) i.tidies
            (subst (λ b. IsRightOutcomeIn old.state.now.tidies now.formula.now b told c.in-Some.outcome) i.same.budget right);
        settled = λ s.
            let j = i.settled (subst SettledWithRecovered leaves.log.formula s) in
            let h : IsSettledBy old.state.now.tidies now.formula.now (old.state.now.conflicts + 1) told c.in-Some.outcome = rw c.in-Some.is at (c.in_ok-outcome.ensures.settled s j.0) in
            subst (λ b. IsSettledBy b now.formula.now 1 told c.in-Some.outcome) i.tidies
            (subst (λ n. IsSettledBy old.state.now.tidies now.formula.now (n + 1) told c.in-Some.outcome) j.1 h);
        tidied = λ t. are_in_time c.loop-assumptions.schedule.restarts (g.L.Sink.lines now.sink.now)
            (tidy_after_mark g.L.Sink g.met.L.Sink.are_items g.met.L.Sink.gains_items old.log.now.sink.now now.sink.now leaves.log.frame c.loop-assumptions.schedule old.state.now.conflicts i.on
            (marks_counted old.log.now.formula.now old.state.now (g.P.ParityEngine.state old.engine.now) (g.L.Sink.items old.log.now.sink.now) i.goes_on.stands) marks (i.lines t));
        log = then_in g.L.Sink g.met.L.Sink.keeps_on g.met.L.Sink.keeps_else_on _ _ old.log.now now None i.log (goes_on_in g.L.Sink g.met.L.Sink.items_keep_else _ old.log.now now None leaves.log);
      };
      same = run_then _ c.loop-assumptions.self _ i.same leaves.same;
    }

pub returns-in-Some-2 : goal.returns-in-Some-2
returns-in-Some-2 g c =
    let i = c.loop-assumptions.invariant in
    let leaves = c.in_ok-outcome.ensures.leaves in
    let then = c.in_ok-outcome-2.ensures in
    let mid = c.round.new.self in
    let now = c.follow_schedule.new.self.log.now in
    let told = g.L.Sink.items now.sink.now in
    let outcome = c.in-Some-2.outcome in
    let tidies = (rw c.in_default.is at leaves.tidies) ∙ i.tidies in
    let budget = leaves.same.budget ∙ i.same.budget in
    let few = (rw c.in_default.is at leaves.goes_on).fewer in
    let same = i.same.budget in
    let in_time = rw c.in-Some-2.is at then.lines in
    let settled : IsSettledBy mid.state.now.tidies now.formula.now (mid.state.now.conflicts + 1) told outcome = rw c.in-Some-2.is at then.leaves.goes_on in
    record {
      answers = record {
        answers = subst (λ b. IsRightOutcomeIn b now.formula.now c.args.self.now.budget told outcome) tidies
            (settled_within mid.state.now.tidies now.formula.now (mid.state.now.conflicts + 1) c.args.self.now.budget told outcome (omega (arith, few, same)) settled);
        settled = λ s. absurd (rw c.in_default.is at (c.in_ok-outcome.ensures.settled (subst SettledWithRecovered then.log.formula s) (i.settled (subst SettledWithRecovered (then.log.formula ∙ leaves.log.formula) s)).0));
        tidied = λ t. in_time (tidies ∙ t);
        log = then_in g.L.Sink g.met.L.Sink.keeps_on g.met.L.Sink.keeps_else_on _ _ c.round.new.self.log.now now None
            (then_in g.L.Sink g.met.L.Sink.keeps_on g.met.L.Sink.keeps_else_on _ _ c.loop-assumptions.self.log.now _ _ i.log (goes_on_in g.L.Sink g.met.L.Sink.items_keep_else _ c.loop-assumptions.self.log.now c.round.new.self.log.now None leaves.log))
            (goes_on_as g.L.Sink _ _ _ _ _ tidies then.log);
      };
      same = run_then _ c.round.new.self _ (run_then _ c.loop-assumptions.self _ i.same leaves.same) then.leaves.same;
    }

pub returns-in_err-outcome : goal.returns-in_err-outcome
returns-in_err-outcome g c =
    let i = c.loop-assumptions.invariant in
    let leaves = c.in_err-outcome.ensures.leaves in
    let fault = err_from_is_err_and c.from_residual-in_err-outcome.result c.from_residual-in_err-outcome.ensures.1 in
    rw (fault.1, fault.2) (record {
      answers = record {
        answers = tt;
        settled = λ s. tt;
        tidied = λ t. tt;
        log = then_in g.L.Sink g.met.L.Sink.keeps_on g.met.L.Sink.keeps_else_on _ _ c.loop-assumptions.self.log.now _ _ i.log (goes_on_in g.L.Sink g.met.L.Sink.items_keep_else _ c.loop-assumptions.self.log.now c.round.new.self.log.now _ leaves.log);
      };
      same = run_then _ c.loop-assumptions.self _ i.same leaves.same;
    })

pub returns-in_err-outcome-2 : goal.returns-in_err-outcome-2
returns-in_err-outcome-2 g c =
    let i = c.loop-assumptions.invariant in
    let leaves = c.in_ok-outcome.ensures.leaves in
    let then = c.in_err-outcome-2.ensures in
    let tidies = (rw c.in_default.is at leaves.tidies) ∙ i.tidies in
    let fault = err_from_is_err_and c.from_residual-in_err-outcome-2.result c.from_residual-in_err-outcome-2.ensures.1 in
    rw (fault.1, fault.2) (record {
      answers = record {
        answers = tt;
        settled = λ s. tt;
        tidied = λ t. tt;
        log = then_in g.L.Sink g.met.L.Sink.keeps_on g.met.L.Sink.keeps_else_on _ _ c.round.new.self.log.now _ _
            (then_in g.L.Sink g.met.L.Sink.keeps_on g.met.L.Sink.keeps_else_on _ _ c.loop-assumptions.self.log.now _ _ i.log (goes_on_in g.L.Sink g.met.L.Sink.items_keep_else _ c.loop-assumptions.self.log.now c.round.new.self.log.now None leaves.log))
            (goes_on_as g.L.Sink _ _ _ _ _ tidies then.log);
      };
      same = run_then _ c.round.new.self _ (run_then _ c.loop-assumptions.self _ i.same leaves.same) then.leaves.same;
    })

pub returns-in_err-assumptions : goal.returns-in_err-assumptions
returns-in_err-assumptions g c =
    let fault = err_from_is_err_and c.from_residual.result c.from_residual.ensures.1 in
    rw (fault.1, fault.2) (record {
      answers = record { answers = tt; settled = λ s. tt; tidied = λ t. tt; log = stops_in g.L.Sink g.met.L.Sink.keeps_itself g.met.L.Sink.items_keep_else c.args.self.now.state.now.tidies c.args.self.now.log.now };
      same = record { log = refl; state = refl; engine = refl; budget = refl };
    })
