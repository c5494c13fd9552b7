use Rattle.std.proofs.Common.{◌≡◌, refl, ◌+◌, [], arith, rules}
use Rattle.cdcl_search.specs.declared.searching.Reached.TheVariants as reached
use Rattle.cdcl_search.specs.declared.propagation.Found.TheVariants.{Quiet}
use Rattle.cdcl_core.proofs.Answering.{log_is_open, values_are_known, refutes_within}
use Rattle.cdcl_core.proofs.MarkCounts.{more_marks, open_has_marks, refuted_has_marks}
use Rattle.cdcl_search.specs.GoingOn.{log_rests}
use Rattle.search_policy.proofs.AssumingLaws.{all_assumed_true}
use Rattle.cdcl_core.proofs.rounds.Run.conclude.Goals as goal

pub returns-in_ok-values-in-Found-Quiet-clause-leaves : goal.returns-in_ok-values-in-Found-Quiet-clause-leaves
returns-in_ok-values-in-Found-Quiet-clause-leaves g c =
    let formula = c.args.self.now.log.now.formula.now in
    let state = c.args.self.now.state.now in
    let told = g.L.Sink.items c.args.self.now.log.now.sink.now in
    let log = log_is_open formula state (g.P.ParityEngine.state c.args.self.now.engine.now) [] told c.requires.searches.stands in
    record {
      goes_on = record { meets = c.in_ok-values-in-Found-Quiet.ensures; log = (state.conflicts, c.requires.searches.few.0, log) };
      one_more = tt;
      marks = more_marks state.conflicts (state.conflicts + 1) told (omega arith) (open_has_marks state.tidies formula state.conflicts told log);
      tidies = tt;
      keeps = tt;
      clear = c.requires.searches.clear;
      log = log_rests g.L.Sink g.met.L.Sink.keeps_itself c.args.self.now.log.now;
      same = record { log = refl; state = refl; engine = refl; budget = refl };
    }

pub returns-in_ok-values-in-Found-Quiet-clause-at_start : goal.returns-in_ok-values-in-Found-Quiet-clause-at_start
returns-in_ok-values-in-Found-Quiet-clause-at_start g c level = (
  record {
    meets = c.in_ok-values-in-Found-Quiet.ensures;
    log = (c.args.self.now.state.now.conflicts, omega arith, log_is_open c.args.self.now.log.now.formula.now c.args.self.now.state.now (g.P.ParityEngine.state c.args.self.now.engine.now) [] (g.L.Sink.items c.args.self.now.log.now.sink.now) c.requires.searches.stands);
  },
  values_are_known c.in_ok-values-in-Found-Quiet.values,
)

pub returns-in_ok-failed-in-Failed-clause-leaves : goal.returns-in_ok-failed-in-Failed-clause-leaves
returns-in_ok-failed-in-Failed-clause-leaves g c =
    let few = c.requires.searches.few.0 in
    let ends = c.in_ok-failed-in-Failed.ensures.ends in
    record {
      goes_on = refutes_within c.conclude_failed.new.self.log.now.formula.now (c.args.self.now.state.now.conflicts + 1) c.args.self.now.budget (g.L.Sink.items c.conclude_failed.new.self.log.now.sink.now) c.in_ok-failed-in-Failed.failed (omega (arith, few)) ends.ends.refutes;
      one_more = tt;
      marks = refuted_has_marks c.args.self.now.state.now.tidies c.conclude_failed.new.self.log.now.formula.now (c.args.self.now.state.now.conflicts + 1) (g.L.Sink.items c.conclude_failed.new.self.log.now.sink.now) c.in_ok-failed-in-Failed.failed ends.ends.refutes;
      tidies = tt;
      keeps = tt;
      clear = ends.clear;
      log = ends.ends.log;
      same = ends.same;
    }

pub conclude_failed-requires-clause-place : goal.conclude_failed-requires-clause-place
conclude_failed-requires-clause-place g c = let at = rw c.in-Failed.is at c.requires.reaches.settles in (at.0, at.1, at.2)

pub conclude_failed-requires-clause-found : goal.conclude_failed-requires-clause-found
conclude_failed-requires-clause-found g c = let at = rw c.in-Failed.is at c.requires.reaches.settles in at.3

pub values_of-requires-clause-stands : goal.values_of-requires-clause-stands
values_of-requires-clause-stands g c = (g.L.Sink.items c.args.self.now.log.now.sink.now, c.requires.searches.stands)

pub values_of-requires-clause-quiet : goal.values_of-requires-clause-quiet
values_of-requires-clause-quiet g c = let is : c.args.reached ≡ reached.Found Quiet = search rules in (rw is at c.requires.reaches.settles).0

pub values_of-requires-clause-full : goal.values_of-requires-clause-full
values_of-requires-clause-full g c = let is : c.args.reached ≡ reached.Found Quiet = search rules in c.requires.reaches.full is

pub values_of-requires-clause-assumed : goal.values_of-requires-clause-assumed
values_of-requires-clause-assumed g c = let is : c.args.reached ≡ reached.Found Quiet = search rules in all_assumed_true c.args.self.now.log.now.formula.now.constraints c.args.assumptions.now c.args.self.now.state.now.trail c.requires.searches.keeps
    (rw is at c.requires.reaches.settles).1 (c.requires.reaches.full is)

pub conclude_failed-requires-clause-searches : goal.conclude_failed-requires-clause-searches
conclude_failed-requires-clause-searches g c = c.requires.searches
