use Rattle.std.proofs.Common.{◌≡◌, refl, ◌∙◌, ◌+◌, subst, IfOk, arith}
use Rattle.std.proofs.lemmas.Result.{err_from_is_err_and}
use Rattle.std.specs.Prelude.{MatchOption}
use Rattle.search_steps.specs.Recovering.{SettledWithRecovered}
use Rattle.cdcl_search.specs.GoingOn.{log_then}
use Rattle.cdcl_core.specs.Concluding.{SearchGoesOn}
use Rattle.cdcl_core.specs.LogLines.{HasMarksUpTo}
use Rattle.cdcl_core.specs.Results.{IsRightOutcomeIn}
use Rattle.cdcl_core.specs.Rounds.{IsSettledIn}
use Rattle.cdcl_core.proofs.rounds.Run.round.Goals as goal

pub search_on-requires-clause-ready : goal.search_on-requires-clause-ready
search_on-requires-clause-ready g c = record { stands = c.requires.searches.stands; unbroken = c.requires.unbroken; going = c.requires.searches.going }

pub conclude-requires-clause-settled : goal.conclude-requires-clause-settled
conclude-requires-clause-settled g c = λ s. c.in_ok-reached.ensures.settled s ∙ c.requires.settled (subst SettledWithRecovered c.in_ok-reached.ensures.searches_on.log.formula s)

pub returns-clause-leaves : goal.returns-clause-leaves
returns-clause-leaves g c =
    let leaves = c.conclude.ensures.leaves in
    let now = c.conclude.new.self in
    let formula = now.log.now.formula.now in
    let told = g.L.Sink.items now.log.now.sink.now in
    let tidies = c.search_on.ensures.searches_on.tidies in
    record {
      goes_on = subst (λ b. IfOk c.conclude.result (λ o. MatchOption o (SearchGoesOn formula c.args.self.now.budget told now.state.now (g.P.ParityEngine.state now.engine.now)) (λ a. IsRightOutcomeIn b formula c.args.self.now.budget told a))) tidies leaves.goes_on;
      one_more = subst (λ n. IfOk c.conclude.result (λ o. MatchOption o (c.conclude.new.self.state.now.conflicts ≡ n + 1) (λ _. Unit {0}))) c.search_on.ensures.searches_on.conflicts leaves.one_more;
      marks = subst (λ n. IfOk c.conclude.result (λ o. MatchOption o (Unit {0}) (λ _. HasMarksUpTo (n + 1) told))) c.search_on.ensures.searches_on.conflicts leaves.marks;
      tidies = subst (λ b. IfOk c.conclude.result (λ o. MatchOption o (now.state.now.tidies ≡ b) (λ _. Unit {0}))) tidies leaves.tidies;
      keeps = leaves.keeps;
      clear = leaves.clear;
      log = log_then g.L.Sink g.met.L.Sink.keeps_on _ c.search_on.new.log _ _ c.in_ok-reached.ensures.searches_on.log leaves.log;
      same = record { log = leaves.same.log; state = leaves.same.state; engine = leaves.same.engine; budget = leaves.same.budget };
    }

pub returns-clause-settled : goal.returns-clause-settled
returns-clause-settled g c = λ s level.
    let told = g.L.Sink.items c.conclude.new.self.log.now.sink.now in
    subst (λ b. IsSettledIn b c.conclude.new.self.log.now.formula.now c.args.self.now.state.now.conflicts told c.conclude.result) c.search_on.ensures.searches_on.tidies
    (subst (λ n. IsSettledIn c.search_on.new.state.tidies c.conclude.new.self.log.now.formula.now n told c.conclude.result) c.search_on.ensures.searches_on.conflicts
    (c.conclude.ensures.at_start (c.in_ok-reached.ensures.settled (subst SettledWithRecovered c.conclude.ensures.leaves.log.formula s) ∙ level)))

pub conclude-requires-clause-searches : goal.conclude-requires-clause-searches
conclude-requires-clause-searches g c = record {
  stands = c.in_ok-reached.ensures.searches_on.stands;
  keeps = c.in_ok-reached.ensures.reaches.keeps;
  few = (let same = c.search_on.ensures.searches_on.conflicts in let few = c.requires.searches.few.0 in omega (arith, same, few), c.requires.searches.few.1);
  clear = c.requires.searches.clear;
  going = c.in_ok-reached.ensures.searches_on.log.failed ∙ c.requires.searches.going;
}

pub conclude-requires-clause-reaches : goal.conclude-requires-clause-reaches
conclude-requires-clause-reaches g c = c.in_ok-reached.ensures.reaches

pub returns-in_err-reached : goal.returns-in_err-reached
returns-in_err-reached g c =
    let fault = err_from_is_err_and c.from_residual.result c.from_residual.ensures.1 in
    rw (fault.1, fault.2) (record { leaves = record { goes_on = tt; one_more = tt; marks = tt; tidies = tt; keeps = tt; clear = tt; log = c.in_err-reached.ensures.searches_on.log; same = record { log = refl; state = refl; engine = refl; budget = refl } }; settled = λ s level. tt })
