use Rattle.std.proofs.Common.{◌≡◌, ◌∙◌, ◌+◌, ◌≤◌, refl, sym, ap, subst, ℕ, Bool, length, arith}
use Rattle.std.proofs.lemmas.Result.{err_from_is_err_and}
use Rattle.parity_engine.specs.declared.state.Mood.{Mood}
use Rattle.parity_engine.specs.declared.state.Mood.TheVariants.{Broken, Calm}
use Rattle.search_policy.specs.Assuming.{KeepsAssumptions}
use Rattle.cdcl_search.specs.GoingOn.{log_then}
use Rattle.cdcl_search.specs.declared.searching.Reached.TheVariants as reached
use Rattle.cdcl_search.specs.declared.propagation.Found.TheVariants.{Quiet}
use Rattle.cdcl_core.specs.Concluding.{SearchGoesOn}
use Rattle.cdcl_core.specs.Results.{IsSettledBy}
use Rattle.cdcl_core.specs.Rounds.{IsSettledIn}
use Rattle.cdcl_core.specs.declared.solving.SearchOutcome.{SearchOutcome}
use Rattle.cdcl_core.proofs.RunLaws.{never_goes_on, none_goes_on, none_is_left}
use Rattle.cdcl_core.proofs.rounds.Run.settle_at_restart.Goals as goal

pub settle-requires-clause-ready : goal.settle-requires-clause-ready
settle-requires-clause-ready g c = record { stands = c.requires.searches.stands; unbroken = c.requires.unbroken; going = c.requires.searches.going }

pub settle-requires-clause-keeps : goal.settle-requires-clause-keeps
settle-requires-clause-keeps g c = c.requires.searches.keeps

pub returns-then-is_quiet-clause-leaves : goal.returns-then-is_quiet-clause-leaves
returns-then-is_quiet-clause-leaves g c =
    let on = c.in_ok-reached.ensures in
    let is = c.is_quiet.ensures.quiet c.if-is_quiet.true in
    let calm = (rw is at on.settles).0.3 in
    let same = c.settle.ensures.searches_on.conflicts in
    let few = c.requires.searches.few.0 in
    record {
      goes_on = record { stands = on.searches_on.stands; unbroken = λ broken. (let apart : Calm ≡ Broken = sym calm ∙ broken in cc (apart)); fewer = omega (arith, same, few) };
      conflicts = c.settle.ensures.searches_on.conflicts;
      tidies = c.settle.ensures.searches_on.tidies;
      keeps = on.keeps;
      clear = c.requires.searches.clear;
      same = record { log = refl; state = refl; engine = refl; budget = refl };
    }

pub returns-then-is_quiet-clause-units : goal.returns-then-is_quiet-clause-units
returns-then-is_quiet-clause-units g c =
    let on = c.in_ok-reached.ensures in
    let is = c.is_quiet.ensures.quiet c.if-is_quiet.true in
    let checked = (rw is at on.settles).1 in
    let told = on.units (c.settle.ensures.level ∙ c.requires.level) in
    let few = on.searches_on.stands.3.units.few in
    omega (arith, checked, told, few)

pub conclude-requires-clause-searches : goal.conclude-requires-clause-searches
conclude-requires-clause-searches g c = record {
  stands = c.in_ok-reached.ensures.searches_on.stands;
  keeps = c.settle.ensures.keeps;
  few = (let same = c.settle.ensures.searches_on.conflicts in let few = c.requires.searches.few.0 in omega (arith, same, few), c.requires.searches.few.1);
  clear = c.requires.searches.clear;
  going = c.in_ok-reached.ensures.searches_on.log.failed ∙ c.requires.searches.going;
}

pub conclude-requires-clause-reaches : goal.conclude-requires-clause-reaches
conclude-requires-clause-reaches g c = record {
  settles = c.in_ok-reached.ensures.settles;
  full = λ is. absurd (c.is_quiet.ensures.other c.if-is_quiet.false is);
  units = c.in_ok-reached.ensures.units;
  keeps = c.settle.ensures.keeps;
}

pub conclude-requires-clause-settled : goal.conclude-requires-clause-settled
conclude-requires-clause-settled g c = λ s. c.settle.ensures.level ∙ c.requires.level

pub returns-clause-leaves : goal.returns-clause-leaves
returns-clause-leaves g c =
    let leaves = c.conclude.ensures.leaves in
    let now = c.conclude.new.self in
    let formula = now.log.now.formula.now in
    let told = g.L.Sink.items now.log.now.sink.now in
    let settled : IsSettledIn c.args.self.now.state.now.tidies formula c.args.self.now.state.now.conflicts told c.conclude.result =
    subst (λ b. IsSettledIn b formula c.args.self.now.state.now.conflicts told c.conclude.result) c.settle.ensures.searches_on.tidies
    (subst (λ n. IsSettledIn c.settle.new.state.tidies formula n told c.conclude.result) c.settle.ensures.searches_on.conflicts (c.conclude.ensures.at_start (c.settle.ensures.level ∙ c.requires.level))) in
    let Answers : SearchOutcome → Type 0 = λ a. IsSettledBy c.args.self.now.state.now.tidies formula (c.args.self.now.state.now.conflicts + 1) told a in
    record {
      goes_on = never_goes_on (SearchGoesOn formula c.args.self.now.budget told now.state.now (g.P.ParityEngine.state now.engine.now)) Answers c.conclude.result settled;
      conflicts = none_goes_on (now.state.now.conflicts ≡ c.args.self.now.state.now.conflicts) Answers c.conclude.result settled;
      tidies = none_goes_on (now.state.now.tidies ≡ c.args.self.now.state.now.tidies) Answers c.conclude.result settled;
      keeps = none_goes_on (KeepsAssumptions formula.constraints c.conclude.new.assumptions now.state.now.trail) Answers c.conclude.result settled;
      clear = leaves.clear;
      same = record { log = leaves.same.log; state = leaves.same.state; engine = leaves.same.engine; budget = leaves.same.budget };
    }

pub returns-clause-level : goal.returns-clause-level
returns-clause-level g c = none_is_left (c.conclude.new.self.state.now.trail.level ≡ 0) _ c.conclude.result (c.conclude.ensures.at_start (c.settle.ensures.level ∙ c.requires.level))

pub returns-clause-units : goal.returns-clause-units
returns-clause-units g c =
    none_is_left (length c.conclude.new.self.state.now.units.items ≡ length c.conclude.new.self.state.now.trail.entries) _ c.conclude.result (c.conclude.ensures.at_start (c.settle.ensures.level ∙ c.requires.level))

pub returns-clause-log : goal.returns-clause-log
returns-clause-log g c = log_then g.L.Sink g.met.L.Sink.keeps_on _ c.settle.new.log _ _ c.in_ok-reached.ensures.searches_on.log c.conclude.ensures.leaves.log

pub returns-in_err-reached : goal.returns-in_err-reached
returns-in_err-reached g c =
    let fault = err_from_is_err_and c.from_residual.result c.from_residual.ensures.1 in
    rw (fault.1, fault.2) (record {
      leaves = record { goes_on = tt; conflicts = tt; tidies = tt; keeps = tt; clear = tt; same = record { log = refl; state = refl; engine = refl; budget = refl } };
      level = tt;
      units = tt;
      log = c.in_err-reached.ensures.searches_on.log;
    })
