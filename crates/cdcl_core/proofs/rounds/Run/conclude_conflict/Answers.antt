use Rattle.std.proofs.Common.{◌∙◌, ◌+◌, refl, sym, ap, subst, Some, inr, arith}
use Rattle.std.proofs.lemmas.Result.{err_from_is_err_and}
use Rattle.cx_base.specs.Problem.{Problem}
use Rattle.search_policy.specs.Assuming.{KeepsAssumptions}
use Rattle.cdcl_search.specs.GoingOn.{log_then}
use Rattle.cdcl_core.specs.declared.solving.SearchOutcome.TheVariants.{Unsat}
use Rattle.cdcl_core.proofs.Answering.{refutes_within}
use Rattle.cdcl_core.proofs.FailLaws.{conflict_ends_at}
use Rattle.cdcl_core.proofs.MarkCounts.{refuted_has_marks}
use Rattle.cdcl_core.proofs.rounds.Run.conclude_conflict.Goals as goal

pub learn_and_jump-requires-clause-searches : goal.learn_and_jump-requires-clause-searches
learn_and_jump-requires-clause-searches g c =
    let on = c.in_ok-conclusion.ensures.concludes_on in
    record {
      stands = (rw c.in-Clause.is at on.concludes).0;
      keeps = subst (λ (f : Problem). KeepsAssumptions f.constraints c.args.assumptions.now c.args.self.now.state.now.trail) (sym on.log.formula) c.requires.reaches.keeps;
      few = c.requires.searches.few;
      clear = c.requires.searches.clear;
      going = on.log.failed ∙ c.requires.searches.going;
    }

pub learn_and_jump-requires-clause-conflict : goal.learn_and_jump-requires-clause-conflict
learn_and_jump-requires-clause-conflict g c = (rw c.in-Clause.is at c.in_ok-conclusion.ensures.concludes_on.concludes).1

pub learn_and_jump-requires-clause-told : goal.learn_and_jump-requires-clause-told
learn_and_jump-requires-clause-told g c = (rw c.in-Clause.is at c.in_ok-conclusion.ensures.concludes_on.concludes).2

pub end-requires-clause-at : goal.end-requires-clause-at
end-requires-clause-at g c =
    let low = c.if-level-assumptions.true in
    let level = c.level.ensures.level in
    conflict_ends_at c.conflict_clause.new.log.formula.now.constraints c.args.assumptions.now c.args.self.now.state.now.trail (subst (λ (f : Problem). KeepsAssumptions f.constraints c.args.assumptions.now c.args.self.now.state.now.trail) (sym c.in_ok-conclusion.ensures.concludes_on.log.formula) c.requires.reaches.keeps) c.requires.searches.stands.3.trail.follows.sound (omega (arith, low, level))
    c.requires.reaches.settles.1 c.len-below.result c.len-below.ensures.len

pub end-requires-clause-going : goal.end-requires-clause-going
end-requires-clause-going g c = c.in_ok-conclusion.ensures.concludes_on.log.failed ∙ c.requires.searches.going

pub tell_ending-requires-clause-going : goal.tell_ending-requires-clause-going
tell_ending-requires-clause-going g c = c.in_ok-conclusion.ensures.concludes_on.log.failed ∙ c.requires.searches.going

pub returns-then-level-assumptions-clause-leaves : goal.returns-then-level-assumptions-clause-leaves
returns-then-level-assumptions-clause-leaves g c =
    let few = c.requires.searches.few.0 in
    let ends = c.in_ok-failed.ensures.ends in
    record {
      goes_on = refutes_within c.end.new.self.log.now.formula.now (c.args.self.now.state.now.conflicts + 1) c.args.self.now.budget (g.L.Sink.items c.end.new.self.log.now.sink.now) c.in_ok-failed.failed (omega (arith, few)) ends.ends.refutes;
      one_more = tt;
      marks = refuted_has_marks c.args.self.now.state.now.tidies c.end.new.self.log.now.formula.now (c.args.self.now.state.now.conflicts + 1) (g.L.Sink.items c.end.new.self.log.now.sink.now) c.in_ok-failed.failed ends.ends.refutes;
      tidies = tt;
      keeps = tt;
      clear = c.in_ok-failed.ensures.ends.clear;
      log = log_then g.L.Sink g.met.L.Sink.keeps_on _ c.conflict_clause.new.log _ _ c.in_ok-conclusion.ensures.concludes_on.log ends.ends.log;
      same = record { log = ends.same.log; state = ends.same.state; engine = ends.same.engine; budget = ends.same.budget };
    }

pub returns-in_err-failed-clause-leaves : goal.returns-in_err-failed-clause-leaves
returns-in_err-failed-clause-leaves g c =
    let fault = err_from_is_err_and c.from_residual-in_err-failed.result c.from_residual-in_err-failed.ensures.1 in
    rw (fault.1, fault.2) (record { goes_on = tt; one_more = tt; marks = tt; tidies = tt; keeps = tt; clear = tt; log = log_then g.L.Sink g.met.L.Sink.keeps_on _ c.conflict_clause.new.log _ _ c.in_ok-conclusion.ensures.concludes_on.log c.in_err-failed.ensures.ends.ends.log; same = record { log = c.in_err-failed.ensures.ends.same.log; state = c.in_err-failed.ensures.ends.same.state; engine = c.in_err-failed.ensures.ends.same.engine; budget = c.in_err-failed.ensures.ends.same.budget } })

pub returns-in_ok-failed-in-Ending-clause-leaves : goal.returns-in_ok-failed-in-Ending-clause-leaves
returns-in_ok-failed-in-Ending-clause-leaves g c =
    let few = c.requires.searches.few.0 in
    let ends = c.in_ok-failed-in-Ending.ensures.ends in
    record {
      goes_on = refutes_within c.tell_ending.new.log.formula.now (c.args.self.now.state.now.conflicts + 1) c.args.self.now.budget (g.L.Sink.items c.tell_ending.new.log.sink.now) c.in_ok-failed-in-Ending.failed (omega (arith, few)) ends.refutes;
      one_more = tt;
      marks = refuted_has_marks c.args.self.now.state.now.tidies c.tell_ending.new.log.formula.now (c.args.self.now.state.now.conflicts + 1) (g.L.Sink.items c.tell_ending.new.log.sink.now) c.in_ok-failed-in-Ending.failed ends.refutes;
      tidies = tt;
      keeps = tt;
      clear = c.requires.searches.clear;
      log = log_then g.L.Sink g.met.L.Sink.keeps_on _ c.conflict_clause.new.log _ _ c.in_ok-conclusion.ensures.concludes_on.log ends.log;
      same = record { log = refl; state = refl; engine = refl; budget = refl };
    }

pub returns-in_err-failed-in-Ending-clause-leaves : goal.returns-in_err-failed-in-Ending-clause-leaves
returns-in_err-failed-in-Ending-clause-leaves g c =
    let fault = err_from_is_err_and c.from_residual-in_err-failed-in-Ending.result c.from_residual-in_err-failed-in-Ending.ensures.1 in
    rw (fault.1, fault.2) (record { goes_on = tt; one_more = tt; marks = tt; tidies = tt; keeps = tt; clear = tt; log = log_then g.L.Sink g.met.L.Sink.keeps_on _ c.conflict_clause.new.log _ _ c.in_ok-conclusion.ensures.concludes_on.log c.in_err-failed-in-Ending.ensures.ends.log; same = record { log = refl; state = refl; engine = refl; budget = refl } })

pub returns-in-Clause-clause-leaves : goal.returns-in-Clause-clause-leaves
returns-in-Clause-clause-leaves g c = record {
  goes_on = c.learn_and_jump.ensures.goes_on;
  one_more = c.learn_and_jump.ensures.one_more;
  marks = c.learn_and_jump.ensures.marks;
  tidies = c.learn_and_jump.ensures.tidies;
  keeps = c.learn_and_jump.ensures.keeps;
  clear = c.learn_and_jump.ensures.clear;
  log = log_then g.L.Sink g.met.L.Sink.keeps_on _ c.conflict_clause.new.log _ _ c.in_ok-conclusion.ensures.concludes_on.log c.learn_and_jump.ensures.log;
  same = record { log = c.learn_and_jump.ensures.same.log; state = c.learn_and_jump.ensures.same.state; engine = c.learn_and_jump.ensures.same.engine; budget = c.learn_and_jump.ensures.same.budget };
}

pub returns-then-level-assumptions-clause-none : goal.returns-then-level-assumptions-clause-none
returns-then-level-assumptions-clause-none g c = λ level.
    let checked = c.requires.reaches.units level in
    let all = c.requires.reaches.settles.1 in
    let few = c.requires.searches.stands.3.units.few in
    ap (λ failed. Some (Unsat failed)) (c.in_ok-failed.ensures.none (inr (omega (arith, checked, all, few))) refl level)

pub returns-in_ok-failed-in-Ending-clause-none : goal.returns-in_ok-failed-in-Ending-clause-none
returns-in_ok-failed-in-Ending-clause-none g c = λ level. absurd (let above = c.if-level-assumptions.false in let at = c.level.ensures.level in omega (arith, above, at, level))

pub returns-in-Clause-clause-none : goal.returns-in-Clause-clause-none
returns-in-Clause-clause-none g c = λ level. absurd (let above = c.if-level-assumptions.false in let at = c.level.ensures.level in omega (arith, above, at, level))

pub conflict_clause-requires-clause-stands : goal.conflict_clause-requires-clause-stands
conflict_clause-requires-clause-stands g c = c.requires.searches.stands

pub conflict_clause-requires-clause-found : goal.conflict_clause-requires-clause-found
conflict_clause-requires-clause-found g c = c.requires.reaches.settles.0

pub conflict_clause-requires-clause-conflict : goal.conflict_clause-requires-clause-conflict
conflict_clause-requires-clause-conflict g c = c.requires.conflict

pub conflict_clause-requires-clause-going : goal.conflict_clause-requires-clause-going
conflict_clause-requires-clause-going g c = c.requires.searches.going

pub end-requires-clause-concludes : goal.end-requires-clause-concludes
end-requires-clause-concludes g c = c.in_ok-conclusion.ensures.concludes_on.concludes

pub end-requires-clause-clear : goal.end-requires-clause-clear
end-requires-clause-clear g c = c.requires.searches.clear

pub tell_ending-requires-clause-ends : goal.tell_ending-requires-clause-ends
tell_ending-requires-clause-ends g c = (rw c.in-Ending.is at c.in_ok-conclusion.ensures.concludes_on.concludes).1

pub returns-in-Clause-clause-at_start : goal.returns-in-Clause-clause-at_start
returns-in-Clause-clause-at_start g c = λ level. absurd (let above = c.if-level-assumptions.false in let at = c.level.ensures.level in omega (arith, above, at, level))
