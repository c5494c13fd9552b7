use Rattle.std.proofs.Common.{◌≡◌, ◌+◌, refl, sym, ap, ◌∙◌, subst, arith}
use Rattle.std.specs.List.{All}
use Rattle.cx_trail.specs.Sequence.{TrailState, IsAssignedIn}
use Rattle.conflict_learn.specs.Learning.{literals_of}
use Rattle.conflict_learn.specs.Touching.{AreTouched}
use Rattle.conflict_learn.specs.declared.learning.Resolved.{Resolved}
use Rattle.cdcl_search.specs.declared.state.SearchState.{SearchState}
use Rattle.cdcl_core.proofs.GradedTies.{learns_graded, live_reasons, same_trail}
use Rattle.cx_base.specs.Problem.{Problem}
use Rattle.search_policy.specs.Assuming.{AreApart, KeepsAssumptions}
use Rattle.cdcl_core.proofs.FailLaws.{above_is_free}
use Rattle.cdcl_core.specs.Results.{IsOpenWith}
use Rattle.cdcl_core.proofs.Answering.{learned_log_is_open}
use Rattle.cdcl_core.proofs.MarkCounts.{open_has_marks}
use Rattle.cdcl_search.specs.GoingOn.{log_stops, log_then}
use Rattle.std.proofs.lemmas.Result.{err_from_is_err_and}
use Rattle.cdcl_core.proofs.rounds.Run.learn_and_jump.Goals as goal

pub returns-then-self : goal.returns-then-self
returns-then-self g c =
    let r = c.in_ok-learned.learned in
    let formula = c.learn.new.log.formula.now in
    let told = g.L.Sink.items c.learn.new.log.sink.now in
    let log = learned_log_is_open formula c.args.self.now.state.now (g.P.ParityEngine.state c.args.self.now.engine.now) r.lits r.back_level told c.in_ok-learned.ensures.learned in
    record {
      goes_on = record { count = refl; log = subst (λ n. IsOpenWith c.args.self.now.state.now.tidies formula n told) c.if-self.true log };
      one_more = tt;
      marks = open_has_marks c.args.self.now.state.now.tidies formula (c.args.self.now.state.now.conflicts + 1) told log;
      tidies = tt;
      keeps = tt;
      clear = c.in_ok-learned.ensures.clear;
      log = c.in_ok-learned.ensures.log;
      same = record { log = refl; state = refl; engine = refl; budget = refl };
    }

pub grade_resolved-requires : goal.grade_resolved-requires
grade_resolved-requires g c =
    let l = c.in_ok-learned.ensures.learned in
    record {
      reasons = live_reasons c.learn.new.log.formula.now c.args.self.now.state.now (g.P.ParityEngine.state c.args.self.now.engine.now) l.taught.rows l.search l.taught.ties;
      assigned = subst (All (λ (x : Resolved). IsAssignedIn c.args.self.now.state.now.trail.entries x.literal.variable)) (sym c.deref.ensures.value) c.in_ok-learned.ensures.used.assigned;
      clear = c.in_ok-learned.ensures.clear;
    }

pub jump-requires : goal.jump-requires
jump-requires g c =
    let r = c.in_ok-learned.learned in
    let old = c.args.self.now.state.now in
    let new = c.grade_resolved.new.state in
    let graded = c.in_ok-grade_resolved.ensures.graded in
    record {
      learned = (
        g.L.Sink.items c.learn.new.log.sink.now,
        learns_graded c.learn.new.log.formula.now old new (g.P.ParityEngine.state c.args.self.now.engine.now) r.lits r.back_level (g.L.Sink.items c.learn.new.log.sink.now) graded c.in_ok-learned.ensures.learned,
      );
      touched = subst (λ (t : TrailState). AreTouched t (literals_of r.resolved.items) r.lits r.touched.items) (sym (same_trail old new graded)) c.in_ok-learned.ensures.used.touched;
    }

pub returns : goal.returns
returns g c =
    let old = c.args.self.now.state.now in
    let new = c.grade_resolved.new.state in
    let r = c.in_ok-learned.learned in
    let graded = c.in_ok-grade_resolved.ensures.graded in
    let told = g.L.Sink.items c.learn.new.log.sink.now in
    let one_more : c.jump.new.state.conflicts ≡ old.conflicts + 1 = c.in_ok-jump.ensures.counted ∙ ap (λ (x : SearchState). x.conflicts + 1) graded.rest in
    let fewer = c.requires.searches.few.0 in
    let other = c.if-self.false in
    let keeps = c.in_ok-jump.ensures.keeps c.args.self.now.log.now.formula.now.constraints (subst (λ (t : TrailState). KeepsAssumptions c.args.self.now.log.now.formula.now.constraints c.args.assumptions.now t) (sym (same_trail old new graded)) c.requires.searches.keeps) in
    record {
      goes_on = record {
        stands = c.in_ok-jump.ensures.stands told (learns_graded c.learn.new.log.formula.now old new (g.P.ParityEngine.state c.args.self.now.engine.now) r.lits r.back_level told graded c.in_ok-learned.ensures.learned);
        unbroken = c.in_ok-jump.ensures.unbroken;
        fewer = omega (arith, one_more, fewer, other);
      };
      one_more = one_more;
      marks = tt;
      tidies = c.in_ok-jump.ensures.tidies ∙ ap (λ (x : SearchState). x.tidies) graded.rest;
      keeps = subst (λ (f : Problem). KeepsAssumptions f.constraints c.jump.new.assumptions c.jump.new.state.trail) (sym c.in_ok-learned.ensures.log.formula) keeps;
      clear = c.in_ok-grade_resolved.ensures.clear;
      log = c.in_ok-learned.ensures.log;
      same = record { log = refl; state = refl; engine = refl; budget = refl };
    }

pub returns-in_err-grade_resolved : goal.returns-in_err-grade_resolved
returns-in_err-grade_resolved g c =
    let fault = err_from_is_err_and c.from_residual-in_err-grade_resolved.result c.from_residual-in_err-grade_resolved.ensures.1 in
    rw (fault.1, fault.2) (record { goes_on = tt; one_more = tt; marks = tt; tidies = tt; keeps = tt; clear = tt; log = log_then g.L.Sink g.met.L.Sink.keeps_on _ c.learn.new.log _ _ c.in_ok-learned.ensures.log (log_stops g.L.Sink g.met.L.Sink.keeps_itself c.learn.new.log); same = record { log = refl; state = refl; engine = refl; budget = refl } })

pub returns-in_err-learned : goal.returns-in_err-learned
returns-in_err-learned g c =
    let fault = err_from_is_err_and c.from_residual.result c.from_residual.ensures.1 in
    rw (fault.1, fault.2) (record { goes_on = tt; one_more = tt; marks = tt; tidies = tt; keeps = tt; clear = tt; log = c.in_err-learned.ensures.log; same = record { log = refl; state = refl; engine = refl; budget = refl } })

pub returns-in_err-jump : goal.returns-in_err-jump
returns-in_err-jump g c =
    let fault = err_from_is_err_and c.from_residual-in_err-jump.result c.from_residual-in_err-jump.ensures.1 in
    rw (fault.1, fault.2) (record { goes_on = tt; one_more = tt; marks = tt; tidies = tt; keeps = tt; clear = tt; log = log_then g.L.Sink g.met.L.Sink.keeps_on _ c.learn.new.log _ _ c.in_ok-learned.ensures.log (log_stops g.L.Sink g.met.L.Sink.keeps_itself c.learn.new.log); same = record { log = refl; state = refl; engine = refl; budget = refl } })

pub learn-requires-clause-ready : goal.learn-requires-clause-ready
learn-requires-clause-ready g c = record { stands = c.requires.searches.stands; clear = c.requires.searches.clear; going = c.requires.searches.going }

pub learn-requires-clause-may : goal.learn-requires-clause-may
learn-requires-clause-may g c =
    let keeps = c.requires.searches.keeps in
    let checked = c.requires.checked in
    record {
      above = (let free = c.requires.free in omega (arith, free));
      apart = subst (AreApart c.args.self.now.log.now.formula.now.constraints c.args.self.now.state.now.trail) checked keeps.apart;
      free = above_is_free c.args.self.now.log.now.formula.now.constraints c.args.assumptions.now c.args.self.now.state.now.trail keeps c.requires.searches.stands.3.trail.follows.sound c.requires.free;
      few = (let few = c.requires.searches.few.0 in let bound = c.requires.searches.few.1 in omega (arith, few, bound));
      unsettled = c.requires.unsettled;
    }
