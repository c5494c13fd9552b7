use Rattle.std.proofs.Common.{◌≡◌, ◌∙◌, ◌+◌, refl, sym, ap, subst, [], true, None, arith}
use Rattle.std.proofs.lemmas.Result.{err_from_is_err_and}
use Rattle.cx_base.specs.Problem.{Problem}
use Rattle.search_policy.specs.Assuming.{KeepsAssumptions}
use Rattle.search_steps.specs.Schedule.{IsRestart, IsRestartAt}
use Rattle.cdcl_search.specs.GoingOn.{log_then}
use Rattle.cdcl_search.specs.Ties.{SearchStands}
use Rattle.cdcl_core.specs.LogLines.{AreTidyLines, HasMarksUpTo}
use Rattle.cdcl_core.specs.Results.{IsSettledBy, RefutesIn}
use Rattle.cdcl_core.specs.declared.solving.SearchOutcome.TheVariants.{Unsat}
use Rattle.cdcl_core.proofs.Answering.{unsat_is_known}
use Rattle.cdcl_core.proofs.LogLineLaws.{goes_on_in, then_in}
use Rattle.cdcl_core.proofs.LinesInTime.{are_in_time, exactly, marks_counted, settled_marks, still_tidy, tidied_in_time}
use Rattle.cdcl_core.proofs.rounds.Run.tidy_at_restart.Goals as goal

pub settle_at_restart-requires-clause-level : goal.settle_at_restart-requires-clause-level
settle_at_restart-requires-clause-level g c = c.requires.restart.level

pub reduce_where_many-requires-clause-stands : goal.reduce_where_many-requires-clause-stands
reduce_where_many-requires-clause-stands g c = (rw c.in_default.is at c.in_ok-outcome.ensures.leaves.goes_on).stands

pub reduce_where_many-requires-clause-restart : goal.reduce_where_many-requires-clause-restart
reduce_where_many-requires-clause-restart g c = subst IsRestart (sym (rw c.in_default.is at c.in_ok-outcome.ensures.leaves.conflicts)) (c.args.number, c.requires.restart.due)

pub reduce_where_many-requires-clause-going : goal.reduce_where_many-requires-clause-going
reduce_where_many-requires-clause-going g c = c.in_ok-outcome.ensures.log.failed ∙ c.requires.searches.going

pub tidy_clauses-requires-clause-stands : goal.tidy_clauses-requires-clause-stands
tidy_clauses-requires-clause-stands g c = c.in_ok-reduce_where_many.ensures.searches_on.stands

pub tidy_clauses-requires-clause-restart : goal.tidy_clauses-requires-clause-restart
tidy_clauses-requires-clause-restart g c =
    let leaves = c.in_ok-outcome.ensures.leaves in
    let reduced = c.reduce_where_many.ensures in
    record {
      tidies = reduced.searches_on.tidies ∙ (rw c.in_default.is at leaves.tidies) ∙ c.requires.tidies;
      level = reduced.level ∙ (rw c.in_default.is at c.in_ok-outcome.ensures.level);
      units = c.in_ok-reduce_where_many.ensures.units (rw c.in_default.is at c.in_ok-outcome.ensures.units);
      restart = subst IsRestart (sym (reduced.searches_on.conflicts ∙ (rw c.in_default.is at leaves.conflicts))) (c.args.number, c.requires.restart.due);
    }

pub tidy_clauses-requires-clause-going : goal.tidy_clauses-requires-clause-going
tidy_clauses-requires-clause-going g c = c.in_ok-reduce_where_many.ensures.searches_on.log.failed ∙ c.in_ok-outcome.ensures.log.failed ∙ c.requires.searches.going

pub tell_tidied-requires : goal.tell_tidied-requires
tell_tidied-requires g c = c.in_ok-failed.ensures.log.failed ∙ c.in_ok-reduce_where_many.ensures.searches_on.log.failed ∙ c.in_ok-outcome.ensures.log.failed ∙ c.requires.searches.going

pub returns-in-Some : goal.returns-in-Some
returns-in-Some g c =
    let leaves = c.in_ok-outcome.ensures.leaves in
    let log = c.in_ok-outcome.ensures.log in
    let old = c.args.self.now in
    let now = c.settle_at_restart.new.self in
    let told = g.L.Sink.items now.log.now.sink.now in
    let settled : IsSettledBy old.state.now.tidies now.log.now.formula.now (old.state.now.conflicts + 1) told c.in-Some.outcome = rw c.in-Some.is at leaves.goes_on in
    record {
      leaves = record { goes_on = settled; conflicts = tt; tidies = tt; keeps = tt; clear = leaves.clear; same = leaves.same };
      lines = are_in_time c.requires.lines.0 (g.L.Sink.lines now.log.now.sink.now)
          (still_tidy g.L.Sink g.met.L.Sink.are_items g.met.L.Sink.gains_items old.log.now.sink.now now.log.now.sink.now log.frame old.state.now.conflicts c.requires.lines.0
          (marks_counted old.log.now.formula.now old.state.now (g.P.ParityEngine.state old.engine.now) (g.L.Sink.items old.log.now.sink.now) c.requires.searches.stands)
          (settled_marks old.state.now.tidies now.log.now.formula.now old.state.now.conflicts told c.in-Some.outcome settled) c.requires.lines.2);
      log = goes_on_in g.L.Sink g.met.L.Sink.items_keep_else true old.log.now now.log.now None log;
    }

pub returns-in_err-outcome : goal.returns-in_err-outcome
returns-in_err-outcome g c =
    let fault = err_from_is_err_and c.from_residual.result c.from_residual.ensures.1 in
    rw (fault.1, fault.2) (record {
      leaves = record { goes_on = tt; conflicts = tt; tidies = tt; keeps = tt; clear = tt; same = c.in_err-outcome.ensures.leaves.same };
      lines = tt;
      log = goes_on_in g.L.Sink g.met.L.Sink.items_keep_else true c.args.self.now.log.now c.settle_at_restart.new.self.log.now _ c.in_err-outcome.ensures.log;
    })

pub returns-in_err-reduce_where_many : goal.returns-in_err-reduce_where_many
returns-in_err-reduce_where_many g c =
    let fault = err_from_is_err_and c.from_residual-in_err-reduce_where_many.result c.from_residual-in_err-reduce_where_many.ensures.1 in
    let same = c.in_ok-outcome.ensures.leaves.same in
    rw (fault.1, fault.2) (record {
      leaves = record { goes_on = tt; conflicts = tt; tidies = tt; keeps = tt; clear = tt; same = record { log = same.log; state = same.state; engine = same.engine; budget = same.budget } };
      lines = tt;
      log = goes_on_in g.L.Sink g.met.L.Sink.items_keep_else true c.args.self.now.log.now c.reduce_where_many.new.log _
          (log_then g.L.Sink g.met.L.Sink.keeps_on _ c.settle_at_restart.new.self.log.now _ _ c.in_ok-outcome.ensures.log c.in_err-reduce_where_many.ensures.searches_on.log);
    })

pub returns-in-Some-2 : goal.returns-in-Some-2
returns-in-Some-2 g c =
    let leaves = c.in_ok-outcome.ensures.leaves in
    let old = c.args.self.now in
    let mid = c.reduce_where_many.new.state in
    let now = c.tidy_clauses.new.log in
    let told = g.L.Sink.items now.sink.now in
    let failed = c.in-Some-2.failed in
    let same = leaves.same in
    let refutes : RefutesIn mid.tidies now.formula.now (mid.conflicts + 1) told failed = rw c.in-Some-2.is at c.in_ok-failed.ensures.goes_on in
    let conflicts = c.reduce_where_many.ensures.searches_on.conflicts ∙ (rw c.in_default.is at leaves.conflicts) in
    let tidies = c.reduce_where_many.ensures.searches_on.tidies ∙ (rw c.in_default.is at leaves.tidies) in
    let settled : IsSettledBy old.state.now.tidies now.formula.now (old.state.now.conflicts + 1) told (Unsat failed) = (
      subst (λ b. RefutesIn b now.formula.now (old.state.now.conflicts + 1) told failed) tidies (subst (λ n. RefutesIn mid.tidies now.formula.now (n + 1) told failed) conflicts refutes),
      λ n. unsat_is_known failed n,
    ) in
    let log = log_then g.L.Sink g.met.L.Sink.keeps_on old.log.now c.reduce_where_many.new.log now None
    (log_then g.L.Sink g.met.L.Sink.keeps_on old.log.now c.settle_at_restart.new.self.log.now c.reduce_where_many.new.log None c.in_ok-outcome.ensures.log c.in_ok-reduce_where_many.ensures.searches_on.log) c.in_ok-failed.ensures.log in
    record {
      leaves = record { goes_on = settled; conflicts = tt; tidies = tt; keeps = tt; clear = leaves.clear; same = record { log = same.log; state = same.state; engine = same.engine; budget = same.budget } };
      lines = are_in_time c.requires.lines.0 (g.L.Sink.lines now.sink.now)
          (still_tidy g.L.Sink g.met.L.Sink.are_items g.met.L.Sink.gains_items old.log.now.sink.now now.sink.now log.frame old.state.now.conflicts c.requires.lines.0
          (marks_counted old.log.now.formula.now old.state.now (g.P.ParityEngine.state old.engine.now) (g.L.Sink.items old.log.now.sink.now) c.requires.searches.stands)
          (settled_marks old.state.now.tidies now.formula.now old.state.now.conflicts told (Unsat failed) settled) c.requires.lines.2);
      log = goes_on_in g.L.Sink g.met.L.Sink.items_keep_else true old.log.now now None log;
    }

pub returns-in_err-failed : goal.returns-in_err-failed
returns-in_err-failed g c =
    let fault = err_from_is_err_and c.from_residual-in_err-failed.result c.from_residual-in_err-failed.ensures.1 in
    let same = c.in_ok-outcome.ensures.leaves.same in
    rw (fault.1, fault.2) (record {
      leaves = record { goes_on = tt; conflicts = tt; tidies = tt; keeps = tt; clear = tt; same = record { log = same.log; state = same.state; engine = same.engine; budget = same.budget } };
      lines = tt;
      log = goes_on_in g.L.Sink g.met.L.Sink.items_keep_else true c.args.self.now.log.now c.tidy_clauses.new.log _
          (log_then g.L.Sink g.met.L.Sink.keeps_on _ c.reduce_where_many.new.log _ _
          (log_then g.L.Sink g.met.L.Sink.keeps_on c.args.self.now.log.now c.settle_at_restart.new.self.log.now c.reduce_where_many.new.log None c.in_ok-outcome.ensures.log c.in_ok-reduce_where_many.ensures.searches_on.log) c.in_err-failed.ensures.log);
    })

pub returns-in_err-tell_tidied : goal.returns-in_err-tell_tidied
returns-in_err-tell_tidied g c =
    let fault = err_from_is_err_and c.from_residual-in_err-tell_tidied.result c.from_residual-in_err-tell_tidied.ensures.1 in
    let same = c.in_ok-outcome.ensures.leaves.same in
    let old = c.args.self.now.log.now in
    let now = c.tidy_clauses.new.log in
    let log = log_then g.L.Sink g.met.L.Sink.keeps_on old c.reduce_where_many.new.log now None
    (log_then g.L.Sink g.met.L.Sink.keeps_on old c.settle_at_restart.new.self.log.now c.reduce_where_many.new.log None c.in_ok-outcome.ensures.log c.in_ok-reduce_where_many.ensures.searches_on.log) c.in_ok-failed.ensures.log in
    rw (fault.1, fault.2) (record {
      leaves = record { goes_on = tt; conflicts = tt; tidies = tt; keeps = tt; clear = tt; same = record { log = same.log; state = same.state; engine = same.engine; budget = same.budget } };
      lines = tt;
      log = then_in g.L.Sink g.met.L.Sink.keeps_on g.met.L.Sink.keeps_else_on true old now c.tell_tidied.new.log _ (goes_on_in g.L.Sink g.met.L.Sink.items_keep_else true old now None log) c.in_err-tell_tidied.ensures.log;
    })

pub returns : goal.returns
returns g c =
    let leaves = c.in_ok-outcome.ensures.leaves in
    let same = leaves.same in
    let old = c.args.self.now in
    let now = c.tidy_clauses.new.log in
    let state = c.tidy_clauses.new.state in
    let end = c.tell_tidied.new.log in
    let e = g.P.ParityEngine.state c.settle_at_restart.new.self.engine.now in
    let told = g.L.Sink.items now.sink.now in
    let settled = rw c.in_default.is at leaves.goes_on in
    let stands : SearchStands now.formula.now state e [] told = rw c.in_default-2.is at c.in_ok-failed.ensures.goes_on in
    let stays = rw c.in_default-2.is at c.in_ok-failed.ensures.stays in
    let tidied = rw c.in_default-2.is at c.in_ok-failed.ensures.tidied in
    let conflicts : state.conflicts ≡ old.state.now.conflicts = stays.1 ∙ c.reduce_where_many.ensures.searches_on.conflicts ∙ (rw c.in_default.is at leaves.conflicts) in
    let few = c.requires.searches.few.0 in
    let told_on = c.in_ok-tell_tidied.ensures in
    let log = log_then g.L.Sink g.met.L.Sink.keeps_on old.log.now c.reduce_where_many.new.log now None
    (log_then g.L.Sink g.met.L.Sink.keeps_on old.log.now c.settle_at_restart.new.self.log.now c.reduce_where_many.new.log None c.in_ok-outcome.ensures.log c.in_ok-reduce_where_many.ensures.searches_on.log) c.in_ok-failed.ensures.log in
    let before = still_tidy g.L.Sink g.met.L.Sink.are_items g.met.L.Sink.gains_items old.log.now.sink.now now.sink.now log.frame old.state.now.conflicts c.requires.lines.0
    (marks_counted old.log.now.formula.now old.state.now (g.P.ParityEngine.state old.engine.now) (g.L.Sink.items old.log.now.sink.now) c.requires.searches.stands)
    (subst (λ n. HasMarksUpTo n told) conflicts (exactly state.conflicts told (marks_counted now.formula.now state e told stands))) c.requires.lines.2 in
    let formula : end.formula.now ≡ c.settle_at_restart.new.self.log.now.formula.now = told_on.log.formula ∙ c.in_ok-failed.ensures.log.formula ∙ c.in_ok-reduce_where_many.ensures.searches_on.log.formula in
    record {
      leaves = record {
        goes_on = record {
          stands = subst (λ (f : Problem). SearchStands f state e [] (g.L.Sink.items end.sink.now)) (sym told_on.log.formula) (subst (SearchStands now.formula.now state e []) (sym c.tell_tidied.ensures.items) stands);
          unbroken = settled.unbroken;
          fewer = omega (arith, conflicts, few);
        };
        conflicts = conflicts;
        tidies = stays.0.tidies ∙ sym c.requires.tidies;
        keeps = subst (λ (f : Problem). KeepsAssumptions f.constraints c.begin_again.new.self state.trail) (sym formula)
            (c.begin_again.ensures c.settle_at_restart.new.self.log.now.formula.now.constraints c.settle_at_restart.new.self.state.now.trail state.trail (rw c.in_default.is at leaves.keeps) (stays.2 ∙ c.reduce_where_many.ensures.variables) stays.0.level);
        clear = leaves.clear;
        same = record { log = same.log; state = same.state; engine = same.engine; budget = same.budget };
      };
      lines = subst (AreTidyLines c.args.number) (sym told_on.told)
          (tidied_in_time now.formula.now state e (g.L.Sink.lines now.sink.now) told c.args.number c.requires.lines.0 (g.met.L.Sink.are_items now.sink.now) stands tidied c.requires.lines.1 (subst (IsRestartAt c.args.number) (sym conflicts) c.requires.restart.due) before);
      log = then_in g.L.Sink g.met.L.Sink.keeps_on g.met.L.Sink.keeps_else_on true old.log.now now end None (goes_on_in g.L.Sink g.met.L.Sink.items_keep_else true old.log.now now None log) told_on.log;
    }
