use Rattle.std.proofs.Common.{◌≡◌, ◌∙◌, ◌+◌, refl, sym, subst, true, true≢false, None, arith}
use Rattle.std.proofs.lemmas.Result.{err_from_is_err_and}
use Rattle.cx_base.specs.Problem.{Problem}
use Rattle.search_policy.specs.Assuming.{KeepsAssumptions}
use Rattle.search_steps.specs.Schedule.{IsRestart, IsRestartAt}
use Rattle.cdcl_core.specs.LogLines.{AreTidyLines}
use Rattle.cdcl_core.specs.Rounds.{HasLinesAfter}
use Rattle.cdcl_core.specs.Scheduling.{IsOnSchedule}
use Rattle.cdcl_core.proofs.LogLineLaws.{goes_on_in, rests_in}
use Rattle.cdcl_core.proofs.RunLaws.{goes_on_as, leaves_since}
use Rattle.cdcl_core.proofs.rounds.Run.follow_schedule.Goals as goal

pub next_restart-requires : goal.next_restart-requires
next_restart-requires g c =
    let one_more = c.requires.on.1 in
    let few = c.requires.searches.few.0 in
    let bound = c.requires.searches.few.1 in
    (c.requires.on.0, omega (arith, one_more, few, bound), c.requires.on.2)

pub returns-in_default : goal.returns-in_default
returns-in_default g c = record {
  leaves = record {
    goes_on = record { stands = c.requires.searches.stands; unbroken = c.requires.unbroken; fewer = c.requires.searches.few.0 };
    conflicts = refl;
    tidies = refl;
    keeps = c.requires.searches.keeps;
    clear = c.requires.searches.clear;
    same = record { log = refl; state = refl; engine = refl; budget = refl };
  };
  on = subst (IsOnSchedule c.next_restart.new.self) (sym c.requires.on.1) (c.next_restart.ensures.on c.requires.on.0 c.requires.on.2);
  lines = λ t. subst (λ n. AreTidyLines n (g.L.Sink.lines c.args.self.now.log.now.sink.now)) (sym (rw c.in_default.is at c.next_restart.ensures.number)) (c.requires.lines t);
  log = rests_in g.L.Sink g.met.L.Sink.keeps_itself g.met.L.Sink.items_keep_else c.args.self.now.state.now.tidies c.args.self.now.log.now;
}

pub restart-requires : goal.restart-requires
restart-requires g c = record { stands = (g.L.Sink.items c.args.self.now.log.now.sink.now, c.requires.searches.stands); unbroken = c.requires.unbroken }

pub tidy_at_restart-requires-clause-searches : goal.tidy_at_restart-requires-clause-searches
tidy_at_restart-requires-clause-searches g c =
    let same = c.restart.ensures.conflicts in
    let few = c.requires.searches.few.0 in
    record {
      stands = c.restart.ensures.stays.stands (g.L.Sink.items c.args.self.now.log.now.sink.now) c.requires.searches.stands;
      keeps = c.restart.ensures.keeps c.args.self.now.log.now.formula.now.constraints c.requires.searches.keeps;
      few = (omega (arith, same, few), c.requires.searches.few.1);
      clear = c.requires.searches.clear;
      going = c.requires.searches.going;
    }

pub tidy_at_restart-requires-clause-restart : goal.tidy_at_restart-requires-clause-restart
tidy_at_restart-requires-clause-restart g c = record {
  level = c.restart.ensures.level;
  due = subst (IsRestartAt c.in-Some.number) (sym (c.restart.ensures.conflicts ∙ c.requires.on.1)) ((rw c.in-Some.is at c.next_restart.ensures.due) c.requires.on.0 c.requires.on.2);
}

pub tidy_at_restart-requires-clause-lines : goal.tidy_at_restart-requires-clause-lines
tidy_at_restart-requires-clause-lines g c =
    (c.args.schedule.now.restarts, (rw c.in-Some.is at c.next_restart.ensures.number).0, c.requires.lines (sym c.restart.ensures.stays.tidies ∙ c.if-self.true))

pub returns-then-self : goal.returns-then-self
returns-then-self g c =
    let tidied = c.tidy_at_restart.ensures in
    let old = c.args.self.now in
    let are : old.state.now.tidies ≡ true = sym c.restart.ensures.stays.tidies ∙ c.if-self.true in
    record {
      leaves = leaves_since g.P.ParityEngine g.L.Sink old _ c.tidy_at_restart.result c.tidy_at_restart.new.self c.tidy_at_restart.new.assumptions c.tidy_at_restart.new.marks (record { log = refl; state = refl; engine = refl; budget = refl })
          c.restart.ensures.stays.tidies c.restart.ensures.conflicts tidied.leaves;
      on = subst (IsOnSchedule c.next_restart.new.self) (sym c.requires.on.1) (c.next_restart.ensures.on c.requires.on.0 c.requires.on.2);
      lines = λ t. subst (λ n. HasLinesAfter n (g.L.Sink.lines c.tidy_at_restart.new.self.log.now.sink.now) c.tidy_at_restart.result) (sym (rw c.in-Some.is at c.next_restart.ensures.number).1) tidied.lines;
      log = goes_on_as g.L.Sink _ _ _ _ _ (sym are) tidied.log;
    }

pub reduce_where_many-requires-clause-stands : goal.reduce_where_many-requires-clause-stands
reduce_where_many-requires-clause-stands g c = c.restart.ensures.stays.stands (g.L.Sink.items c.args.self.now.log.now.sink.now) c.requires.searches.stands

pub reduce_where_many-requires-clause-restart : goal.reduce_where_many-requires-clause-restart
reduce_where_many-requires-clause-restart g c =
    subst IsRestart (sym (c.restart.ensures.conflicts ∙ c.requires.on.1)) (c.in-Some.number, (rw c.in-Some.is at c.next_restart.ensures.due) c.requires.on.0 c.requires.on.2)

pub returns-in_err-reduce_where_many : goal.returns-in_err-reduce_where_many
returns-in_err-reduce_where_many g c =
    let fault = err_from_is_err_and c.from_residual.result c.from_residual.ensures.1 in
    rw (fault.1, fault.2) (record {
      leaves = record { goes_on = tt; conflicts = tt; tidies = tt; keeps = tt; clear = tt; same = record { log = refl; state = refl; engine = refl; budget = refl } };
      on = subst (IsOnSchedule c.next_restart.new.self) (sym c.requires.on.1) (c.next_restart.ensures.on c.requires.on.0 c.requires.on.2);
      lines = λ t. tt;
      log = goes_on_in g.L.Sink g.met.L.Sink.items_keep_else c.args.self.now.state.now.tidies c.args.self.now.log.now c.reduce_where_many.new.log _ c.in_err-reduce_where_many.ensures.searches_on.log;
    })

pub returns : goal.returns
returns g c =
    let old = c.args.self.now in
    let done = c.in_ok-reduce_where_many.ensures.searches_on in
    let conflicts = done.conflicts ∙ c.restart.ensures.conflicts in
    let few = c.requires.searches.few.0 in
    let never = c.if-self.false in
    let tidies = c.restart.ensures.stays.tidies in
    record {
      leaves = record {
        goes_on = record { stands = done.stands; unbroken = c.restart.ensures.stays.unbroken; fewer = omega (arith, conflicts, few) };
        conflicts = conflicts;
        tidies = done.tidies ∙ c.restart.ensures.stays.tidies;
        keeps = subst (λ (f : Problem). KeepsAssumptions f.constraints c.begin_again.new.self c.reduce_where_many.new.state.trail) (sym done.log.formula)
            (c.begin_again.ensures old.log.now.formula.now.constraints c.restart.new.state.trail c.reduce_where_many.new.state.trail (c.restart.ensures.keeps old.log.now.formula.now.constraints c.requires.searches.keeps)
            c.reduce_where_many.ensures.variables (c.reduce_where_many.ensures.level ∙ c.restart.ensures.level));
        clear = c.requires.searches.clear;
        same = record { log = refl; state = refl; engine = refl; budget = refl };
      };
      on = subst (IsOnSchedule c.next_restart.new.self) (sym c.requires.on.1) (c.next_restart.ensures.on c.requires.on.0 c.requires.on.2);
      lines = λ t. absurd (true≢false (sym t ∙ sym tidies ∙ never));
      log = goes_on_in g.L.Sink g.met.L.Sink.items_keep_else old.state.now.tidies old.log.now c.reduce_where_many.new.log None done.log;
    }
