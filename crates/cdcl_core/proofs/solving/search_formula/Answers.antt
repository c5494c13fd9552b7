use Rattle.std.proofs.Common.{◌≡◌, rules, sym, subst, IfErr, IfOk}
use Rattle.std.specs.Prelude.{OnOk}
use Rattle.cx_base.specs.Counts.{Rose}
use Rattle.conflict_learn.specs.declared.fault.CoreFault.TheVariants.{Write}
use Rattle.conflict_learn.specs.Faults.{fault_in}
use Rattle.search_steps.specs.Recovering.{SettledWithRecovered}
use Rattle.search_steps.proofs.EndLaws.{settled_by_its_own}
use Rattle.cdcl_search.specs.Tells.{HasFailedBy, HaveLowIds, HasNoMark}
use Rattle.cdcl_search.proofs.Outcomes.{ok_maps}
use Rattle.cdcl_core.specs.LogLines.{AreInTime, GivesUpIn, KeepsIn}
use Rattle.cdcl_core.specs.Results.{IsRightOutcomeIn}
use Rattle.cdcl_core.proofs.Answering.{unmarked_by, counts_at, fresh_is_left, fresh_is_low, gives_up_by, risen_by}
use Rattle.cdcl_core.proofs.solving.search_formula.Goals as goal

pub returns : goal.returns
returns g c =
    let same : c.sink-1.given.0 ≡ c.search_from_start.new.log.sink.now = search rules in
    let on = c.search_from_start.ensures.log in
    let last = c.search_from_start.new.log.sink.now in
    record {
      answers = subst (λ x. IfOk c.search_from_start.result (λ a. IsRightOutcomeIn c.args.effort.tidies c.args.formula.now c.args.effort.budget (g.L.Sink.items x) a)) (sym same)
          (subst (λ f. IfOk c.search_from_start.result (λ a. IsRightOutcomeIn c.args.effort.tidies f c.args.effort.budget (g.L.Sink.items last) a)) on.formula c.search_from_start.ensures.answers);
      tidied = λ t. subst (λ x. OnOk c.search_from_start.result (AreInTime (g.L.Sink.lines x))) (sym same) (c.search_from_start.ensures.tidied t);
      settled = λ s. ok_maps c.search_from_start.result (c.search_from_start.ensures.settled (subst SettledWithRecovered (sym on.formula) (settled_by_its_own c.args.formula.now s))) (λ a k. k.1);
      settled_with_recovered = λ s. ok_maps c.search_from_start.result (c.search_from_start.ensures.settled (subst SettledWithRecovered (sym on.formula) s)) (λ a k. k.1);
      unmarked = λ s. subst (λ x. HasNoMark (g.L.Sink.items x)) (sym same) (unmarked_by g.L.Sink _ c.search_from_start.new.log _ on c.requires.fresh s);
      ids = subst (λ x. HaveLowIds (g.L.Sink.items x)) (sym same) (on.ids (fresh_is_low (g.L.Sink.items c.args.sink.now) c.requires.fresh));
      gave_up = subst (λ x. IfErr c.search_from_start.result (λ e. GivesUpIn c.args.effort.tidies g.L.Sink c.args.formula.now x e)) (sym same)
          (subst (λ f. IfErr c.search_from_start.result (λ e. GivesUpIn c.args.effort.tidies g.L.Sink f last e)) on.formula
          (gives_up_by g.L.Sink _ c.search_from_start.new.log c.search_from_start.result on (fresh_is_left c.args.formula.now (g.L.Sink.items c.args.sink.now) c.requires.fresh)));
      write = subst (λ x. IfErr c.search_from_start.result (λ e. e ≡ Write → Rose (g.L.Sink.faults c.args.sink.now) (g.L.Sink.faults x))) (sym same) (risen_by g.L.Sink _ c.search_from_start.new.log c.search_from_start.result on);
      faults = counts_at g.L.Sink _ c.search_from_start.new.log _ _ on same;
      failed = subst (λ x. HasFailedBy (fault_in c.search_from_start.result) (g.L.Sink.has_failed c.args.sink.now) (g.L.Sink.has_failed x)) (sym same) on.failed;
      frame = subst (KeepsIn c.args.effort.tidies g.L.Sink c.args.sink.now) (sym same) on.frame;
    }
