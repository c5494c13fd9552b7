use Rattle.std.proofs.Common.{ap, ◌∙◌, ◌++◌, ◌-◌, arith}
use Rattle.cdcl_search.specs.Deleting.{deletions}
use Rattle.cdcl_search.specs.Tells.{as_events}
use Rattle.cdcl_search.specs.Ties.{row_ids}
use Rattle.cdcl_search.proofs.DeletedRows.{one_deleted, one_more_text}
use Rattle.cdcl_search.proofs.deleting.put_deletions.Goals as goal

pub loop-left-preserved : goal.loop-left-preserved
loop-left-preserved c =
    let few = c.loop-left.invariant.few in
    record {
      few = omega (arith, few);
      steps = ap (λ xs. as_events xs ++ deletions (row_ids c.args.first (c.loop-left.left - 1))) c.in_ok-push.ensures.items
          ∙ one_deleted c.loop-left.steps.items c.args.first c.loop-left.left c.deletion.result _ c.loop-left-test.true c.deletion.ensures.is c.loop-left.invariant.steps;
      texts = one_more_text c.loop-left.steps.items c.deletion.result _ c.in_ok-push.ensures.items c.loop-left.invariant.texts c.deletion.ensures.text;
    }
