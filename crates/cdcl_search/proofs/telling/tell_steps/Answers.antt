use Rattle.std.proofs.Common.{refl}
use Rattle.cdcl_search.specs.Tells.{as_events}
use Rattle.cdcl_search.proofs.LogFronts.{tells_by, tellable_are_low, tellable_have_texts, steps_are_unmarked}
use Rattle.cdcl_search.proofs.telling.tell_steps.Goals as goal

pub returns : goal.returns
returns g c = tells_by g.L.Sink c.args.log.now _ (as_events c.args.steps.items) c.tell_all.result c.tell_all.ensures c.requires.right
    (tellable_have_texts c.args.steps.items c.requires.texts) (tellable_are_low c.args.steps.items c.requires.texts) (λ s. steps_are_unmarked c.args.steps.items) refl refl
