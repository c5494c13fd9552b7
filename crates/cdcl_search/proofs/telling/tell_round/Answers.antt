use Rattle.std.proofs.Common.{refl, ◌∷◌}
use Rattle.cx_base.specs.declared.steps.LogEvent.TheVariants.{Conflict}
use Rattle.cdcl_search.specs.Tells.{as_events}
use Rattle.cdcl_search.proofs.LogFronts.{tells_by, tellable_are_low, tellable_have_texts}
use Rattle.cdcl_search.proofs.telling.tell_round.Goals as goal

pub returns : goal.returns
returns g c = tells_by g.L.Sink c.args.log.now _ (Conflict c.args.number ∷ as_events c.args.steps.items) c.tell_marked.result c.tell_marked.ensures c.requires.right
    (c.ranges.number.fits, tellable_have_texts c.args.steps.items c.requires.texts) (tt, tellable_are_low c.args.steps.items c.requires.texts) (λ s. absurd (c.requires.unsettled s)) refl refl
