use Rattle.std.proofs.Common.{refl, ◌∷◌, []}
use Rattle.cx_base.specs.declared.steps.LogEvent.TheVariants.{Step}
use Rattle.cdcl_search.proofs.LogFronts.{tells_by}
use Rattle.cdcl_search.proofs.telling.tell_step.Goals as goal

pub returns : goal.returns
returns g c = tells_by g.L.Sink c.args.log.now _ (Step c.args.step ∷ []) c.tell.result c.tell.ensures c.requires.right (c.requires.text.0, tt) (c.requires.text.1, tt) (λ s. (refl, tt)) refl refl
