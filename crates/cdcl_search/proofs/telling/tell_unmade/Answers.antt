use Rattle.std.proofs.Common.{refl}
use Rattle.cdcl_search.proofs.LogFronts.{tells_unmade}
use Rattle.cdcl_search.proofs.telling.tell_unmade.Goals as goal

pub take_unmade-requires-clause-texts : goal.take_unmade-requires-clause-texts
take_unmade-requires-clause-texts g c = c.requires.events.texts

pub returns : goal.returns
returns g c = tells_unmade g.L.Sink c.args.log.now _ (g.E.Unmade.items c.args.unmade.now) c.take_unmade.result c.requires.events c.requires.right c.take_unmade.ensures.told c.take_unmade.ensures.untold c.take_unmade.ensures.faults
    c.take_unmade.ensures.failed c.take_unmade.ensures.frame refl refl
