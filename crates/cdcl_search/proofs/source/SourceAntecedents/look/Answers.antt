use Rattle.cdcl_search.proofs.Outcomes.{some_maps}
use Rattle.cdcl_search.proofs.source.SourceAntecedents.look.Goals as goal

pub returns-clause-held : goal.returns-clause-held
returns-clause-held g c = some_maps c.lent.result c.lent.ensures.sourced (λ _ h. h c.args.self.now.rows.now)
