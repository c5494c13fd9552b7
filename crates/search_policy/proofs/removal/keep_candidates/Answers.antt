use Rattle.std.proofs.Common.{rules}
use Rattle.std.proofs.lemmas.List.Elements.{filter_from_retain}
use Rattle.search_policy.specs.Removal.{may_go}
use Rattle.search_policy.proofs.removal.keep_candidates.Goals as goal

pub returns : goal.returns
returns c = filter_from_retain _ may_go (λ f card kept g h. search rules) _ _ _ c.retain.ensures.filtered
