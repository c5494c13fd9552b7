use Rattle.std.proofs.Common.{subst}
use Rattle.search_policy.specs.Scores.{NoneIsOpen}
use Rattle.cdcl_search.proofs.deciding.picked.Goals as goal

pub returns-in_default-clause-literal : goal.returns-in_default-clause-literal
returns-in_default-clause-literal c = subst (λ n. NoneIsOpen n c.args.state.now.trail.entries) c.requires.stand.variables c.in_default.ensures.picks
