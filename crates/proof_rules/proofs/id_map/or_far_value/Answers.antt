use Rattle.std.proofs.Common.{◌∙◌, ap}
use Rattle.std.specs.Option.{option_or}
use Rattle.proof_rules.proofs.id_map.or_far_value.Goals as goal

pub returns-clause-taken : goal.returns-clause-taken
returns-clause-taken g c = c.first_of.ensures ∙ ap (option_or c.args.near) c.remove-value.ensures.value

pub returns-clause-gone : goal.returns-clause-gone
returns-clause-gone g c = c.remove-value.ensures.updates.0
