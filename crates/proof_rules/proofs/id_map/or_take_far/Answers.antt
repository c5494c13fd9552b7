use Rattle.std.proofs.Common.{sym, ap, ◌∙◌}
use Rattle.std.specs.Option.{option_or}
use Rattle.proof_rules.proofs.PlaceLaws.{nothing_under, nothing_to_take, or_none}
use Rattle.proof_rules.proofs.id_map.or_take_far.Goals as goal

pub returns-then-is_empty-clause-taken : goal.returns-then-is_empty-clause-taken
returns-then-is_empty-clause-taken g c =
    sym (or_none c.args.near) ∙ ap (option_or c.args.near) (sym (nothing_under c.args.id c.args.far.now.entries (c.is_empty.ensures.0 c.if-is_empty.true)))

pub returns-then-is_empty-clause-gone : goal.returns-then-is_empty-clause-gone
returns-then-is_empty-clause-gone g c = nothing_to_take c.args.id c.args.far.now.entries (c.is_empty.ensures.0 c.if-is_empty.true)
