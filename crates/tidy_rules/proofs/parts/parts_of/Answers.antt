use Rattle.tidy_rules.proofs.PartLaws.{with_units}
use Rattle.tidy_rules.proofs.parts.parts_of.Goals as goal

pub returns : goal.returns
returns c = with_units c.args.arena.now c.args.units.now c.put_clauses.new.parts.items c.put_units.new.parts.items c.in_ok-put_clauses.ensures c.in_ok-put_units.ensures
