use Rattle.std.proofs.Common.{sym, ap, ◌∙◌, ◌||◌}
use Rattle.tidy_rules.specs.Relations.{strengthens}
use Rattle.tidy_rules.proofs.RelationLaws.{found_exactly}
use Rattle.tidy_rules.proofs.relations.bears_on.Goals as goal

pub returns-else-lies_inside : goal.returns-else-lies_inside
returns-else-lies_inside c =
    c.is_some.ensures ∙ found_exactly c.args.clause.now c.args.other.now c.strengthening.result c.strengthening.ensures
    ∙ sym (ap (λ b. b || strengthens c.args.clause.now c.args.other.now) (sym c.lies_inside.ensures ∙ c.if-lies_inside.false))
