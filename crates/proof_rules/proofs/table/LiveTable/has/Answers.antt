use Rattle.std.proofs.Common.{◌∙◌, sym, ap, None, is_some, get_or}
use Rattle.std.specs.FinMap as map
use Rattle.cx_semantics.specs.Tables.{is_live}
use Rattle.proof_rules.proofs.TableLaws.{get-behind, some_first, none_first}
use Rattle.proof_rules.proofs.table.LiveTable.has.Goals as goal

pub returns-then-has : goal.returns-then-has
returns-then-has c =
    let first = c.self.inside.first in
    let lists = c.self.inside.lists in
    c.if-has.true
    ∙ sym (ap (λ t. is_live t c.args.id) (sym c.self.view_is) ∙ ap is_some (get-behind first lists c.args.id)
    ∙ some_first (get_or first c.args.id None) (map.get lists c.args.id) (sym c.has.ensures ∙ c.if-has.true))

pub returns-else-has : goal.returns-else-has
returns-else-has c =
    let first = c.self.inside.first in
    let lists = c.self.inside.lists in
    c.has-else-has.ensures
    ∙ sym (ap (λ t. is_live t c.args.id) (sym c.self.view_is) ∙ ap is_some (get-behind first lists c.args.id)
    ∙ none_first (get_or first c.args.id None) (map.get lists c.args.id) (sym c.has.ensures ∙ c.if-has.false))
