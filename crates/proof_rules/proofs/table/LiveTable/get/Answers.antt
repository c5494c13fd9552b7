use Rattle.std.proofs.Common.{◌≡◌, ◌∙◌, sym, ap, subst, None, Some, MatchOption}
use Rattle.std.specs.FinMap as map
use Rattle.std.specs.Option.{option_or}
use Rattle.cx_semantics.specs.Tables.{get}
use Rattle.proof_rules.proofs.TableLaws.{get-behind}
use Rattle.proof_rules.proofs.table.LiveTable.get.Goals as goal

pub returns-in-Some : goal.returns-in-Some
returns-in-Some c =
    let first = c.self.inside.first in
    let lists = c.self.inside.lists in
    ap (λ t. get t c.args.id) (sym c.self.view_is) ∙ get-behind first lists c.args.id ∙ ap (λ o. option_or o (map.get lists c.args.id)) c.in-Some.ensures

pub returns-in-None : goal.returns-in-None
returns-in-None c =
    let first = c.self.inside.first in
    let lists = c.self.inside.lists in
    let before = ap (λ t. get t c.args.id) (sym c.self.view_is) ∙ get-behind first lists c.args.id ∙ ap (λ o. option_or o (map.get lists c.args.id)) c.in-None.ensures in
    subst (λ o. MatchOption c.get-in-None.result (o ≡ None) (λ lits. o ≡ Some lits.now)) (sym before) c.get-in-None.ensures
