use Rattle.std.proofs.Common.{◌∙◌, ap, sym, [], None, Some, get_or, is_some, ◌-◌}
use Rattle.std.proofs.lemmas.Option.{get_or_from_slice_get}
use Rattle.proof_rules.specs.FirstLists.{lists_of}
use Rattle.proof_rules.proofs.FirstLaws.{list_left}
use Rattle.proof_rules.proofs.first.FirstLists.get.Goals as goal

pub list-requires-clause-low : goal.list-requires-clause-low
list-requires-clause-low c =
    let left = list_left c.self.inside.gone.items (lists_of c.self.inside.lists) c.args.id c.self.invariant.0 c.self.invariant.1
    (ap (λ places. is_some (get_or places c.args.id None)) c.self.view_is ∙ sym c.has.ensures ∙ c.if-has.true) in
    left.0

pub list-requires-clause-high : goal.list-requires-clause-high
list-requires-clause-high c =
    let left = list_left c.self.inside.gone.items (lists_of c.self.inside.lists) c.args.id c.self.invariant.0 c.self.invariant.1
    (ap (λ places. is_some (get_or places c.args.id None)) c.self.view_is ∙ sym c.has.ensures ∙ c.if-has.true) in
    left.1

pub returns-then-has : goal.returns-then-has
returns-then-has c =
    let lists = lists_of c.self.inside.lists in
    let left = list_left c.self.inside.gone.items lists c.args.id c.self.invariant.0 c.self.invariant.1
    (ap (λ places. is_some (get_or places c.args.id None)) c.self.view_is ∙ sym c.has.ensures ∙ c.if-has.true) in
    ap (λ places. get_or places c.args.id None) (sym c.self.view_is) ∙ left.2 ∙ ap Some (get_or_from_slice_get lists (c.args.id - 1) c.list.result.now [] c.list.ensures)
