use Rattle.std.proofs.Common.{ℕ, ◌+◌, List, length, map, set, ap, subst, sym, ◌∙◌, arith}
use Rattle.std.proofs.lemmas.List.{length-set}
use Rattle.watch_lists.specs.Lists.{ListsState, IsFlagged, IsLinked}
use Rattle.watch_lists.specs.Links.{AreFlagged, links_of, nodes_of}
use Rattle.watch_lists.proofs.ChainLaws.{CanLink, can_link, link_fits, linked_heads, linked_chains}
use Rattle.watch_lists.proofs.FlagLaws.{linked_told}
use Rattle.watch_lists.proofs.SideLaws.{links_count, held_count, linked_links, linked_held}
use Rattle.watch_lists.proofs.lists.NodeLists.relink.Goals.{After-index-head}
use Rattle.watch_lists.proofs.lists.NodeLists.relink.Goals as goal

may : (c : After-index-head) → CanLink (links_of c.self.inside.nodes.items) c.self.inside.heads.items c.args.list c.args.node c.index-head.result.now
may c =
    let nodes = c.self.inside.nodes.items in
    can_link _ _ _ _ _ _ c.self.invariant.chains (ap (λ (s : ListsState). s.lists) c.self.view_is)
    (omega (arith, c.requires.node, ap (λ (s : ListsState). length s.held) c.self.view_is, links_count nodes, held_count nodes)) c.requires.list c.requires.free c.index-head.ensures

pub overflow_add-head : goal.overflow_add-head
overflow_add-head c = omega (arith, link_fits _ _ _ _ _ (may (goal.at.overflow_add-head c).After-index-head), c.self.invariant.chains.few)

pub invariant_of-self : goal.invariant_of-self
invariant_of-self c =
    let may = may (goal.at.invariant_of-self c).After-index-head in
    let next = links_of c.self.inside.nodes.items in
    let flags = c.self.inside.stands.items in
    let first = c.index-head.result.now.first in
    let heads2 = set c.self.inside.heads.items c.args.list (record { first = c.args.node; count = c.index-head.result.now.count + 1 }) in
    let flagged = subst (λ (s : ListsState). IsFlagged s.flags c.args.node) (sym c.self.view_is) c.requires.flagged in
    let now : AreFlagged (set next c.args.node first) heads2 flags = record {
      chains = linked_chains _ _ _ _ _ may;
      enough = omega (arith, c.self.invariant.enough, length-set next c.args.node first);
      told = linked_told c.args.node c.args.list _ _ flags flagged (linked_heads _ _ _ _ _ may) c.self.invariant.told;
    } in
    subst (λ (xs : List ℕ). AreFlagged xs heads2 flags) (sym (linked_links c.self.inside.nodes.items c.args.node first c.index_mut.result.now)) now

pub returns-clause-linked : goal.returns-clause-linked
returns-clause-linked c =
    let m = linked_heads _ _ _ _ _ (may (goal.at.returns-clause-linked c).After-index-head) in
    let links = linked_links c.self.inside.nodes.items c.args.node c.index-head.result.now.first c.index_mut.result.now in
    let heads = c.self.inside.heads.items in
    let heads2 = set heads c.args.list (record { first = c.args.node; count = c.index-head.result.now.count + 1 }) in
    rw (← c.self.view_is) (subst (λ (xs : List ℕ). IsLinked c.args.node c.args.list (map (nodes_of (links_of c.self.inside.nodes.items)) heads) (map (nodes_of xs) heads2)) (sym links) m)

pub returns-clause-held : goal.returns-clause-held
returns-clause-held c =
    linked_held c.self.inside.nodes.items c.args.node c.index-head.result.now.first c.index_mut.result.now c.index_mut.ensures.value ∙ ap (λ (s : ListsState). s.held) c.self.view_is
