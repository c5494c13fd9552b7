use Rattle.std.proofs.Common.{List, ℕ, ap, set, subst, sym, ◌∙◌, map}
use Rattle.watch_lists.specs.Lists.{ListsState}
use Rattle.watch_lists.specs.Links.{AreFlagged, nodes_of}
use Rattle.watch_lists.proofs.SideLaws.{watched_held, watched_links}
use Rattle.watch_lists.proofs.lists.NodeLists.watch.Goals as goal

pub invariant_of-self : goal.invariant_of-self
invariant_of-self c =
    let same = watched_links c.self.inside.nodes.items c.args.node c.args.side c.index_mut.result.now c.index_mut.ensures.value in
    subst (λ (xs : List ℕ). AreFlagged xs c.self.inside.heads.items c.self.inside.stands.items) (sym same) c.self.invariant

pub returns-clause-held : goal.returns-clause-held
returns-clause-held c =
    watched_held c.self.inside.nodes.items c.args.node c.args.side c.index_mut.result.now ∙ ap (λ (s : ListsState). set s.held c.args.node c.args.side) c.self.view_is

pub returns-clause-lists : goal.returns-clause-lists
returns-clause-lists c =
    let same = watched_links c.self.inside.nodes.items c.args.node c.args.side c.index_mut.result.now c.index_mut.ensures.value in
    ap (λ (xs : List ℕ). map (nodes_of xs) c.self.inside.heads.items) same ∙ ap (λ (s : ListsState). s.lists) c.self.view_is
