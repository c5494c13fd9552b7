use Rattle.std.proofs.Common.{ℕ, ◌≡◌, ◌<◌, ◌-◌, List, length, get_or, set, map, ap, ◌∙◌, subst, sym, refl, arith}
use Rattle.std.proofs.lemmas.List.{length-set}
use Rattle.cx_base.specs.Literals.{code_of}
use Rattle.watch_lists.specs.declared.lists.Node.{Node}
use Rattle.watch_lists.specs.Lists.{ListsState, IsUnlinked}
use Rattle.watch_lists.specs.Links.{links_of, nodes_of}
use Rattle.watch_lists.proofs.SideLaws.{links_count, link_read, linked_links, linked_held}
use Rattle.watch_lists.proofs.CursorLaws.{current_in, CanPass, can_pass, current_below, previous_below, unlinked_front_at, unlinked_behind_at, unlinked_flagged, unlinked_free, unlinked_cursor, head_counts}
use Rattle.watch_lists.proofs.lists.NodeLists.unlink.Goals.{After-index-head, After-index}
use Rattle.watch_lists.proofs.lists.NodeLists.unlink.Goals as goal

may : (c : After-index-head) → CanPass (links_of c.self.inside.nodes.items) c.self.inside.heads.items c.args.cursor
may c = can_pass _ _ _ _ c.self.invariant.chains (ap (λ (s : ListsState). s.lists) c.self.view_is) c.requires.cursor c.requires.some

passing : (c : After-index) → CanPass (links_of c.self.inside.nodes.items) c.self.inside.heads.items c.args.cursor
passing c = can_pass _ _ _ _ c.self.invariant.chains (ap (λ (s : ListsState). s.lists) c.self.view_is) c.requires.cursor c.requires.some

pub index-requires : goal.index-requires
index-requires c = omega (arith, current_below _ _ _ (may (goal.at.index-requires c).After-index-head), links_count c.self.inside.nodes.items, c.self.inside.nodes.ok.0)

read : (c : After-index) → c.index.result.now.next ≡ get_or (links_of c.self.inside.nodes.items) c.args.cursor.current c.index.result.now.next
read c =
    let nodes = c.self.inside.nodes.items in
    link_read nodes c.args.cursor.current c.index.result.now (omega (arith, current_below _ _ _ (passing c), links_count nodes)) c.index.ensures

-- the two forms of what is left
front : (c : After-index) → c.args.cursor.passed ≡ 0 → IsUnlinked c.args.cursor (map (nodes_of (links_of c.self.inside.nodes.items)) c.self.inside.heads.items)
    (map (nodes_of (links_of c.self.inside.nodes.items)) (set c.self.inside.heads.items c.code-list.result (record { first = c.index.result.now.next; count = c.index-head.result.now.count - 1 })))
front c z = unlinked_front_at _ _ c.args.cursor c.code-list.result c.index-head.result.now c.index.result.now.next (passing c) c.code-list.ensures.code c.index-head.ensures (read c) z

behind : (c : After-index) → 0 < c.args.cursor.passed → IsUnlinked c.args.cursor (map (nodes_of (links_of c.self.inside.nodes.items)) c.self.inside.heads.items)
    (map (nodes_of (set (links_of c.self.inside.nodes.items) c.args.cursor.previous c.index.result.now.next)) (set c.self.inside.heads.items c.code-list.result (record { first = c.index-head.result.now.first; count = c.index-head.result.now.count - 1 })))
behind c some = unlinked_behind_at _ _ c.args.cursor c.code-list.result c.index-head.result.now c.index.result.now.next (passing c) c.code-list.ensures.code c.index-head.ensures (read c) some

pub invariant_of-self : goal.invariant_of-self
invariant_of-self c = unlinked_flagged _ _ _ _ c.self.inside.stands.items c.args.cursor refl (front (goal.at.invariant_of-self c).After-index c.if-cursor-eq0.true) c.self.invariant

pub returns-then-cursor-eq0-clause-unlinked : goal.returns-then-cursor-eq0-clause-unlinked
returns-then-cursor-eq0-clause-unlinked c = rw (← c.self.view_is) (front (goal.at.returns-then-cursor-eq0-clause-unlinked c).After-index c.if-cursor-eq0.true)

pub returns-then-cursor-eq0-clause-free : goal.returns-then-cursor-eq0-clause-free
returns-then-cursor-eq0-clause-free c =
    let m = may (goal.at.returns-then-cursor-eq0-clause-free c).After-index-head in
    unlinked_free _ c.args.cursor _ _ (front (goal.at.returns-then-cursor-eq0-clause-free c).After-index c.if-cursor-eq0.true) c.self.invariant.chains.apart m.cursor m.some

pub returns-then-cursor-eq0-clause-cursor : goal.returns-then-cursor-eq0-clause-cursor
returns-then-cursor-eq0-clause-cursor c =
    let at = (goal.at.returns-then-cursor-eq0-clause-cursor c).After-index in
    unlinked_cursor _ _ c.args.cursor c.index.result.now.next _ (passing at) (read at) (front at c.if-cursor-eq0.true)

pub index_mut-requires-2 : goal.index_mut-requires-2
index_mut-requires-2 c =
    omega (arith, previous_below _ _ _ (may (goal.at.index_mut-requires-2 c).After-index-head) (omega (arith, c.if-cursor-eq0.false)), links_count c.self.inside.nodes.items, c.self.inside.nodes.ok.0)

pub overflow_sub-head-2 : goal.overflow_sub-head-2
overflow_sub-head-2 c = head_counts _ _ c.args.cursor c.code-list.result c.index-head.result.now (may (goal.at.overflow_sub-head-2 c).After-index-head) c.code-list.ensures.code c.index-head.ensures

relinked : (c : After-index) → 0 < c.args.cursor.passed → (it : Node) → IsUnlinked c.args.cursor (map (nodes_of (links_of c.self.inside.nodes.items)) c.self.inside.heads.items)
    (map (nodes_of (links_of (set c.self.inside.nodes.items c.args.cursor.previous (record { side = it.side; next = c.index.result.now.next })))) (set c.self.inside.heads.items c.code-list.result (record { first = c.index-head.result.now.first; count = c.index-head.result.now.count - 1 })))
relinked c some it =
    let nodes = c.self.inside.nodes.items in
    let heads = c.self.inside.heads.items in
    let heads2 = set heads c.code-list.result (record { first = c.index-head.result.now.first; count = c.index-head.result.now.count - 1 }) in
    subst (λ (xs : List ℕ). IsUnlinked c.args.cursor (map (nodes_of (links_of nodes)) heads) (map (nodes_of xs) heads2)) (sym (linked_links nodes c.args.cursor.previous c.index.result.now.next it)) (behind c some)

pub invariant_of-self-2 : goal.invariant_of-self-2
invariant_of-self-2 c =
    let nodes = c.self.inside.nodes.items in
    let previous = c.args.cursor.previous in
    let it = c.index_mut-2.result.now in
    let more = set nodes previous (record { side = it.side; next = c.index.result.now.next }) in
    let long : length (links_of more) ≡ length (links_of nodes) = links_count more ∙ length-set nodes previous (record { side = it.side; next = c.index.result.now.next }) ∙ sym (links_count nodes) in
    unlinked_flagged _ _ _ _ c.self.inside.stands.items c.args.cursor long (relinked (goal.at.invariant_of-self-2 c).After-index (omega (arith, c.if-cursor-eq0.false)) it) c.self.invariant

pub returns-clause-unlinked : goal.returns-clause-unlinked
returns-clause-unlinked c = rw (← c.self.view_is) (relinked (goal.at.returns-clause-unlinked c).After-index (omega (arith, c.if-cursor-eq0.false)) c.index_mut-2.result.now)

pub returns-clause-free : goal.returns-clause-free
returns-clause-free c =
    let m = may (goal.at.returns-clause-free c).After-index-head in
    unlinked_free _ c.args.cursor _ _ (relinked (goal.at.returns-clause-free c).After-index (omega (arith, c.if-cursor-eq0.false)) c.index_mut-2.result.now) c.self.invariant.chains.apart m.cursor m.some

pub returns-clause-cursor : goal.returns-clause-cursor
returns-clause-cursor c =
    let at = (goal.at.returns-clause-cursor c).After-index in
    unlinked_cursor _ _ c.args.cursor c.index.result.now.next _ (passing at) (read at) (relinked at (omega (arith, c.if-cursor-eq0.false)) c.index_mut-2.result.now)

pub returns-clause-held : goal.returns-clause-held
returns-clause-held c =
    linked_held c.self.inside.nodes.items c.args.cursor.previous c.index.result.now.next c.index_mut-2.result.now c.index_mut-2.ensures.value ∙ ap (λ (s : ListsState). s.held) c.self.view_is

pub returns-then-cursor-eq0-clause-flagged : goal.returns-then-cursor-eq0-clause-flagged
returns-then-cursor-eq0-clause-flagged c =
    let m = may (goal.at.returns-then-cursor-eq0-clause-flagged c).After-index-head in
    c.self.invariant.told (code_of c.args.cursor.literal) c.args.cursor.current (current_in _ c.args.cursor m.cursor m.some)

pub returns-clause-flagged : goal.returns-clause-flagged
returns-clause-flagged c =
    let m = may (goal.at.returns-clause-flagged c).After-index-head in
    c.self.invariant.told (code_of c.args.cursor.literal) c.args.cursor.current (current_in _ c.args.cursor m.cursor m.some)
