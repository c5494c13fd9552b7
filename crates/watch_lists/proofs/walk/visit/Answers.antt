use Rattle.std.proofs.Common.{List, refl, sym, subst, arith}
use Rattle.cx_base.specs.Literals.{Literal}
use Rattle.watch_lists.specs.declared.lists.Side.{Side}
use Rattle.cx_base.proofs.LiteralLaws.{code_below}
use Rattle.cx_trail.specs.Sequence.{TrailState, IsTrail, IsFalseIn}
use Rattle.watch_lists.specs.Watching.{clause_of}
use Rattle.watch_lists.specs.Walking.{IsRest, IsWalk, Goes, IsConflict}
use Rattle.watch_lists.proofs.NodeLaws.{partner_inside, propagates_none}
use Rattle.watch_lists.proofs.WalkLaws.{Moves, at_node, node_inside, node_literal, node_attached, node_detached, literal_high, goes_kept, passed_walk, dropped_rest, dropped_walk, moved_rest, moved_walk, goes_moved}
use Rattle.watch_lists.proofs.walk.visit.Goals.{After-move_node}
use Rattle.watch_lists.proofs.walk.visit.Goals as goal

pub index-requires : goal.index-requires
index-requires c = omega (arith, node_inside _ _ _ _ _ _ c.args.cursor c.requires.walk c.requires.some, c.requires.walk.rest.nodes.pairs, c.args.nodes.now.attached.ok.0)

pub drop_node-requires : goal.drop_node-requires
drop_node-requires c = record { cursor = at_node _ _ _ _ _ _ c.args.cursor c.requires.walk c.requires.some }

pub returns-then-not-index-clause-rest : goal.returns-then-not-index-clause-rest
returns-then-not-index-clause-rest c =
    let gone = node_detached _ _ _ _ _ _ c.args.cursor c.index.result.now c.requires.walk c.requires.some c.index.ensures c.if-not-index.true in
    let e = c.drop_node.ensures in
    subst (λ (h : List Side). IsRest c.args.trail.now.variables h c.args.nodes.now.attached.items c.drop_node.new.lists.lists c.args.arena.now) (sym e.held)
    (dropped_rest _ _ _ _ _ _ _ c.args.cursor c.requires.walk c.requires.some e.unlinked gone)

pub returns-then-not-index-clause-turns : goal.returns-then-not-index-clause-turns
returns-then-not-index-clause-turns c =
    let gone = node_detached _ _ _ _ _ _ c.args.cursor c.index.result.now c.requires.walk c.requires.some c.index.ensures c.if-not-index.true in
    let e = c.drop_node.ensures in (
      subst (λ (h : List Side). IsWalk c.args.trail.now.variables h c.args.nodes.now.attached.items c.drop_node.new.lists.lists c.args.arena.now c.args.trail.now c.drop_node.result) (sym e.held)
          (dropped_walk _ _ _ _ _ _ _ c.args.cursor _ c.requires.walk c.requires.some e.unlinked e.shorter e.cursor gone),
      e.shorter.literal,
      e.shorter.left,
    )

pub visit_node-requires-clause-attached : goal.visit_node-requires-clause-attached
visit_node-requires-clause-attached c = node_attached _ _ _ _ _ _ c.args.cursor c.index.result.now c.requires.walk c.requires.some c.index.ensures c.if-not-index.false

pub move_node-requires-clause-cursor : goal.move_node-requires-clause-cursor
move_node-requires-clause-cursor c = at_node _ _ _ _ _ _ c.args.cursor c.requires.walk c.requires.some

pub move_node-requires-clause-partner : goal.move_node-requires-clause-partner
move_node-requires-clause-partner c = partner_inside c.args.cursor.current _ _ c.requires.walk.rest.nodes.pairs (node_inside _ _ _ _ _ _ c.args.cursor c.requires.walk c.requires.some)

pub visit_node-requires-clause-falsified : goal.visit_node-requires-clause-falsified
visit_node-requires-clause-falsified c =
    subst (λ (x : Literal). IsFalseIn c.args.trail.now.entries x) (sym (node_literal _ _ _ _ _ _ c.args.cursor c.requires.walk c.requires.some)) c.requires.walk.falsified

pub move_node-requires-clause-high : goal.move_node-requires-clause-high
move_node-requires-clause-high c =
    let at = node_attached _ _ _ _ _ _ c.args.cursor c.index.result.now c.requires.walk c.requires.some c.index.ensures c.if-not-index.false in
    let high = literal_high _ _ _ _ _ _ c.args.cursor c.in-Move.literal c.requires.walk at c.in-Move.ensures.visited.1 in
    omega (arith, code_below c.in-Move.literal _ high, c.requires.walk.rest.size)

pub returns-in-Keep-clause-goes : goal.returns-in-Keep-clause-goes
returns-in-Keep-clause-goes c = goes_kept _ _ _ _ _ c.in-Keep.ensures.propagates

pub returns-in-Keep-clause-turns : goal.returns-in-Keep-clause-turns
returns-in-Keep-clause-turns c =
    let e = c.pass.ensures in
    (passed_walk _ _ _ _ _ _ _ c.args.cursor _ c.requires.walk c.requires.some e.past e.cursor c.in-Keep.ensures.propagates c.in-Keep.ensures.visited, e.past.literal, e.past.left)

-- the node moves to another literal
moves : (c : After-move_node) → Moves c.args.trail.now.variables c.args.lists.now.held c.args.nodes.now.attached.items c.args.lists.now.lists c.args.arena.now c.args.trail.now c.args.cursor c.in-Move.literal c.move_node.new.lists.lists c.move_node.new.lists.held
moves c =
    let k = c.requires.walk in
    let v = c.in-Move.ensures.visited in
    let at = node_attached _ _ _ _ _ _ c.args.cursor c.index.result.now k c.requires.some c.index.ensures c.if-not-index.false in
    record {
      walk = k;
      some = c.requires.some;
      at = at;
      inside = v.1;
      other = v.2;
      free = v.3;
      high = literal_high _ _ _ _ _ _ c.args.cursor c.in-Move.literal k at v.1;
      moved = c.move_node.ensures.moved;
      rewatched = c.move_node.ensures.held;
    }

pub returns-in-Move-clause-rest : goal.returns-in-Move-clause-rest
returns-in-Move-clause-rest c = moved_rest _ _ _ _ _ _ _ _ _ _ (moves (goal.at.returns-in-Move-clause-rest c).After-move_node)

pub returns-in-Move-clause-goes : goal.returns-in-Move-clause-goes
returns-in-Move-clause-goes c =
    let v = c.in-Move.ensures.visited in
    let ok = subst IsTrail v.0 c.in-Move.ensures.sound in
    subst (λ (u : TrailState). Goes c.args.lists.now.held c.move_node.new.lists.held c.args.nodes.now.attached.items c.args.arena.now c.args.trail.now u) (sym v.0)
    (goes_moved _ _ _ _ _ _ _ _ _ _ ok (moves (goal.at.returns-in-Move-clause-goes c).After-move_node))

pub returns-in-Move-clause-turns : goal.returns-in-Move-clause-turns
returns-in-Move-clause-turns c =
    let v = c.in-Move.ensures.visited in
    let e = c.move_node.ensures in (
      subst (λ (u : TrailState). IsWalk c.args.trail.now.variables c.move_node.new.lists.held c.args.nodes.now.attached.items c.move_node.new.lists.lists c.args.arena.now u c.move_node.result) (sym v.0)
          (moved_walk _ _ _ _ _ _ _ _ _ _ _ (moves (goal.at.returns-in-Move-clause-turns c).After-move_node) e.shorter e.cursor),
      e.shorter.literal,
      e.shorter.left,
    )

pub returns-in-Conflict-clause-turns : goal.returns-in-Conflict-clause-turns
returns-in-Conflict-clause-turns c =
    let v = c.in-Conflict.ensures.visited in
    let a = c.args.arena.now in
    let b = c.args.nodes.now.attached.items in
    let at = node_attached _ _ b _ _ _ c.args.cursor c.index.result.now c.requires.walk c.requires.some c.index.ensures c.if-not-index.false in
    subst (λ r. IsConflict b a c.visit_node.new.trail r) (sym c.new.ensures)
    (subst (λ (t : TrailState). IsConflict b a t (clause_of c.args.cursor.current)) (sym v.0) (at, v.1))

pub pass-requires-clause-cursor : goal.pass-requires-clause-cursor
pass-requires-clause-cursor c = c.requires.walk.cursor

pub pass-requires-clause-some : goal.pass-requires-clause-some
pass-requires-clause-some c = c.requires.some

pub visit_node-requires-clause-nodes : goal.visit_node-requires-clause-nodes
visit_node-requires-clause-nodes c = c.requires.walk.rest.nodes

pub visit_node-requires-clause-unmet : goal.visit_node-requires-clause-unmet
visit_node-requires-clause-unmet c = c.requires.unmet

pub returns-in-Conflict-clause-attached : goal.returns-in-Conflict-clause-attached
returns-in-Conflict-clause-attached c = c.in-Conflict.ensures.attached

pub returns-in-Conflict-clause-goes : goal.returns-in-Conflict-clause-goes
returns-in-Conflict-clause-goes c = goes_kept _ _ _ _ _ c.in-Conflict.ensures.propagates

pub returns-in-Conflict-clause-rest : goal.returns-in-Conflict-clause-rest
returns-in-Conflict-clause-rest c = c.requires.walk.rest

pub returns-in-Keep-clause-attached : goal.returns-in-Keep-clause-attached
returns-in-Keep-clause-attached c = c.in-Keep.ensures.attached

pub returns-in-Keep-clause-rest : goal.returns-in-Keep-clause-rest
returns-in-Keep-clause-rest c = c.requires.walk.rest

pub returns-in-Move-clause-attached : goal.returns-in-Move-clause-attached
returns-in-Move-clause-attached c = c.in-Move.ensures.attached

pub returns-then-not-index-clause-attached : goal.returns-then-not-index-clause-attached
returns-then-not-index-clause-attached c = refl

pub returns-then-not-index-clause-goes : goal.returns-then-not-index-clause-goes
returns-then-not-index-clause-goes c =
    subst (λ (h : List Side). Goes c.args.lists.now.held h c.args.nodes.now.attached.items c.args.arena.now c.args.trail.now c.args.trail.now) (sym c.drop_node.ensures.held)
    (goes_kept _ _ _ _ _ (propagates_none c.args.nodes.now.attached.items c.args.arena.now c.args.trail.now))
