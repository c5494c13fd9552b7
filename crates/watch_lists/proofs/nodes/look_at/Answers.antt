use Rattle.std.proofs.Common.{◌≡◌, ℕ, ◌≤◌, ◌⊎◌, sym, subst, ◌∙◌, arith}
use Rattle.std.specs.List.{Contains}
use Rattle.std.proofs.lemmas.List.Elements.{All-contains}
use Rattle.cx_base.specs.Literals.{Literal}
use Rattle.clause_arena.specs.Clauses.{literals_at}
use Rattle.watch_lists.specs.Truths.{IsFinding}
use Rattle.watch_lists.specs.Watching.{clause_of, partner, held_at, third_at}
use Rattle.watch_lists.proofs.NodeLaws.{node_in, partner_attached, other_inside, other_within}
use Rattle.watch_lists.proofs.nodes.look_at.Goals as goal

pub partner_literal-other-requires : goal.partner_literal-other-requires
partner_literal-other-requires c = omega (arith, node_in (partner c.args.node) _ (partner_attached c.args.node _ c.requires.attached), c.requires.nodes.pairs)

pub third_of_short-requires-clause-node : goal.third_of_short-requires-clause-node
third_of_short-requires-clause-node c = omega (arith, node_in c.args.node _ c.requires.attached, c.requires.nodes.pairs)

pub third_of_short-requires-clause-partner : goal.third_of_short-requires-clause-partner
third_of_short-requires-clause-partner c = omega (arith, node_in (partner c.args.node) _ (partner_attached c.args.node _ c.requires.attached), c.requires.nodes.pairs)

pub look_at_short-requires-clause-third : goal.look_at_short-requires-clause-third
look_at_short-requires-clause-third c =
    let k = c.requires.nodes in
    let inside = (k.thirds c.args.node c.requires.attached).inside in
    subst (λ (x : Literal). x.variable ≤ c.args.trail.now.variables) (sym c.in-Some.ensures.0)
    (All-contains (λ (x : Literal). (1 ≤ x.variable) × (x.variable ≤ c.args.trail.now.variables)) (literals_at c.args.arena.now (clause_of c.args.node)) _ (k.within (clause_of c.args.node) c.requires.attached) inside).1

pub look_at_short-requires-clause-other : goal.look_at_short-requires-clause-other
look_at_short-requires-clause-other c = other_within _ _ _ c.args.arena.now c.args.node _ c.requires.nodes c.requires.attached c.partner_literal-other.ensures

pub look-requires-clause-inside : goal.look-requires-clause-inside
look-requires-clause-inside c = other_inside _ _ _ _ c.args.node _ _ c.requires.nodes c.requires.attached c.new-reference.ensures c.partner_literal-other.ensures

pub returns-in-Some-clause-finds : goal.returns-in-Some-clause-finds
returns-in-Some-clause-finds c =
    let entries = c.args.trail.now.entries in
    let lits = literals_at c.args.arena.now (clause_of c.args.node) in
    let held = c.args.lists.now.held in
    let k = c.requires.nodes.thirds c.args.node c.requires.attached in
    let t = c.in-Some.ensures in
    let other = c.partner_literal-other.ensures in
    let has = subst (Contains (literals_at c.args.arena.now (clause_of c.args.node))) (sym t.0) k.inside in
    subst (λ (x : Literal). IsFinding entries lits x c.look_at_short.result) other
    (c.look_at_short.ensures.finds lits _ c.requires.falsified has
    (subst (λ (x : Literal). (l : Literal) → Contains lits l → (l ≡ held_at held c.args.node) ⊎ ((l ≡ c.partner_literal-other.result) ⊎ (l ≡ x))) (sym t.0)
    (subst (λ (x : Literal). (l : Literal) → Contains lits l → (l ≡ held_at held c.args.node) ⊎ ((l ≡ x) ⊎ (l ≡ third_at held c.args.node))) (sym other) (k.alone (sym t.0 ∙ t.1)))))

pub returns-in-None-clause-finds : goal.returns-in-None-clause-finds
returns-in-None-clause-finds c =
    let entries = c.args.trail.now.entries in
    subst (λ (x : Literal). IsFinding entries (literals_at c.args.arena.now (clause_of c.args.node)) x c.look.result) c.partner_literal-other.ensures
    (subst (λ (r : ℕ). IsFinding entries (literals_at c.args.arena.now r) c.partner_literal-other.result c.look.result) c.new-reference.ensures c.look.ensures.finds)
