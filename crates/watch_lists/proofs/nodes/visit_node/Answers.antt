use Rattle.std.proofs.Common.{ℕ, subst, sym, refl, arith}
use Rattle.cx_base.specs.Literals.{Literal}
use Rattle.cx_trail.specs.Sequence.{IsTrueIn, IsOpenIn}
use Rattle.cx_trail.proofs.ValueLaws.{true_pushed}
use Rattle.clause_arena.specs.Clauses.{literals_at}
use Rattle.watch_lists.specs.Truths.{AreOthersFalse}
use Rattle.watch_lists.specs.Watching.{clause_of, partner}
use Rattle.watch_lists.proofs.NodeLaws.{node_in, partner_attached, other_within, propagates_unit}
use Rattle.watch_lists.proofs.nodes.visit_node.Goals as goal

pub partner_literal-other-requires : goal.partner_literal-other-requires
partner_literal-other-requires c = omega (arith, node_in (partner c.args.node) _ (partner_attached c.args.node _ c.requires.attached), c.requires.nodes.pairs)

pub imply-requires-clause-high : goal.imply-requires-clause-high
imply-requires-clause-high c = other_within _ _ _ c.args.arena.now c.args.node _ c.requires.nodes c.requires.attached c.partner_literal-other.ensures

pub returns-in-Unit-clause-propagates : goal.returns-in-Unit-clause-propagates
returns-in-Unit-clause-propagates c =
    let f = c.in-Unit.ensures.finds in
    let entries = c.args.trail.now.entries in
    let a = c.args.arena.now in
    let e = sym c.partner_literal-other.ensures in
    let others = subst (λ (r : ℕ). AreOthersFalse entries (literals_at a r) c.partner_literal-other.result) (sym c.new-reference.ensures)
    (subst (λ (x : Literal). AreOthersFalse entries (literals_at a (clause_of c.args.node)) x) e f.1) in
    propagates_unit _ _ _ _ c.args.trail.now _ c.args.node _ _ _ c.requires.nodes c.requires.attached c.new-reference.ensures c.partner_literal-other.ensures c.imply.ensures.pushed refl
    (subst (λ (x : Literal). IsOpenIn entries x.variable) e f.0) others

pub returns-in-Unit-clause-visited : goal.returns-in-Unit-clause-visited
returns-in-Unit-clause-visited c =
    subst (λ (x : Literal). IsTrueIn c.imply.new.self.entries x) c.partner_literal-other.ensures (true_pushed c.args.trail.now _ _ _ _ c.imply.ensures.pushed)

pub returns-in-Falsified-clause-visited : goal.returns-in-Falsified-clause-visited
returns-in-Falsified-clause-visited c = (refl, c.in-Falsified.ensures.finds)

pub imply-requires-clause-open : goal.imply-requires-clause-open
imply-requires-clause-open c = subst (λ (x : Literal). IsOpenIn c.args.trail.now.entries x.variable) (sym c.partner_literal-other.ensures) c.in-Unit.ensures.finds.0
