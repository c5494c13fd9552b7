use Rattle.std.proofs.Common.{◌≡◌, ◌∙◌, sym, ap, subst, ℕ, ◌≤◌, Bool, List, Some, inl, inr, arith}
use Rattle.std.specs.Ordering.{nat_cmp}
use Rattle.std.specs.FinMap as map
use Rattle.cx_trail.specs.Sequence.{TrailState}
use Rattle.clause_arena.specs.Clauses.{IsLive, id_at}
use Rattle.watch_lists.specs.Watching.{IsAttached}
use Rattle.rup_engine.specs.Standing.{AreMet}
use Rattle.rup_engine.specs.Searching.{IsBrokenIf}
use Rattle.rup_engine.proofs.MapLooks.{get_gone}
use Rattle.rup_engine.proofs.ForgetLaws.{rests_less, short_less, met_less, broken_less, dead, stays_live, fewer, ids_less, named_less, of_table_less, held_less, holds_without}
use Rattle.rup_engine.proofs.engine.Engine.forget.Goals as goal

pub detach-requires-clause-gone : goal.detach-requires-clause-gone
detach-requires-clause-gone c =
    let r = c.in-Some.reference.now in
    dead c.args.self.now.arena c.remove.new.self r c.remove.ensures (c.requires.rest.named c.args.id r c.in-Some.ensures).0

pub detach-requires-clause-others : goal.detach-requires-clause-others
detach-requires-clause-others c q at ne =
    let r = c.in-Some.reference.now in
    stays_live c.args.self.now.arena c.remove.new.self r c.remove.ensures (c.requires.rest.named c.args.id r c.in-Some.ensures).0 q ne (c.release.ensures.rests.fits.nodes.live q at)

pub returns-in-None-clause-holds : goal.returns-in-None-clause-holds
returns-in-None-clause-holds c table holds = holds_without table c.args.self.now c.args.id c.requires.rest c.in-None.ensures holds

pub returns-clause-free : goal.returns-clause-free
returns-clause-free c = ap (λ (m : map.FinMap nat_cmp ℕ). map.get m c.args.id) c.remove-2.ensures ∙ get_gone c.args.self.now.refs c.args.id

pub returns-clause-rest : goal.returns-clause-rest
returns-clause-rest c =
    let e = c.args.self.now in
    let r = c.in-Some.reference.now in
    let a = e.arena in
    let b = c.remove.new.self in
    let live = (c.requires.rest.named c.args.id r c.in-Some.ensures).0 in
    let gone = c.remove.ensures in
    let t = c.release.new.trail in
    record {
      rests = rests_less a b r gone live e.limit c.release.new.watches c.detach.new.self t c.release.ensures.unused c.detach.ensures c.release.ensures.rests;
      low = elim c.release.ensures.kept [ inl z ↦ omega (arith, z.0) | inr same ↦ subst (λ (u : TrailState). u.level ≤ 1) (sym same.0) c.requires.rest.low ];
      short = short_less a b r gone live e.short.items c.requires.rest.short;
      known = λ q s. let k = c.requires.rest.known q s in omega (arith, k, fewer a b r gone live);
      broken = elim c.release.ensures.kept [
        | inl z ↦ subst (IsBrokenIf b t.entries) (sym z.1) tt
        | inr same ↦ subst (IsBrokenIf b t.entries) (sym same.1) (broken_less a b r gone live t.entries e.broken same.2 (subst (λ (u : TrailState). IsBrokenIf a u.entries e.broken) (sym same.0) c.requires.rest.broken))
      ];
      met = λ none some. elim c.release.ensures.kept [
        | inl z ↦ absurd (omega (arith, some, z.0))
        | inr same ↦ met_less a b r gone live e.short.items t.entries (subst (λ (u : TrailState). AreMet a e.short.items u.entries) (sym same.0) (c.requires.rest.met (sym same.1 ∙ none) (subst (λ (u : TrailState). 1 ≤ u.level) same.0 some)))
      ];
      ids = subst (λ (m : map.FinMap nat_cmp ℕ). (q : ℕ) → IsLive b q → map.get m (id_at b q) ≡ Some q) (sym c.remove-2.ensures) (ids_less a b r gone live e.refs c.args.id c.requires.rest.ids c.requires.rest.named c.in-Some.ensures);
      named = subst (λ (m : map.FinMap nat_cmp ℕ). (n q : ℕ) → map.get m n ≡ Some q → IsLive b q × (id_at b q ≡ n)) (sym c.remove-2.ensures) (named_less a b r gone live e.refs c.args.id c.requires.rest.ids c.requires.rest.named c.in-Some.ensures);
    }

pub returns-clause-holds : goal.returns-clause-holds
returns-clause-holds c table holds =
    let e = c.args.self.now in
    let r = c.in-Some.reference.now in
    let a = e.arena in
    let b = c.remove.new.self in
    let live = (c.requires.rest.named c.args.id r c.in-Some.ensures).0 in
    let gone = c.remove.ensures in
    record {
      of_table = of_table_less a b r gone live e.refs c.args.id c.requires.rest.ids c.requires.rest.named c.in-Some.ensures table holds.of_table;
      held = held_less a b r gone live e.refs c.args.id c.requires.rest.ids c.requires.rest.named c.in-Some.ensures table e.watches.attached c.detach.new.self.attached e.short.items
          (λ q at alive. c.detach.ensures.kept q (subst (λ (bs : List Bool). IsAttached bs q) (sym c.release.ensures.attached) at) alive) holds.held;
    }
