use Rattle.std.proofs.Common.{ℕ, List, length, ap, ◌∙◌, sym, arith}
use Rattle.cx_base.specs.Literals.{Literal}
use Rattle.clause_arena.specs.Clauses.{ArenaState}
use Rattle.clause_arena.specs.Heads.{part_at}
use Rattle.clause_arena.proofs.ReadLaws.{live_place, live_literals}
use Rattle.clause_arena.proofs.arena.Arena.lits.Goals as goal

pub part-requires-clause-place : goal.part-requires-clause-place
part-requires-clause-place c =
    let inside = live_place c.args.self.now c.self.inside.lits.items c.self.inside.ends.items c.self.inside.heads.items (ap (λ (t : ArenaState). t.clauses) c.self.view_is) c.self.invariant c.args.reference c.place.result c.place.ensures c.requires in
    omega (arith, inside, c.self.invariant.each, ap (λ (es : List ℕ). length es) c.deref-2.ensures.value)

pub returns : goal.returns
returns c =
    c.part.ensures
    ∙ ap (λ (xs : List Literal). part_at xs c.deref-2.result.now c.place.result) c.deref.ensures.value
    ∙ ap (λ (es : List ℕ). part_at c.self.inside.lits.items es c.place.result) c.deref-2.ensures.value
    ∙ sym (live_literals c.args.self.now c.self.inside.lits.items c.self.inside.ends.items c.self.inside.heads.items (ap (λ (t : ArenaState). t.clauses) c.self.view_is) c.self.invariant c.args.reference c.place.result c.place.ensures c.requires)
