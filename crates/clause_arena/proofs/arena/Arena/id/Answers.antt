use Rattle.std.proofs.Common.{sym, ap, arith}
use Rattle.clause_arena.specs.Clauses.{ArenaState, id_in}
use Rattle.clause_arena.proofs.ReadLaws.{live_place, live_clause}
use Rattle.clause_arena.proofs.arena.Arena.id.Goals as goal

pub index-requires : goal.index-requires
index-requires c =
    let inside = live_place c.args.self.now _ c.self.inside.ends.items c.self.inside.heads.items (ap (λ (t : ArenaState). t.clauses) c.self.view_is) c.self.invariant c.args.reference c.place.result c.place.ensures c.requires in
    omega (arith, inside, c.self.inside.heads.ok.0)

pub returns : goal.returns
returns c = sym (ap id_in (live_clause c.args.self.now c.self.inside.lits.items c.self.inside.ends.items c.self.inside.heads.items (ap (λ (t : ArenaState). t.clauses) c.self.view_is) c.self.invariant c.args.reference c.place.result c.index.result.now c.place.ensures c.index.ensures c.requires))
