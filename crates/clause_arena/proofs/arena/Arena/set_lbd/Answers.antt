use Rattle.std.proofs.Common.{ap, arith}
use Rattle.clause_arena.specs.Clauses.{ArenaState}
use Rattle.clause_arena.proofs.HeadLaws.{with_lbd_in, removed_heads}
use Rattle.clause_arena.proofs.ReadLaws.{live_place}
use Rattle.clause_arena.proofs.arena.Arena.set_lbd.Goals as goal

pub index_mut-requires : goal.index_mut-requires
index_mut-requires c =
    let inside = live_place c.args.self.now c.self.inside.lits.items c.self.inside.ends.items c.self.inside.heads.items (ap (λ (t : ArenaState). t.clauses) c.self.view_is) c.self.invariant c.args.reference c.place-place.result c.place-place.ensures c.requires in
    omega (arith, inside, c.self.inside.heads.ok.0)

pub returns : goal.returns
returns c =
    let h = c.index_mut.result.now in
    let e = with_lbd_in 0 c.self.inside.lits.items c.self.inside.ends.items c.self.inside.heads.items c.place-place.result c.args.lbd h c.self.invariant.each c.index_mut.ensures.value in
    let p = c.place-place.ensures in
    rw (← c.self.view_is) cc

pub invariant_of-self : goal.invariant_of-self
invariant_of-self c = removed_heads c.self.inside.lits.items c.self.inside.ends.items c.self.inside.heads.items c.place-place.result _ c.self.invariant
