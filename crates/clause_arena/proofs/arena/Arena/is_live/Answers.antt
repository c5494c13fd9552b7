use Rattle.std.proofs.Common.{◌<◌, length, ap, arith}
use Rattle.std.proofs.lemmas.Bool.{ltb-true}
use Rattle.clause_arena.specs.Clauses.{ArenaState}
use Rattle.clause_arena.proofs.ReadLaws.{live_place, is_live_by_head}
use Rattle.clause_arena.proofs.arena.Arena.is_live.Goals as goal

pub returns-then-place-len : goal.returns-then-place-len
returns-then-place-len c =
    let inside : c.place-place.result < length c.self.inside.heads.items = omega (arith, c.if-place-len.true, c.len.ensures, c.self.inside.heads.ok.0) in
    is_live_by_head c.args.self.now c.self.inside.lits.items c.self.inside.ends.items c.self.inside.heads.items (ap (λ (t : ArenaState). t.clauses) c.self.view_is) c.self.invariant c.args.reference c.place-place.result c.index.result.now c.place-place.ensures inside c.index.ensures

pub returns-else-place-len : goal.returns-else-place-len
returns-else-place-len c =
    let place = live_place c.args.self.now c.self.inside.lits.items c.self.inside.ends.items c.self.inside.heads.items (ap (λ (t : ArenaState). t.clauses) c.self.view_is) c.self.invariant c.args.reference c.place-place.result c.place-place.ensures in (
      λ below. absurd (omega (arith, c.if-place-len.false, ltb-true c.place-place.result c.len.result below)),
      λ live. absurd (omega (arith, place live, c.if-place-len.false, c.len.ensures, c.self.inside.heads.ok.0)),
    )
