use Rattle.std.proofs.Common.{ap}
use Rattle.clause_arena.specs.Clauses.{ArenaState}
use Rattle.clause_arena.proofs.InPlaceLaws.{renamed_in_place}
use Rattle.clause_arena.proofs.arena.Arena.compact.Goals as goal

pub returns-clause-renamed : goal.returns-clause-renamed
returns-clause-renamed c =
    let same = ap (λ (t : ArenaState). t.clauses) c.self.view_is in
    renamed_in_place c.args.self.now _ c.self.inside.lits.items c.self.inside.ends.items c.self.inside.heads.items c.pack.new.moves.items c.from_vec.result c.self.invariant.each same c.from_vec.ensures c.pack.ensures.packed
