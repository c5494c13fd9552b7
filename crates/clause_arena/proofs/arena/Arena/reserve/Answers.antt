use Rattle.std.proofs.Common.{length, ap, arith}
use Rattle.clause_arena.specs.Clauses.{ArenaState}
use Rattle.clause_arena.proofs.HeadLaws.{clauses_count}
use Rattle.clause_arena.proofs.arena.Arena.reserve.Goals as goal

pub returns-clause-few : goal.returns-clause-few
returns-clause-few c ok =
    let count = clauses_count 0 c.self.inside.lits.items c.self.inside.ends.items c.self.inside.heads.items c.self.invariant.each in
    omega (arith, c.if-clauses-len.false, c.len.ensures, c.self.inside.heads.ok.0, count, ap (λ (t : ArenaState). length t.clauses) c.self.view_is)
