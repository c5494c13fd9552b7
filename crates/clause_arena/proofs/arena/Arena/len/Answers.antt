use Rattle.std.proofs.Common.{ap, arith}
use Rattle.clause_arena.specs.Clauses.{ArenaState}
use Rattle.clause_arena.proofs.ReadLaws.{count}
use Rattle.clause_arena.proofs.arena.Arena.len.Goals as goal

pub returns-clause-len : goal.returns-clause-len
returns-clause-len c =
    let many = count c.args.self.now c.self.inside.lits.items c.self.inside.ends.items c.self.inside.heads.items (ap (λ (t : ArenaState). t.clauses) c.self.view_is) c.self.invariant in
    omega (arith, many, c.len.ensures, c.self.inside.heads.ok.0)
