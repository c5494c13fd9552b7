use Rattle.std.proofs.Common.{ap, rules}
use Rattle.clause_arena.specs.Clauses.{ArenaState}
use Rattle.clause_arena.proofs.ReadLaws.{count}
use Rattle.clause_arena.proofs.arena.Arena.is_empty.Goals as goal

pub returns : goal.returns
returns c =
    let many = count c.args.self.now c.self.inside.lits.items c.self.inside.ends.items c.self.inside.heads.items (ap (λ (t : ArenaState). t.clauses) c.self.view_is) c.self.invariant in
    rw many (search (rules, c.self.inside.heads.ok.0))
