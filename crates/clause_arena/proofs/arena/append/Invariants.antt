use Rattle.std.proofs.Common.{◌≡◌, ◌++◌, take, vec_capacity}
use Rattle.clause_arena.proofs.arena.append.Given as goal

abbrev pub invariant-loop-lit : goal.invariant-loop-lit
invariant-loop-lit l = record {
  items : l.into.items ≡ l.fn.into.items ++ take l.lit-index l.lits;
  room : vec_capacity l.into ≡ vec_capacity l.fn.into;
}
