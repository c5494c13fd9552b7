use Rattle.std.proofs.Common.{◌≡◌, vec_capacity}
use Rattle.clause_arena.specs.Packing.{IsPackedUpTo}
use Rattle.clause_arena.proofs.packing.pack.Given as goal

abbrev pub invariant-loop-place : goal.invariant-loop-place
invariant-loop-place l = record {
  packed : IsPackedUpTo l.fn.lits.items l.fn.ends.items l.fn.heads.items l.place l.start l.used l.lits.items l.ends.items l.heads.items l.moves.items;
  room : vec_capacity l.moves ≡ vec_capacity l.fn.moves;
  same_ends : vec_capacity l.ends ≡ vec_capacity l.fn.ends;
  same_heads : vec_capacity l.heads ≡ vec_capacity l.fn.heads;
  same_lits : vec_capacity l.lits ≡ vec_capacity l.fn.lits;
}
