use Rattle.std.proofs.Common.{◌≡◌, ◌+◌, ◌++◌, take, drop, vec_len, vec_capacity}
use Rattle.gf2_rows.proofs.pool.append_copy.Given as goal

abbrev pub invariant-loop-i : goal.invariant-loop-i
invariant-loop-i l = record {
  items : l.pool.items ≡ l.initial.pool.items ++ take l.i (drop l.start l.initial.pool.items);
  len : vec_len l.pool ≡ vec_len l.initial.pool + l.i;
  room : vec_capacity l.pool ≡ vec_capacity l.initial.pool;
}
