use Rattle.std.proofs.Common.{◌≡◌, ◌+◌, ◌++◌, replicate, vec_len, vec_capacity}
use Rattle.gf2_rows.proofs.pool.append_zeros.Given as goal

abbrev pub invariant-loop : goal.invariant-loop
invariant-loop l = record {
  items : l.pool.items ≡ l.initial.pool.items ++ replicate l.counter 0;
  len : vec_len l.pool ≡ vec_len l.initial.pool + l.counter;
  room : vec_capacity l.pool ≡ vec_capacity l.initial.pool;
}
