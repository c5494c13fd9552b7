use Rattle.std.proofs.Common.{◌≡◌, ◌+◌, ◌*◌, ◌≤◌, map, take, drop, sum, replicate, vec_len, vec_capacity}
use Rattle.gf2_rows.specs.Heads.{rows_in, need_of, AreKept}
use Rattle.gf2_rows.proofs.pool.lay_rows.Given as goal

abbrev pub invariant-loop-width : goal.invariant-loop-width
invariant-loop-width l = record {
  rows : AreKept (vec_capacity l.pool) l.pool.items l.heads.items;
  zeros : rows_in l.pool.items l.heads.items ≡ map (λ w. replicate w 0) (take l.width-index l.widths);
  count : vec_len l.heads ≡ l.width-index;
  heads : vec_capacity l.heads ≡ vec_capacity l.initial.heads;
  room : need_of l.pool.items l.heads.items + 2 * sum (drop l.width-index l.widths) ≤ vec_capacity l.pool;
}
