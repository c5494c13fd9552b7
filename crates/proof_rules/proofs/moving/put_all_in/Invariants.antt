use Rattle.std.proofs.Common.{◌≡◌, drop}
use Rattle.std.specs.FinMap as map
use Rattle.std.specs.Ordering.{nat_cmp}
use Rattle.cx_semantics.specs.Moves.{put_moved}
use Rattle.proof_rules.specs.Moving.{values_for, meets_some}
use Rattle.proof_rules.proofs.moving.put_all_in.Given as goal

abbrev pub invariant-loop-place : goal.invariant-loop-place
invariant-loop-place g l = record {
  live : (first : map.FinMap nat_cmp g.row.V.Denot) → l.found ≡ values_for first l.moves → meets_some first l.values (drop l.place l.moves) ≡ meets_some first l.initial.values l.moves;
  put : (first : map.FinMap nat_cmp g.row.V.Denot) → l.found ≡ values_for first l.moves → put_moved first l.values (drop l.place l.moves) ≡ put_moved first l.initial.values l.moves;
}
