use Rattle.std.proofs.Common.{◌≡◌, ◌++◌, take, vec_capacity}
use Rattle.proof_rules.proofs.kept.push_all.Given as goal

abbrev pub invariant-loop-lit : goal.invariant-loop-lit
invariant-loop-lit l = record {
  items : l.all.items ≡ l.fn.all.items ++ take l.lit-index l.lits;
  room : vec_capacity l.all ≡ vec_capacity l.fn.all;
}
