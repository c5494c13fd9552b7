use Rattle.std.proofs.Common.{◌≡◌, take, map, not}
use Rattle.cx_base.specs.Literals.{Literal}
use Rattle.cx_base.specs.Parity.{odd_sum}
use Rattle.xor_recover.proofs.entry.ClauseEntry.new.Given as goal

abbrev pub invariant-loop-lit : goal.invariant-loop-lit
invariant-loop-lit l = record {
  vars : l.vars.items ≡ map (λ (x : Literal). x.variable) (take l.lit-index l.lits);
  signs : l.signs.items ≡ map (λ (x : Literal). x.negative) (take l.lit-index l.lits);
  right : l.right ≡ not (odd_sum (map (λ (x : Literal). x.negative) (take l.lit-index l.lits)));
}
