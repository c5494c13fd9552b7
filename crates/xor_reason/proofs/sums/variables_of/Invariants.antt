use Rattle.std.proofs.Common.{◌≡◌, ◌≤◌, map, take}
use Rattle.std.specs.List.{AllByRecursion}
use Rattle.cx_base.specs.Literals.{Literal}
use Rattle.xor_reason.proofs.sums.variables_of.Given as goal

-- the first variables are there
abbrev pub invariant-loop-lit : goal.invariant-loop-lit
invariant-loop-lit l = (l.numbers.items ≡ map (λ (x : Literal). x.variable) (take l.lit-index l.lits)) × AllByRecursion (λ v. (1 ≤ v) × (v ≤ 268435455)) l.numbers.items
