use Rattle.std.proofs.Common.{◌≡◌, ◌++◌, [], map, take}
use Rattle.cx_base.specs.declared.constraint.Constraint.TheVariants as constraint
use Rattle.inst_gen.specs.Triples.{literals_in}
use Rattle.inst_gen.proofs.building.push_parities.Given as goal

abbrev pub invariant-loop-parity : goal.invariant-loop-parity
invariant-loop-parity l = l.builder ≡ record { constraints = l.fn.builder.constraints ++ map constraint.Parity (map literals_in (take l.parity-index l.parities)); unfinished = [] }
