use Rattle.std.proofs.Common.{◌≡◌, map, take, flat_map}
use Rattle.inst_gen.specs.Triples.{literals_in}
use Rattle.inst_gen.proofs.building.push_sum.Given as goal

abbrev pub invariant-loop-parity : goal.invariant-loop-parity
invariant-loop-parity l = l.builder ≡ record l.fn.builder { unfinished = flat_map (λ lits. lits) (map literals_in (take l.parity-index l.parities)) }
