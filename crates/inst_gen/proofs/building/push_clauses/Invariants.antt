use Rattle.std.proofs.Common.{◌≡◌, ◌++◌, [], map, take}
use Rattle.cx_base.specs.declared.constraint.Constraint.TheVariants as constraint
use Rattle.inst_gen.specs.Triples.{literals_in}
use Rattle.inst_gen.proofs.building.push_clauses.Given as goal

abbrev pub invariant-loop-clause : goal.invariant-loop-clause
invariant-loop-clause l = l.builder ≡ record { constraints = l.fn.builder.constraints ++ map constraint.Clause (map literals_in (take l.clause-index l.clauses)); unfinished = [] }
