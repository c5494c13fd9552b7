use Rattle.std.proofs.Common.{◌≡◌, take}
use Rattle.std.specs.List.{AllByRecursion}
use Rattle.cx_base.specs.Problem.{AreWithin, parities_of}
use Rattle.gf2_space.proofs.making.parities.Given as goal

-- the first of them
abbrev pub invariant-loop-number : goal.invariant-loop-number
invariant-loop-number l = (l.parities.items ≡ take l.number (parities_of l.formula.constraints)) × AllByRecursion (AreWithin l.formula.variables) l.parities.items
