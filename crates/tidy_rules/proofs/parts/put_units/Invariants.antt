use Rattle.std.proofs.Common.{◌≡◌, ◌++◌, map, take}
use Rattle.tidy_rules.specs.declared.part.TidyPart.TheVariants.{Unit as AUnit}
use Rattle.tidy_rules.proofs.parts.put_units.Given as goal

abbrev pub invariant-loop-lit : goal.invariant-loop-lit
invariant-loop-lit l = l.parts.items ≡ l.fn.parts.items ++ map AUnit (take l.lit-index l.units)
