use Rattle.std.proofs.Common.{take}
use Rattle.std.specs.List.{AllByRecursion}
use Rattle.cx_base.specs.Literals.{negate}
use Rattle.cdcl_core.specs.Shortening.{ArePartedInto, IsToldUnit, HasNoUnit}
use Rattle.cdcl_core.proofs.shortening.shorten.Given as goal

-- the first literals, parted
abbrev pub invariant-loop-lit : goal.invariant-loop-lit
invariant-loop-lit l =
    ArePartedInto (take l.lit-index l.clause) l.left.items l.units.items × AllByRecursion (IsToldUnit l.state) l.units.items × AllByRecursion (λ m. HasNoUnit l.state (negate m)) l.left.items
