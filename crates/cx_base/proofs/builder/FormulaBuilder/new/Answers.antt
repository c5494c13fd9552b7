use Rattle.std.proofs.Common.{ap, map}
use Rattle.cx_base.specs.Heads.{stored}
use Rattle.cx_base.proofs.Drafting.{nothing_drafted}
use Rattle.cx_base.proofs.AssumedLaws.{none_assumed}
use Rattle.cx_base.proofs.PlaceLaws.{no_places}
use Rattle.cx_base.proofs.builder.FormulaBuilder.new.Goals as goal

pub invariant_of-result : goal.invariant_of-result
invariant_of-result c =
    let none = ap (map (stored c.new.result.items)) c.new-2.ensures.items in
    (nothing_drafted _ _ c.new.ensures.items c.new-2.ensures.items, no_places _ _ _ c.new-3.ensures.clauses c.new-3.ensures.parities none, none_assumed _ _ c.new-4.ensures none)
