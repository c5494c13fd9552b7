use Rattle.std.proofs.Common.{sym, subst, ◌∙◌}
use Rattle.std.specs.List.{All}
use Rattle.std.proofs.lemmas.List.{take_all}
use Rattle.std.proofs.lemmas.List.Elements.{All-more}
use Rattle.tidy_rules.specs.Parts.{IsTidyBeside, IsUntidyAt}
use Rattle.tidy_rules.proofs.PartLaws.{when_none}
use Rattle.tidy_rules.proofs.finding.first_untidy.Goals as goal

pub loop-part-preserved : goal.loop-part-preserved
loop-part-preserved c =
    let a = c.args.arena.now in
    let parts = c.args.parts.now in
    let tidy = when_none (IsTidyBeside a parts c.part-item.result) (IsUntidyAt a parts c.part-item.result) c.untidy_at-found.result (sym c.is_some.ensures ∙ c.if-is_some.false) c.untidy_at-found.ensures in
    All-more (IsTidyBeside a parts) parts c.loop-part.part-index c.part-item.result c.loop-part-test.true c.loop-part.invariant (subst (IsTidyBeside a parts) c.part-item.is tidy)

pub returns : goal.returns
returns c = subst (λ ps. All (IsTidyBeside c.args.arena.now c.args.parts.now) ps) (take_all c.loop-part.part-index c.args.parts.now c.loop-part-test.false) c.loop-part.invariant
