use Rattle.std.proofs.Common.{refl, ap, ◌∙◌, min}
use Rattle.search_policy.proofs.AssumingLaws.{lower_keeps, higher_keeps}
use Rattle.search_policy.proofs.assumptions.Assumptions.back_to.Goals as goal

pub returns-then-level-self : goal.returns-then-level-self
returns-then-level-self c constraints old keeps low back =
    lower_keeps constraints c.args.self.now _ old c.args.trail.now keeps c.args.level low back refl (c.min-self.ensures ∙ ap (min c.args.self.now.checked) c.len.ensures.len) c.if-level-self.true refl refl

pub returns-else-level-self : goal.returns-else-level-self
returns-else-level-self c constraints old keeps low back =
    higher_keeps constraints c.args.self.now _ old c.args.trail.now keeps c.args.level low back refl (c.min-self.ensures ∙ ap (min c.args.self.now.checked) c.len.ensures.len) c.if-level-self.false refl refl
