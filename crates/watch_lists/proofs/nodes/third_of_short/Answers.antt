use Rattle.std.proofs.Common.{ap, sym, ◌∙◌, eqb-true}
use Rattle.cx_base.proofs.LiteralLaws.{same_code}
use Rattle.watch_lists.specs.declared.lists.Side.{Side}
use Rattle.watch_lists.specs.Watching.{third_at}
use Rattle.watch_lists.proofs.nodes.third_of_short.Goals as goal

pub returns-then-eq : goal.returns-then-eq
returns-then-eq c = (
  ap (λ (s : Side). s.third) c.side-mine.ensures,
  same_code _ _ (eqb-true _ _ (sym c.if-eq.ensures)) ∙ ap (λ (s : Side). s.third) c.side-other.ensures ∙ ap (third_at c.args.lists.now.held) c.partner_of-partner.ensures,
)
