use Rattle.std.proofs.Common.{◌∙◌, sym}
use Rattle.cdcl_core.proofs.TautologyLaws.{none_added, one_added}
use Rattle.cdcl_core.proofs.tautologies.add_tautology.Goals as goal

pub returns-then-not-has_both : goal.returns-then-not-has_both
returns-then-not-has_both c = λ formula n a next at i. none_added formula n c.args.number next c.args.lits.now at a c.args.arena.now i (sym c.has_both.ensures ∙ c.if-not-has_both.true)

pub returns : goal.returns
returns c = λ formula n a next at i. one_added formula n c.args.number next c.args.lits.now at a c.args.arena.now i (sym c.has_both.ensures ∙ c.if-not-has_both.false) c.add.new.self c.in_ok-add.ensures.added
