use Rattle.std.proofs.Common.{sym, ◌∙◌, ap, ◌∷◌, []}
use Rattle.inst_gen.proofs.Steps.{clause_kept, clause_changed}
use Rattle.inst_gen.proofs.drawing.clause.Goals as goal

pub returns-then-has_true : goal.returns-then-has_true
returns-then-has_true c = clause_kept _ _ (sym c.has_true.ensures ∙ c.if-has_true.true)

pub returns-else-has_true : goal.returns-else-has_true
returns-else-has_true c = ap (λ l. l ∷ c.args.drawn.second ∷ c.args.drawn.third ∷ []) c.negate.ensures ∙ clause_changed _ _ (sym c.has_true.ensures ∙ c.if-has_true.false)
