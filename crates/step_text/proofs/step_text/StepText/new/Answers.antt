use Rattle.std.proofs.Common.{sym, subst, length, arith}
use Rattle.step_text.specs.Texts.{RisesTo}
use Rattle.cx_texts.specs.Words.{placed_words}
use Rattle.step_text.proofs.Places.{tokens_rise}
use Rattle.step_text.proofs.step_text.StepText.new.Goals as goal

pub invariant_of-result : goal.invariant_of-result
invariant_of-result g c = (subst (λ ts. RisesTo (length c.args.text.now) 0 (placed_words ts)) (sym c.new.ensures) (tokens_rise c.args.text.now), (omega arith, c.requires))
