use Rattle.cx_words.proofs.Fits.{fit}
use Rattle.cx_words.proofs.PlanLaws.{not_refused, one_plan, refused_or_asked}
use Rattle.cx_words.proofs.laws.words_ask_for_one_plan.Goals as goal

pub returns : goal.returns
returns c = record { one = one_plan; fit = fit; either = not_refused; some = refused_or_asked }
