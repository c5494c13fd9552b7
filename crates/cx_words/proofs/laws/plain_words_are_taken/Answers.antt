use Rattle.cx_words.proofs.PlanLaws.{not_refused, plain_asked}
use Rattle.cx_words.proofs.laws.plain_words_are_taken.Goals as goal

pub returns : goal.returns
returns c = record { asked = plain_asked; taken = λ words plan h. not_refused words plan (plain_asked words plan h) }
