use Rattle.std.proofs.Common.{◌*◌, ◌∙◌, ℕ, ap, sym, refl}
use Rattle.clause_tidy.proofs.room.TidyRoom.empty.Goals as goal

pub returns-clause-marks : goal.returns-clause-marks
returns-clause-marks c = record { long = c.in_ok-look.ensures.room ∙ ap (λ (n : ℕ). 2 * n) (sym c.in_ok-index.ensures.lists); clear = c.in_ok-look.ensures.clear }

pub returns-clause-from : goal.returns-clause-from
returns-clause-from c = (refl, refl)
