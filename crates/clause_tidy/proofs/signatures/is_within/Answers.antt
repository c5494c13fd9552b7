use Rattle.std.proofs.Common.{ℕ, ap, nat_eq, arith}
use Rattle.clause_tidy.proofs.Literals.{not_both}
use Rattle.clause_tidy.proofs.SignatureLaws.{other_bit}
use Rattle.clause_tidy.proofs.signatures.is_within.Goals as goal

pub returns : goal.returns
returns c = λ h. other_bit c.args.part c.args.whole (omega arith) (omega arith) (λ e. not_both _ (ap (λ (m : ℕ). nat_eq m 0) e) h)
