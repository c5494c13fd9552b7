use Rattle.std.proofs.lemmas.Result.{IfOk-from_err}
use Rattle.proof_rules.proofs.live.Live.of.Goals as goal

pub returns : goal.returns
returns c = λ i. record { clauses = c.in_ok-of.ensures i; parities = c.in_ok-of-2.ensures i }

pub returns-in_err-of : goal.returns-in_err-of
returns-in_err-of c = IfOk-from_err _ _ c.from_residual.ensures.0

pub returns-in_err-of-2 : goal.returns-in_err-of-2
returns-in_err-of-2 c = IfOk-from_err _ _ c.from_residual-in_err-of-2.ensures.0
