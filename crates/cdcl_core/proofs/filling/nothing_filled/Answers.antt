use Rattle.std.proofs.Common.{sym, subst, None}
use Rattle.cdcl_core.specs.Filling.{IsEmpty, IsFilledUpTo}
use Rattle.cdcl_core.proofs.FilledClauses.{nothing_is_filled}
use Rattle.cdcl_core.proofs.filling.nothing_filled.Goals as goal

pub returns : goal.returns
returns c =
    let k = c.in_ok-state.state in
    subst (λ us. IsFilledUpTo c.args.formula.now 0 k us None) (sym c.new.ensures.items)
    (nothing_is_filled c.args.formula.now k (subst (λ n. IsEmpty n k) c.vars.ensures.variables c.in_ok-state.ensures))
