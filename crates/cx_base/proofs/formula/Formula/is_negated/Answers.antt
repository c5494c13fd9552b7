use Rattle.std.proofs.Common.{◌≡◌, sym, ◌≤◌, nat_abs, arith, rules}
use Rattle.cx_base.specs.Literals.{negate}
use Rattle.cx_base.specs.Integers.{literal}
use Rattle.cx_base.specs.declared.literal.TheConstants.{MAX_VARIABLE}
use Rattle.cx_base.proofs.AssumedLaws.{outside_is_not_assumed}
use Rattle.cx_base.proofs.formula.Formula.is_negated.Goals.{then-size-eq0-via-then-size-eq0, then-size-eq0-via-else-size-eq0+then-size-from}
use Rattle.cx_base.proofs.formula.Formula.is_negated.Goals as goal

pub returns-then-size-eq0 : goal.returns-then-size-eq0
returns-then-size-eq0 c =
    let z = c.args.integer in
    let size : c.unsigned_abs-size.result ≡ nat_abs z = search rules in
    sym (outside_is_not_assumed c.args.self.now.variables c.args.self.now.constraints (negate (literal z)) c.vars-vars.ensures.within (λ h. let low : 1 ≤ nat_abs z = h.0 in let high : nat_abs z ≤ MAX_VARIABLE = h.1 in elim c.then-size-eq0.branch [
      | then-size-eq0-via-then-size-eq0 w ↦ omega (arith, low, size, w.if-size-eq0.true)
      | then-size-eq0-via-else-size-eq0+then-size-from w ↦ omega (arith, high, size, w.from.ensures, w.if-size-from.true)
    ]))
