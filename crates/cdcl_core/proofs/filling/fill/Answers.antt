use Rattle.std.proofs.Common.{subst, length, arith}
use Rattle.std.proofs.lemmas.List.{take_all}
use Rattle.cx_base.specs.Problem.{clauses_of}
use Rattle.cdcl_core.specs.Filling.{IsFilledUpTo}
use Rattle.cdcl_core.proofs.FilledClauses.{none_counted}
use Rattle.cdcl_core.proofs.filling.fill.Goals as goal

pub loop-place-init : goal.loop-place-init
loop-place-init c = subst (λ n. IsFilledUpTo c.args.formula.now n c.args.filled.now.state c.args.filled.now.units.items c.args.filled.now.empty) none_counted c.requires.none

pub returns : goal.returns
returns c =
    let far = c.loop-place-test.false in
    let long = c.len-place-end.ensures.len in
    subst (λ cs. IsFilledUpTo c.args.formula.now (length (clauses_of cs)) c.loop-place.filled.state c.loop-place.filled.units.items c.loop-place.filled.empty)
    (take_all c.loop-place.place c.args.formula.now.constraints (omega (arith, far, long))) c.loop-place.invariant
