use Rattle.std.proofs.Common.{sym, subst, List}
use Rattle.std.specs.List.{AllByRecursion}
use Rattle.cx_base.specs.declared.steps.ProofStep.{ProofStep}
use Rattle.proof_trim.specs.Stored.{FitsIn}
use Rattle.proof_trim.proofs.StoreLaws.{all_fit, if_ok}
use Rattle.proof_trim.proofs.store.StepStore.opened.Goals as goal

pub returns : goal.returns
returns c =
    let fit = all_fit c.self.inside.integers 0 c.self.inside.ends c.self.inside.longest c.self.invariant.0 in
    let here = subst (λ (steps : List ProofStep). AllByRecursion (FitsIn c.self.inside.longest) steps) c.self.view_is fit in
    if_ok c.with_room.result _ _ (λ opened e. subst (λ room. AllByRecursion (FitsIn room) c.args.self.now) (sym e) here) c.with_room.ensures
