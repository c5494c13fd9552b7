use Rattle.std.proofs.Common.{◌∙◌, ap, sym, ◌++◌, ◌∷◌, [], List, arith}
use Rattle.std.specs.List.{list_any}
use Rattle.cx_base.specs.declared.steps.ProofStep.{ProofStep}
use Rattle.proof_trim.specs.Puts.{is_deletion}
use Rattle.proof_trim.specs.Stored.{steps_at}
use Rattle.proof_trim.proofs.PassLaws.{still_none}
use Rattle.proof_trim.proofs.StoreLaws.{told_stored, told_steps}
use Rattle.proof_trim.proofs.store.StepStoreRecorder.tell.Goals as goal

pub invariant_of-self : goal.invariant_of-self
invariant_of-self c =
    let old = c.self.inside in
    let new = c.pack_with_end.new in
    let most = c.max-self-inside.ensures in
    let steps =
    told_steps old.integers new.integers old.ends new.ends c.args.step.now old.longest c.max-self-inside.result c.in-Ok.ensures.step c.in-Ok.ensures.end c.self.invariant.0 (omega (arith, most))
    (omega (arith, most, c.len.ensures, c.len-start.ensures)) in (
      told_stored old.integers new.integers old.ends new.ends c.args.step.now old.longest c.max-self-inside.result c.in-Ok.ensures.step c.in-Ok.ensures.end c.self.invariant.0 (omega (arith, most))
          (omega (arith, most, c.len.ensures, c.len-start.ensures)),
      λ no. ap (list_any is_deletion) steps ∙ still_none (steps_at old.integers 0 old.ends) c.args.step.now old.deletes c.self.invariant.1 (sym c.some_deletes-self-inside.ensures ∙ no),
    )

pub returns-in-Ok : goal.returns-in-Ok
returns-in-Ok c = λ before same.
    let old = c.self.inside in
    let new = c.pack_with_end.new in
    let most = c.max-self-inside.ensures in
    told_steps old.integers new.integers old.ends new.ends c.args.step.now old.longest c.max-self-inside.result c.in-Ok.ensures.step c.in-Ok.ensures.end c.self.invariant.0 (omega (arith, most))
    (omega (arith, most, c.len.ensures, c.len-start.ensures))
    ∙ ap (λ (steps : List ProofStep). steps ++ c.args.step.now ∷ []) (c.self.view_is ∙ same)
