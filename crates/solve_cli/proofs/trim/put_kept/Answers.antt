use Rattle.std.proofs.Common.{sym, subst}
use Rattle.cx_base.specs.declared.steps.ProofStep.{ProofStep}
use Rattle.cx_desk.specs.Calls.{PutsAll}
use Rattle.cx_desk.specs.declared.desk.Port.TheVariants as port
use Rattle.cx_texts.specs.Grammar.{spelling}
use Rattle.cx_texts.specs.ProofText.{proof_steps}
use Rattle.cx_texts.specs.Printed.{printed_line, HasProofText}
use Rattle.solve_cli.proofs.trim.put_kept.Goals as goal

pub put_step_ref-requires : goal.put_step_ref-requires
put_step_ref-requires g c = subst (λ (s : ProofStep). HasProofText s) (sym c.step.ensures) c.requires

pub returns : goal.returns
returns g c =
    subst (λ (s : ProofStep). PutsAll port.Proof (printed_line (spelling proof_steps s)) (g.D.Desk.outside c.args.desk.now) c.put_step_ref.result (g.D.Desk.outside c.put_step_ref.new.desk)) c.step.ensures
    c.put_step_ref.ensures
