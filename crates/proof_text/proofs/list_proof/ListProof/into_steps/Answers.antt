use Rattle.std.proofs.Common.{subst}
use Rattle.std.specs.List.{AllByRecursion}
use Rattle.cx_texts.specs.Printed.{HasProofText}
use Rattle.cx_texts.proofs.PrintedProofs.{printed_proof_reads}
use Rattle.proof_text.proofs.list_proof.ListProof.into_steps.Goals as goal

pub returns-clause-printed : goal.returns-clause-printed
returns-clause-printed c = printed_proof_reads c.args.self (subst (AllByRecursion HasProofText) c.self.view_is c.self.invariant)
