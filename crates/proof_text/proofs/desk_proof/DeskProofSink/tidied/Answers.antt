use Rattle.std.proofs.Common.{refl}
use Rattle.proof_text.specs.ToldSteps.{goes_itself}
use Rattle.proof_text.proofs.desk_proof.DeskProofSink.tidied.Goals as goal

pub returns-clause-frame : goal.returns-clause-frame
returns-clause-frame g c = (refl, goes_itself c.args.self.now.failed (g.D.Desk.outside c.args.self.now.desk.now))
