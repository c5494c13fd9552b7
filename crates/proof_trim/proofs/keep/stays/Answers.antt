use Rattle.std.proofs.Common.{rules}
use Rattle.proof_trim.proofs.keep.stays.Goals as goal

pub returns-in-DeleteParities : goal.returns-in-DeleteParities
returns-in-DeleteParities c = search rules
