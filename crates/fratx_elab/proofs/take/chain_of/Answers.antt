use Rattle.std.proofs.Common.{rules}
use Rattle.fratx_elab.proofs.take.chain_of.Goals as goal

pub returns-clause-chain : goal.returns-clause-chain
returns-clause-chain c = search rules
