use Rattle.std.proofs.Common.{rules}
use Rattle.cnfx_reader.proofs.header_token.take_vars.Goals as goal

pub returns-else-vars-from-clause-read : goal.returns-else-vars-from-clause-read
returns-else-vars-from-clause-read c = search rules

pub returns-else-vars-from-clause-within : goal.returns-else-vars-from-clause-within
returns-else-vars-from-clause-within c = search rules
