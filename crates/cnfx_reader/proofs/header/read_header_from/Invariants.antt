use Rattle.std.proofs.Common.{◌≡◌, length}
use Rattle.cnfx_reader.specs.HeaderParts.{header_from, IsPartWithin}
use Rattle.cnfx_reader.proofs.header.read_header_from.Given as goal

abbrev pub invariant-loop-token : goal.invariant-loop-token
invariant-loop-token l = IsPartWithin l.lacks × (header_from l.fn.part l.len l.fn.tokens ≡ header_from l.lacks l.len l.tokens)

abbrev pub decreases-loop-token : goal.decreases-loop-token
decreases-loop-token l = length l.tokens
