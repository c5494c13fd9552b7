use Rattle.std.proofs.Common.{ap}
use Rattle.cx_trail.specs.declared.entry.Entry.{Entry}
use Rattle.cx_trail.proofs.trail.Trail.level_of.Goals as goal

pub returns : goal.returns
returns c e w = ap (λ (x : Entry). x.level) (c.entry_of.ensures e w)
