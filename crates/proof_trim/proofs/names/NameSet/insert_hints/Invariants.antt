use Rattle.std.proofs.Common.{◌≡◌, ◌||◌}
use Rattle.proof_trim.specs.Integers.{part}
use Rattle.proof_trim.specs.Names.{Name}
use Rattle.proof_trim.specs.NameSets.{has_name, hinted_as}
use Rattle.proof_trim.proofs.names.NameSet.insert_hints.Given as goal

abbrev pub invariant-loop-place : goal.invariant-loop-place
invariant-loop-place l = (name : Name) → (hinted_as l.kind (part l.packed l.place l.end) name || has_name l.self name) ≡ (hinted_as l.kind (part l.packed l.start l.end) name || has_name l.fn.self name)
