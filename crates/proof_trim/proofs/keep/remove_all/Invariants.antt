use Rattle.std.proofs.Common.{◌≡◌, drop, not, ◌&&◌}
use Rattle.proof_trim.specs.Names.{Name}
use Rattle.proof_trim.specs.NameSets.{has_name, named_as}
use Rattle.proof_trim.proofs.keep.remove_all.Given as goal

abbrev pub invariant-loop-id : goal.invariant-loop-id
invariant-loop-id l = (name : Name) → (not (named_as l.kind (drop l.id-index l.ids) name) && has_name l.live name) ≡ (not (named_as l.kind l.ids name) && has_name l.fn.live name)
