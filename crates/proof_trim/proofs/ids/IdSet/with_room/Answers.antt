use Rattle.proof_trim.proofs.IdLaws.{has_none}
use Rattle.proof_trim.proofs.ids.IdSet.with_room.Goals as goal

pub returns : goal.returns
returns c = has_none c.args.room c.beside.result c.beside.ensures c.in_ok-vec.field-0.items (c.in_ok-vec.ensures.items_if_clones_equal (λ y e. e))
