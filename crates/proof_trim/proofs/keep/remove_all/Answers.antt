use Rattle.std.proofs.Common.{refl}
use Rattle.proof_trim.specs.NameSets.{has_name}
use Rattle.proof_trim.proofs.RemoveLaws.{remove_more, remove_done}
use Rattle.proof_trim.proofs.keep.remove_all.Goals as goal

pub loop-id-init : goal.loop-id-init
loop-id-init c = λ name. refl

pub loop-id-preserved : goal.loop-id-preserved
loop-id-preserved c = λ name.
    remove_more c.args.kind _ name c.loop-id.id-index (has_name c.loop-id.live name) (has_name c.remove.new.self name) c.args.ids.now 0 c.loop-id-test.true (c.loop-id.invariant name) (c.remove.ensures name)

pub returns : goal.returns
returns c = λ name.
    remove_done c.args.kind _ name c.loop-id.id-index (has_name c.loop-id.live name) (has_name c.loop-id.live name) c.args.ids.now c.loop-id-test.false (c.loop-id.invariant name)
