use Rattle.std.proofs.Common.{refl, sym, append-nil}
use Rattle.proof_trim.proofs.PartLaws.{put_id_more, put_all_ids}
use Rattle.proof_trim.proofs.integers.Integers.extend_ids.Goals as goal

pub loop-id-init : goal.loop-id-init
loop-id-init c = sym (append-nil c.args.self.now)

pub loop-id-preserved : goal.loop-id-preserved
loop-id-preserved c =
    put_id_more c.args.self.now c.loop-id.self c.push_id.new.self c.args.ids.now c.loop-id.id-index _ c.loop-id-test.true refl c.loop-id.invariant c.in_ok-push_id.ensures

pub returns : goal.returns
returns c = put_all_ids c.args.self.now c.loop-id.self c.args.ids.now c.loop-id.id-index c.loop-id-test.false c.loop-id.invariant
