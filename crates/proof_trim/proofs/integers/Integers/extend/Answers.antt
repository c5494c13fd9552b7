use Rattle.std.proofs.Common.{sym, append-nil, get_or, pos, w64, rules}
use mir.Val.{SFits}
use Rattle.std.proofs.lemmas.Int.{to_z-of_z}
use Rattle.proof_trim.proofs.PartLaws.{put_more, put_all}
use Rattle.proof_trim.proofs.integers.Integers.extend.Goals as goal

pub loop-integer-init : goal.loop-integer-init
loop-integer-init c = sym (append-nil c.args.self.now)

pub loop-integer-preserved : goal.loop-integer-preserved
loop-integer-preserved c =
    let here = get_or c.args.more.now c.loop-integer.integer-index (pos 0) in
    let fits : SFits w64 here = search rules in
    put_more c.args.self.now c.args.more.now c.loop-integer.self c.push.new.self c.loop-integer.integer-index _ c.loop-integer-test.true (to_z-of_z w64 here fits) c.loop-integer.invariant c.in_ok-push.ensures

pub returns : goal.returns
returns c = put_all c.args.self.now c.args.more.now c.loop-integer.self c.loop-integer.integer-index c.loop-integer-test.false c.loop-integer.invariant
