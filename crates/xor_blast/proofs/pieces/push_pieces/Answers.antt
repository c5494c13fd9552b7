use Rattle.std.proofs.Common.{arith}
use Rattle.xor_blast.proofs.PushingLaws.{pushing_more, passes}
use Rattle.xor_blast.proofs.pieces.push_pieces.Goals as goal

pub returns-then-last-ge-MAX_VARIABLE : goal.returns-then-last-ge-MAX_VARIABLE
returns-then-last-ge-MAX_VARIABLE c =
    passes c.args.vars c.args.variables.now.items c.args.right c.args.builder.now c.loop-start.last c.loop-start.variables.items c.loop-start.start c.loop-start.builder 0
    c.loop-start.invariant (omega (arith, c.loop-start-test.true)) c.if-last-ge-MAX_VARIABLE.true

pub loop-start-preserved : goal.loop-start-preserved
loop-start-preserved c =
    pushing_more c.args.vars c.args.variables.now.items c.args.right c.args.builder.now c.loop-start.last c.loop-start.variables.items c.loop-start.start c.loop-start.builder c.push_piece.new.builder
    c.index.result.now c.index-in-loop-start.result.now c.index-in-loop-start-2.result.now
    c.loop-start.invariant (omega (arith, c.loop-start-test.true)) (omega (arith, c.if-last-ge-MAX_VARIABLE.false))
    c.index.ensures c.index-in-loop-start.ensures c.index-in-loop-start-2.ensures c.in_ok-push_piece.ensures
