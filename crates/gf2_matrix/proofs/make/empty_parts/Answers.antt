use Rattle.std.proofs.Common.{[], ◌∷◌, length, length-append, ap, ◌∙◌, arith}
use Rattle.gf2_matrix.specs.declared.packed.Part.{Part}
use Rattle.gf2_matrix.specs.Made.{IsEmptyPart}
use Rattle.gf2_matrix.proofs.Updates.{pushed_more}
use Rattle.gf2_matrix.proofs.make.empty_parts.Goals as goal

pub loop-init : goal.loop-init
loop-init c = (ap length c.in_ok-parts.ensures.items, λ p d lt. absurd (omega arith))

pub loop-preserved : goal.loop-preserved
loop-preserved c =
    let part : Part = record { base = 0; columns = c.new.result; numbers = c.new-in-loop.result; sources = c.new-in-loop-2.result } in
    let is = c.in_ok-push.ensures.items in
    let same = c.loop.invariant.0 in (
      ap length is ∙ length-append c.loop.parts.items (part ∷ []) ∙ omega arith,
      pushed_more IsEmptyPart c.loop.parts.items c.push.new.self.items part c.loop.counter is same c.loop.invariant.1
          (record { columns = c.new.ensures.items; numbers = c.new-in-loop.ensures.items }),
    )

pub returns-clause-count : goal.returns-clause-count
returns-clause-count c = let same = c.loop.invariant.0 in let end = c.loop.auto.counter-end in let t = c.loop-test.false in omega arith

pub returns-clause-empty : goal.returns-clause-empty
returns-clause-empty c = let t = c.loop-test.false in λ p d lt. c.loop.invariant.1 p d (omega arith)
