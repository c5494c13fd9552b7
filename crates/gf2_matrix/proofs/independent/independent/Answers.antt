use Rattle.std.proofs.Common.{◌∙◌, ◌+◌, ◌++◌, sym, subst, length, arith}
use Rattle.std.specs.List.{range_with_len}
use Rattle.parity_engine.specs.Written.{AreRising}
use Rattle.gf2_matrix.specs.Enough.{SayFirst}
use Rattle.gf2_matrix.proofs.Choosing.{say_range}
use Rattle.gf2_matrix.proofs.Renaming.{rise_within}
use Rattle.gf2_matrix.proofs.independent.independent.Goals as goal

pub enough_of-requires-clause-rise : goal.enough_of-requires-clause-rise
enough_of-requires-clause-rise c =
    let given = c.args.parities.now in
    let from = c.loop-from.from in
    let more = c.min-more.result in
    let len = c.len.ensures in
    let least = c.min-more.ensures in
    let before = c.loop-from.invariant.0 in
    let first = say_range c.args.vars given more c.loop-from.numbers.items from c.loop-from.invariant.1 in
    rw c.deref.ensures.value
    (subst (AreRising 1 (length given)) (sym c.in_ok-add_range.ensures)
    (rise_within 1 (from + more) (length given) (c.loop-from.numbers.items ++ range_with_len (from + 1) more) first.rise (omega arith)))

pub loop-from-preserved : goal.loop-from-preserved
loop-from-preserved c =
    let given = c.args.parities.now in
    let from = c.loop-from.from in
    let more = c.min-more.result in
    let len = c.len.ensures in
    let least = c.min-more.ensures in
    let before = c.loop-from.invariant.0 in
    let first = say_range c.args.vars given more c.loop-from.numbers.items from c.loop-from.invariant.1 in (
      omega arith,
      c.in_ok-numbers.ensures (from + more) (subst (λ ns. SayFirst c.args.vars given ns (from + more)) (sym (c.deref.ensures.value ∙ c.in_ok-add_range.ensures)) first),
    )
