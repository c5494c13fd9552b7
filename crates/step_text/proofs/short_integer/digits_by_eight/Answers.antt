use Rattle.std.proofs.Common.{◌≤◌, length, arith}
use Rattle.std.proofs.lemmas.List.{length-take}
use Rattle.cx_texts.proofs.FrontLaws.{few_digits}
use Rattle.step_text.proofs.ByEight.{are_digits, their_value}
use Rattle.step_text.proofs.short_integer.digits_by_eight.Goals as goal

pub returns-clause-digits : goal.returns-clause-digits
returns-clause-digits c =
    let read = c.read_digits-len in
    are_digits c.args.text.now read.result.0 read.ensures.end (omega (arith, read.ensures.within, length-take 18 c.args.text.now))

pub returns-clause-value : goal.returns-clause-value
returns-clause-value c =
    let read = c.read_digits-len in
    let few : read.result.0 ≤ 18 = omega (arith, read.ensures.within, length-take 18 c.args.text.now) in
    let inside : read.result.0 ≤ length c.args.text.now = omega (arith, few, c.requires) in
    their_value c.args.text.now read.result.0 read.ensures.end few read.result.1 inside read.ensures.value

pub returns-clause-small : goal.returns-clause-small
returns-clause-small c =
    let read = c.read_digits-len in
    let text = c.args.text.now in
    let few : read.result.0 ≤ 18 = omega (arith, read.ensures.within, length-take 18 c.args.text.now) in
    let inside : read.result.0 ≤ length text = omega (arith, few, c.requires) in
    few_digits text read.result.0 read.result.1 18 few inside (are_digits text read.result.0 read.ensures.end few) (their_value text read.result.0 read.ensures.end few read.result.1 inside read.ensures.value)
