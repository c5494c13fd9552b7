use Rattle.std.proofs.Common.{◌∙◌, sym, ap, ◌≤◌, length, drop, take, arith, length-drop}
use Rattle.std.specs.List.{list_all}
use Rattle.std.specs.Str.Parse.{digits_value}
use Rattle.cx_texts.specs.Words.{is_digit}
use Rattle.cx_texts.proofs.Slices.{part_behind}
use Rattle.cx_texts.proofs.FrontLaws.{bool_byte_small, signed_front}
use Rattle.cnfx_reader.proofs.leading_integer.leading_integer.Goals as goal

pub returns-then-is_blank_byte : goal.returns-then-is_blank_byte
returns-then-is_blank_byte c =
    let text = c.args.text.now in
    let first = c.from-first.result in
    let digits = c.short_digits-digits in
    let len = digits.result.len in
    let small : first ≤ 1 = omega (arith, c.from-first.ensures, bool_byte_small c.has_minus-negative.result) in
    let behind = part_behind text first in
    let high : len ≤ length (drop first text) = omega (arith, length-drop first text) in
    let front = signed_front c.has_minus-negative.result text first len digits.result.value c.from-first.ensures c.has_minus-negative.ensures c.if-digits-gt0.true high
    (ap (λ xs. list_all is_digit (take len xs)) (sym behind) ∙ digits.ensures.digits)
    (digits.ensures.value ∙ ap (λ xs. digits_value 10 (take len xs)) behind) in
    (omega arith, omega arith, front.0, sym c.is_blank_byte.ensures ∙ c.if-is_blank_byte.true, (_, c.small_integer.ensures, front.1))
