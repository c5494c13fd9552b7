use Rattle.std.proofs.Common.{◌≡◌, ◌∙◌, sym, ap, ℕ, zero, suc, Bool, true, false, nat_abs, ◌≤◌, length, drop, take, arith, length-drop, refl, subst, Some}
use Rattle.std.specs.List.{list_all}
use Rattle.std.specs.Str.Parse.{digits_value}
use Rattle.cx_base.specs.Integers.{signed}
use Rattle.cx_texts.specs.Words.{is_digit}
use Rattle.cx_texts.proofs.Slices.{part_behind}
use Rattle.cx_texts.proofs.FrontLaws.{bool_byte_small, signed_front}
use Rattle.step_text.specs.Seen.{limit}
use Rattle.step_text.proofs.Taken.{read_back}
use Rattle.step_text.proofs.short_integer.short_integer.Goals as goal

size_of_signed : (negative : Bool) (n : ℕ) → nat_abs (signed negative n) ≡ n
size_of_signed false n = refl
size_of_signed true zero = refl
size_of_signed true (suc n) = refl

pub returns : goal.returns
returns c =
    let text = c.args.text.now in
    let first = c.from-first.result in
    let digits = c.few_digits-digits in
    let len = digits.result.len in
    let small : first ≤ 1 = omega (arith, c.from-first.ensures, bool_byte_small c.has_minus-negative.result) in
    let behind = part_behind text first in
    let high : len ≤ length (drop first text) = omega (arith, length-drop first text) in
    let front = signed_front c.has_minus-negative.result text first len digits.result.value c.from-first.ensures c.has_minus-negative.ensures (omega (arith, c.if-digits-eq0.false)) high
    (ap (λ xs. list_all is_digit (take len xs)) (sym behind) ∙ digits.ensures.digits)
    (digits.ensures.value ∙ ap (λ xs. digits_value 10 (take len xs)) behind) in
    let value = signed c.has_minus-negative.result digits.result.value in
    let size : nat_abs value ≤ limit = omega (arith, size_of_signed c.has_minus-negative.result digits.result.value, digits.ensures.small) in
    let back = read_back value c.signed_value.result (sym c.signed_value.ensures) size in
    record {
      some = omega (arith, c.if-digits-eq0.false);
      inside = omega arith;
      run = front.0;
      blank = sym c.is_blank_byte.ensures ∙ c.if-not-is_blank_byte.false;
      reads = front.1 ∙ ap Some (sym back);
      small = subst (λ z. nat_abs z ≤ limit) (sym back) size;
    }
