use Rattle.std.proofs.Common.{◌≡◌, ◌<◌, refl, ap, ℤ, pos, negsuc, nat_abs, decimal, ◌∷◌, ◌++◌, ◌+◌, ◌-◌, arith, drop, to_z-of_z, int_lt, true, false, true≢false}
use Rattle.std.proofs.lemmas.Bool.{ltb-true}
use Rattle.std.proofs.lemmas.Fmt.{length-decimal-le}
use Rattle.std.proofs.lemmas.List.{drop-set, drop-set-lt}
use Rattle.cx_texts.specs.Printed.{printed_integer}
use Rattle.step_text.proofs.lay_out.lay_out_signed.Goals as goal

plain : (z : ℤ) → int_lt z (pos 0) ≡ false → decimal (nat_abs z) ≡ printed_integer z
plain (pos n) h = refl
plain (negsuc n) h = absurd (true≢false h)

minus : (z : ℤ) → int_lt z (pos 0) ≡ true → 45 ∷ decimal (nat_abs z) ≡ printed_integer z
minus (pos n) h = let none : n < 0 = ltb-true n 0 h in absurd (omega arith)
minus (negsuc n) h = refl

pub overflow_sub-sheet : goal.overflow_sub-sheet
overflow_sub-sheet c = omega (arith, c.lay_out_number-digits.ensures.begin, length-decimal-le 19 c.unsigned_abs.result (omega arith) (omega arith) (omega arith))

pub overflow_sub-result : goal.overflow_sub-result
overflow_sub-result c = omega (arith, c.lay_out_number-digits.ensures.begin, length-decimal-le 19 c.unsigned_abs.result (omega arith) (omega arith) (omega arith))

pub returns-then-integer-lt0-clause-low : goal.returns-then-integer-lt0-clause-low
returns-then-integer-lt0-clause-low c = omega (arith, c.lay_out_number-digits.ensures.begin, length-decimal-le 19 c.unsigned_abs.result (omega arith) (omega arith) (omega arith))

pub returns-else-integer-lt0-clause-low : goal.returns-else-integer-lt0-clause-low
returns-else-integer-lt0-clause-low c = omega (arith, c.lay_out_number-digits.ensures.begin, length-decimal-le 19 c.unsigned_abs.result (omega arith) (omega arith) (omega arith))

pub returns-else-integer-lt0-clause-laid : goal.returns-else-integer-lt0-clause-laid
returns-else-integer-lt0-clause-laid c =
    let w = c.lay_out_number-digits in
    let long = length-decimal-le 19 c.unsigned_abs.result (omega arith) (omega arith) (omega arith) in
    let back = to_z-of_z c.ranges.integer in
    let free : w.result - 1 < w.result = omega (arith, w.ensures.begin, long) in
    rw (drop-set-lt w.result w.new.sheet (w.result - 1) 45 free, w.ensures.laid, c.unsigned_abs.ensures.value, back)
    (ap (λ text. text ++ drop c.args.end c.args.sheet.now) (plain c.args.integer (rw back at c.if-integer-lt0.false)))

pub returns-then-integer-lt0-clause-laid : goal.returns-then-integer-lt0-clause-laid
returns-then-integer-lt0-clause-laid c =
    let w = c.lay_out_number-digits in
    let long = length-decimal-le 19 c.unsigned_abs.result (omega arith) (omega arith) (omega arith) in
    let e : w.result - 1 + 1 ≡ w.result = omega (arith, w.ensures.begin, long) in
    let back = to_z-of_z c.ranges.integer in
    rw (drop-set w.new.sheet (w.result - 1) 45 (omega (arith, w.ensures.begin, long)), e, w.ensures.laid, c.unsigned_abs.ensures.value, back)
    (ap (λ text. text ++ drop c.args.end c.args.sheet.now) (minus c.args.integer (rw back at c.if-integer-lt0.true)))
