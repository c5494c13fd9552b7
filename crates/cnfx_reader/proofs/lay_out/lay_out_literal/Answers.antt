use Rattle.std.proofs.Common.{◌≡◌, ◌≤◌, ◌∙◌, sym, ap, ℕ, List, [], ◌∷◌, ◌++◌, ◌+◌, ◌-◌, arith, set, decimal, drop, length, length-set, append_assoc}
use Rattle.std.proofs.lemmas.Fmt.{length-decimal-le}
use Rattle.std.proofs.lemmas.List.{drop-set, drop-set-lt}
use Rattle.cnfx_reader.specs.PrintedFormula.{literal_text}
use Rattle.cnfx_reader.proofs.Puts.{plain_text, minus_text}
use Rattle.cnfx_reader.proofs.lay_out.lay_out_literal.Goals as goal

-- digits are laid out before a space
module _ (n place end : ℕ) (before after : List ℕ) (room : 1 ≤ end) (within : end ≤ length before)
    (laid : drop place after ≡ decimal n ++ drop (end - 1) (set before (end - 1) 32)) where
  digits_laid : drop place after ≡ (decimal n ++ 32 ∷ []) ++ drop end before
  digits_laid =
      let next : end - 1 + 1 ≡ end = omega arith in
      let space : drop (end - 1) (set before (end - 1) 32) ≡ 32 ∷ drop end before = drop-set before (end - 1) 32 (omega arith) ∙ ap (λ i. 32 ∷ drop i before) next in
      laid ∙ ap (λ t. decimal n ++ t) space ∙ sym (append_assoc (decimal n) (32 ∷ []) (drop end before))

  plain_laid : 1 ≤ place → drop place (set after (place - 1) 45) ≡ (decimal n ++ 32 ∷ []) ++ drop end before
  plain_laid low = drop-set-lt place after (place - 1) 45 (omega arith) ∙ digits_laid

  minus_laid : 1 ≤ place → place ≤ length after → drop (place - 1) (set after (place - 1) 45) ≡ (45 ∷ (decimal n ++ 32 ∷ [])) ++ drop end before
  minus_laid low high =
      let next : place - 1 + 1 ≡ place = omega arith in
      drop-set after (place - 1) 45 (omega arith) ∙ ap (λ i. 45 ∷ drop i after) next ∙ ap (λ t. 45 ∷ t) digits_laid

pub overflow_sub-sheet-2 : goal.overflow_sub-sheet-2
overflow_sub-sheet-2 c =
    let high = c.number.ensures.high in
    omega (arith, c.lay_out_number-digits.ensures.begin, length-decimal-le 9 c.from.result (omega arith) (omega arith) (omega arith))

pub overflow_sub-result : goal.overflow_sub-result
overflow_sub-result c =
    let high = c.number.ensures.high in
    omega (arith, c.lay_out_number-digits.ensures.begin, length-decimal-le 9 c.from.result (omega arith) (omega arith) (omega arith))

pub returns-then-is_negative-clause-low : goal.returns-then-is_negative-clause-low
returns-then-is_negative-clause-low c =
    let high = c.number.ensures.high in
    omega (arith, c.lay_out_number-digits.ensures.begin, length-decimal-le 9 c.from.result (omega arith) (omega arith) (omega arith))

pub returns-else-is_negative-clause-low : goal.returns-else-is_negative-clause-low
returns-else-is_negative-clause-low c =
    let high = c.number.ensures.high in
    omega (arith, c.lay_out_number-digits.ensures.begin, length-decimal-le 9 c.from.result (omega arith) (omega arith) (omega arith))

pub returns-then-is_negative-clause-laid : goal.returns-then-is_negative-clause-laid
returns-then-is_negative-clause-laid c =
    let high = c.number.ensures.high in
    let l = c.args.lit in
    let before = c.args.sheet.now in
    let w = c.lay_out_number-digits in
    let n : c.from.result ≡ l.variable = c.from.ensures ∙ c.number.ensures.number ∙ c.var.ensures in
    let long = length-decimal-le 9 c.from.result (omega arith) (omega arith) (omega arith) in
    let whole : length w.new.sheet ≡ length before = w.auto.sheet ∙ length-set before (c.args.end - 1) 32 in
    let text : 45 ∷ (decimal c.from.result ++ 32 ∷ []) ≡ literal_text l = ap (λ k. 45 ∷ (decimal k ++ 32 ∷ [])) n ∙ sym (minus_text l (omega (arith, n, c.number.ensures.low, c.from.ensures)) (sym c.is_negative.ensures ∙ c.if-is_negative.true)) in
    minus_laid c.from.result w.result c.args.end before w.new.sheet (omega arith) (omega arith) w.ensures.laid (omega (arith, w.ensures.begin, long)) (omega (arith, w.ensures.begin, whole))
    ∙ ap (λ t. t ++ drop c.args.end before) text

pub returns-else-is_negative-clause-laid : goal.returns-else-is_negative-clause-laid
returns-else-is_negative-clause-laid c =
    let high = c.number.ensures.high in
    let l = c.args.lit in
    let before = c.args.sheet.now in
    let w = c.lay_out_number-digits in
    let n : c.from.result ≡ l.variable = c.from.ensures ∙ c.number.ensures.number ∙ c.var.ensures in
    let long = length-decimal-le 9 c.from.result (omega arith) (omega arith) (omega arith) in
    let text : decimal c.from.result ++ 32 ∷ [] ≡ literal_text l = ap (λ k. decimal k ++ 32 ∷ []) n ∙ sym (plain_text l (sym c.is_negative.ensures ∙ c.if-is_negative.false)) in
    plain_laid c.from.result w.result c.args.end before w.new.sheet (omega arith) (omega arith) w.ensures.laid (omega (arith, w.ensures.begin, long))
    ∙ ap (λ t. t ++ drop c.args.end before) text
