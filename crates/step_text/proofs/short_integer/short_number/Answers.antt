use Rattle.std.proofs.Common.{◌≡◌, ◌∙◌, refl, sym, ap, subst, ℕ, zero, suc, ◌+◌, ◌<◌, ◌≤◌, Bool, true, false, true≢false, ◌&&◌, ◌==◌, eqb-true, List, [], ◌∷◌, pos, nat_abs, length, take, Some, arith}
use Rattle.std.specs.List.{list_all}
use Rattle.cx_texts.specs.Tokens.{is_blank, NoBlank}
use Rattle.cx_texts.specs.Words.{is_digit, integer}
use Rattle.cx_texts.specs.LiteralTokens.{begins_with_minus}
use Rattle.cx_texts.proofs.FrontLaws.{signed_front}
use Rattle.step_text.specs.Seen.{limit}
use Rattle.step_text.proofs.Taken.{read_back}
use Rattle.step_text.proofs.short_integer.short_number.Goals as goal

no_minus : (text : List ℕ) (len : ℕ) → 0 < len → list_all is_digit (take len text) ≡ true → false ≡ begins_with_minus text
no_minus [] len some digits = refl
no_minus (b ∷ text) zero some digits = absurd (omega (arith, some))
no_minus (b ∷ text) (suc len) some digits = at (b == 45) refl
  where
    at : (x : Bool) → (b == 45) ≡ x → false ≡ (b == 45)
    at false e = sym e
    at true e = absurd (true≢false (sym digits ∙ ap (λ n. is_digit n && list_all is_digit (take len text)) (eqb-true b 45 e)))

pub returns-clause-front : goal.returns-clause-front
returns-clause-front c =
    let text = c.args.text.now in
    let digits = c.digits_by_eight-digits in
    let len = digits.result.len in
    let some : 0 < len = omega (arith, c.if-digits-eq0.false) in
    let inside : len < length text = omega arith in
    let high : len ≤ length text = omega (arith, inside) in
    let first : 0 + len ≡ len = omega arith in
    let front = subst (λ i. NoBlank (take i text) × (integer (take i text) ≡ Some (pos digits.result.value))) first
    (signed_front false text 0 len digits.result.value refl (no_minus text len some digits.ensures.digits) some high digits.ensures.digits digits.ensures.value) in
    let size : nat_abs (pos digits.result.value) ≤ limit = omega (arith, digits.ensures.small) in
    let back = read_back (pos digits.result.value) c.signed_value.result (sym c.signed_value.ensures) size in
    record {
      some = some;
      inside = inside;
      run = front.0;
      blank = subst (λ b. is_blank b ≡ true) (sym (c.is_space_byte.ensures c.if-not-is_space_byte.false)) refl;
      reads = front.1 ∙ ap Some (sym back);
      small = subst (λ z. nat_abs z ≤ limit) (sym back) size;
    }
