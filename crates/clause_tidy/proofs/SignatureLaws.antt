-- Bits of signatures.
use Rattle.std.proofs.Common.{◌≡◌, ◌≢◌, refl, sym, ap, ◌∙◌, subst, ℕ, zero, suc, ◌+◌, ◌-◌, ◌*◌, ◌%◌, ◌^◌, ◌<◌, min, ⊎_elim, List, [], ◌∷◌, length, get_or, take, w64, arith}
use Rattle.std.specs.Int.{bit_at, bit_not, trailing_zeros}
use Rattle.std.specs.Prelude.{bit_and}
use Rattle.std.specs.Int.RustNames.{bit_or}
use Rattle.std.specs.List.{Contains}
use Rattle.std.proofs.lemmas.Bool.{cases_eq}
use Rattle.std.proofs.lemmas.Nat.{and_le_l}
use Rattle.std.proofs.lemmas.Nat.Bits.{bit_at_and, bit_at_not, bit_at-lt, bit_at-zero, bit_at_set_same, bit_at_set_other, bit_at-trailing_zeros}
use Rattle.std.proofs.lemmas.List.{take_more}
use Rattle.std.proofs.lemmas.List.Elements.{All-more, All-weaker, All-nil, Contains-append_left, Contains-append_right}
use Rattle.cx_base.specs.Literals.{Literal}
use Rattle.clause_tidy.specs.Signatures.{IsSignature, HasOther}

pub no_signature : (lits : List Literal) → IsSignature 0 (take 0 lits)
no_signature lits = record {
  each = All-nil (λ l. bit_at 0 (l.variable % 64) ≡ 1);
  only = λ i one. absurd (let none = bit_at-zero i in omega (arith, one, none));
}

module _ (signature new k : ℕ) (within : k < 64) (is : new ≡ bit_or signature (1 * 2 ^ k % 2 ^ 64)) where
  same : bit_at new k ≡ 1
  same = ap (λ n. bit_at n k) is ∙ bit_at_set_same w64 signature k within

  other : (i : ℕ) → i ≢ k → bit_at new i ≡ bit_at signature i
  other i ne = ap (λ n. bit_at n i) is ∙ bit_at_set_other w64 signature k within i ne

  stays : (i : ℕ) → bit_at signature i ≡ 1 → bit_at new i ≡ 1
  stays i h = ⊎_elim (λ (e : i ≡ k). ap (bit_at new) e ∙ same) (λ (ne : i ≢ k). other i ne ∙ h) (cases_eq i k)

  pub one_more : (lits : List Literal) (i : ℕ) (x : Literal) → i < length lits → x ≡ get_or lits i x → k ≡ x.variable % 64 → IsSignature signature (take i lits) → IsSignature new (take (i + 1) lits)
  one_more lits i x low at here before = record {
    each = All-more (λ l. bit_at new (l.variable % 64) ≡ 1) lits i x low
        (All-weaker (λ l. bit_at signature (l.variable % 64) ≡ 1) (λ l. bit_at new (l.variable % 64) ≡ 1) (λ l h. stays (l.variable % 64) h) (take i lits) before.each)
        (subst (λ (l : Literal). bit_at new (l.variable % 64) ≡ 1) at (ap (bit_at new) (sym here) ∙ same));
    only = λ j one. ⊎_elim
        (λ (e : j ≡ k). (x, subst (λ (xs : List Literal). Contains xs x) (sym (take_more lits i x low)) (Contains-append_right (take i lits) (get_or lits i x ∷ []) x (0, omega arith, sym at)), sym here ∙ sym e))
        (λ (ne : j ≢ k).
        let w = before.only j (sym (other j ne) ∙ one) in
        (w.0, subst (λ (xs : List Literal). Contains xs w.0) (sym (take_more lits i x low)) (Contains-append_left (take i lits) (get_or lits i x ∷ []) w.0 w.1), w.2)) (cases_eq j k);
  }

-- ---- a bit that the other has not
digits : (m n : ℕ) → m < 2 → n < 2 → min m (1 - n) ≡ 1 → (m ≡ 1) × (n ≡ 0)
digits zero n p q h = absurd (omega (arith, h))
digits (suc zero) zero p q h = (refl, refl)
digits (suc zero) (suc zero) p q h = absurd (omega (arith, h))
digits (suc zero) (suc (suc n)) p q h = absurd (omega (arith, q))
digits (suc (suc m)) n p q h = absurd (omega (arith, p))

pub other_bit : (part whole : ℕ) → part < 2 ^ 64 → whole < 2 ^ 64 → bit_and part (bit_not w64 whole) ≢ 0 → HasOther part whole
other_bit part whole small fits some =
    let n = bit_and part (bit_not w64 whole) in
    let less = and_le_l part (bit_not w64 whole) in
    let lowest = bit_at-trailing_zeros w64 n (omega (arith, some)) (omega (arith, less, small)) in
    let i = trailing_zeros w64 n in
    let both = digits (bit_at part i) (bit_at whole i) (bit_at-lt part i) (bit_at-lt whole i) (ap (min (bit_at part i)) (sym (bit_at_not w64 whole i fits lowest.0)) ∙ sym (bit_at_and part (bit_not w64 whole) i) ∙ lowest.1) in
    (i, both.0, both.1)
