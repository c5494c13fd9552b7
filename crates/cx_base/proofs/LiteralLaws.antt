-- A literal's negation, and its code.
use Rattle.std.proofs.Common.{◌≡◌, ◌≢◌, ℕ, ◌+◌, ◌*◌, ◌<◌, ◌≤◌, cond, arith, sym, ap, ◌∙◌, refl, Bool, true, false, not, ◌⊎◌, inl, inr, ⊎_elim, eqb-true, eq-eqb, nat_eq}
use Rattle.std.proofs.lemmas.Bool.{cases_eq, false≢true, and_parts, and_from}
use Rattle.std.proofs.Math.Bool.{not-not}
use Rattle.cx_base.specs.Literals.{Literal, differ, negate, same_literal, code_of, literal_of_code}
use Rattle.cx_base.specs.Codes.{literal_of_code-code_of}
use Rattle.cx_base.proofs.Differences.{not_differ-same, same-not_differ}

pub negate-negate : (l : Literal) → negate (negate l) ≡ l
negate-negate l = λ i. record { variable = l.variable; negative = not-not l.negative i }

-- two literals of one code are one
pub same_code : (l m : Literal) → code_of l ≡ code_of m → l ≡ m
same_code l m e = sym (literal_of_code-code_of l) ∙ ap literal_of_code e ∙ literal_of_code-code_of m

-- ---- the test whether two literals are one
pub are_one : (l m : Literal) → same_literal l m ≡ true → l ≡ m
are_one l m h =
    let p = and_parts (nat_eq l.variable m.variable) (not (differ l.negative m.negative)) h in
    let x = eqb-true l.variable m.variable p.0 in
    let s = same-not_differ l.negative m.negative p.1 in
    λ i. record { variable = x i; negative = s i }

pub same_literal-itself : (l : Literal) → same_literal l l ≡ true
same_literal-itself l = and_from _ _ (eq-eqb l.variable l.variable refl) (not_differ-same l.negative l.negative refl)

-- ---- the range of a code
pub code_below : (l : Literal) (vars : ℕ) → l.variable ≤ vars → code_of l < 2 * vars + 2
code_below l vars h = elim l.negative as (λ b. 2 * l.variable + cond {A = ℕ} b 1 0 < 2 * vars + 2) [ true ↦ omega arith | false ↦ omega arith ]

pub code_above : (l : Literal) → 1 ≤ l.variable → 2 ≤ code_of l
code_above l h = elim l.negative as (λ b. 2 ≤ 2 * l.variable + cond {A = ℕ} b 1 0) [ true ↦ omega arith | false ↦ omega arith ]

pub variable_from_code : (l : Literal) → 2 ≤ code_of l → 1 ≤ l.variable
variable_from_code l = elim l.negative as (λ b. 2 ≤ 2 * l.variable + cond {A = ℕ} b 1 0 → 1 ≤ l.variable) [ true ↦ (λ h. omega arith) | false ↦ (λ h. omega arith) ]

-- ---- equal, negated and other literals
same_or_not : (a b : Bool) → (a ≡ b) ⊎ (a ≡ not b)
same_or_not true true = inl refl
same_or_not true false = inr refl
same_or_not false true = inr refl
same_or_not false false = inl refl

-- two literals of one variable are one, or each the other's negation
pub same_or_negated : (l m : Literal) → l.variable ≡ m.variable → (l ≡ m) ⊎ (l ≡ negate m)
same_or_negated l m e = ⊎_elim (λ (s : l.negative ≡ m.negative). inl (λ i. record { variable = e i; negative = s i }))
    (λ (s : l.negative ≡ not m.negative). inr (λ i. record { variable = e i; negative = s i })) (same_or_not l.negative m.negative)

pub same_or_other : (l m : Literal) → (l ≡ m) ⊎ (l ≢ m)
same_or_other l m = ⊎_elim (λ (e : code_of l ≡ code_of m). inl (same_code l m e)) (λ (ne : code_of l ≢ code_of m). inr (λ e. ne (ap code_of e))) (cases_eq (code_of l) (code_of m))

-- a literal is not its negation
pub apart_from_negation : (l : Literal) → l ≢ negate l
apart_from_negation l e = apart l.negative (ap (λ (x : Literal). x.negative) e)
  where
    apart : (b : Bool) → b ≢ not b
    apart true same = false≢true (sym same)
    apart false same = false≢true same
