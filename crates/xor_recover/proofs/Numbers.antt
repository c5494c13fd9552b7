-- Rows of clauses, and the least numbers of their sets of literals.
use Rattle.std.proofs.Common.{◌≡◌, refl, sym, ap, ◌∙◌, subst, ℕ, zero, suc, ◌+◌, ◌≤◌, Bool, true, false, cond, List, [], ◌∷◌, length, map, arith, Option, Some, None, true≢false, inl, inr}
use Rattle.std.specs.Prelude.{nat_le}
use Rattle.std.specs.List.{AllByRecursion, Contains, list_any}
use Rattle.std.proofs.lemmas.Bool.{le-leb, leb-true, and_from, or_cases}
use Rattle.std.proofs.lemmas.List.Elements.{Contains-append_cases, Contains-append_left, Contains-append_right}
use Rattle.cx_base.specs.Literals.{Literal}
use Rattle.cx_base.specs.Problem.{AreWithin}
use Rattle.cx_base.specs.declared.literal.TheConstants.{MAX_VARIABLE}
use Rattle.cx_base.proofs.Elements.{in_head, same_head, same_tail}
use Rattle.cx_semantics.specs.Chain.{has_literal, same_literals}
use Rattle.cx_semantics.proofs.SameSets.{HaveSame-by_test, inside_by}
use Rattle.cx_semantics.proofs.Widths.{variables}
use Rattle.xor_recover.specs.Finds.{first_with}
use Rattle.xor_recover.specs.Rows.{Row, row, gathered, rows_if, rows_of, IsProper}
use Rattle.xor_recover.proofs.Normal.{Rising, gathered_is_normal, gathered_from}

abbrev pub negatives : List Literal → List Bool
negatives lits = map (λ l. l.negative) lits

abbrev pub AllWithin : List (List Literal) → Type 0
AllWithin C = AllByRecursion (AreWithin MAX_VARIABLE) C

pub from_parts : (a b : List Literal) → variables a ≡ variables b → negatives a ≡ negatives b → a ≡ b
from_parts [] [] e f = refl
from_parts [] (y ∷ b) e f = absurd (clash e)
  where
    clash : {x : ℕ} {xs : List ℕ} → [] ≡ x ∷ xs → ⊥
    clash g = cc
from_parts (x ∷ a) [] e f = absurd (clash e)
  where
    clash : {x : ℕ} {xs : List ℕ} → x ∷ xs ≡ [] → ⊥
    clash g = cc
from_parts (x ∷ a) (y ∷ b) e f =
    let same_variable : x.variable ≡ y.variable = same_head x.variable y.variable (variables a) (variables b) e in
    let same_sign : x.negative ≡ y.negative = same_head x.negative y.negative (negatives a) (negatives b) f in
    (λ i. record { variable = same_variable i; negative = same_sign i } ∷ from_parts a b (same_tail x.variable y.variable (variables a) (variables b) e) (same_tail x.negative y.negative (negatives a) (negatives b) f) i)

pub row_says : (a b : List Literal) (m n : ℕ) → row a m ≡ row b n → a ≡ b
row_says a b m n e = from_parts a b (ap (λ (r : Row). r.variables) e) (ap (λ (r : Row). r.signs) e)

pub in_rows_if : (o : Option (List Literal)) (n : ℕ) (x : Row) → Contains (rows_if o n) x → (ms : List Literal) × (o ≡ Some ms) × (2 ≤ length ms) × (row ms n ≡ x)
in_rows_if None n x c = absurd (let lt = c.1 in omega arith)
in_rows_if (Some ms) n x c = elim (nat_le 2 (length ms)) as (λ b. nat_le 2 (length ms) ≡ b → Contains (cond b (row ms n ∷ []) []) x → (ms' : List Literal) × (Some ms ≡ Some ms') × (2 ≤ length ms') × (row ms' n ≡ x)) [
  | true ↦ λ e c. (ms, refl, leb-true 2 (length ms) e, only (row ms n) x c)
  | false ↦ λ e c. absurd (let lt = c.1 in omega arith)
] refl c
  where
    only : (r x : Row) → Contains (r ∷ []) x → r ≡ x
    only r x (zero, lt, e) = e
    only r x (suc k, lt, e) = absurd (omega arith)

rows_if_has : (o : Option (List Literal)) (n : ℕ) (ms : List Literal) → o ≡ Some ms → 2 ≤ length ms → Contains (rows_if o n) (row ms n)
rows_if_has o n ms e two = subst (λ (x : Option (List Literal)). Contains (rows_if x n) (row ms n)) (sym e) (subst (λ (rs : List Row). Contains rs (row ms n)) (sym (ap (λ b. cond b (row ms n ∷ []) []) (le-leb 2 (length ms) two))) (in_head (row ms n) []))

pub proper : (C : List (List Literal)) (n : ℕ) → AllWithin C → (x : Row) → Contains (rows_of n C) x → IsProper x × (n ≤ x.number)
proper [] n within x c = absurd (let lt = c.1 in omega arith)
proper (d ∷ C) n within x c = elim (Contains-append_cases (rows_if (gathered [] d) n) (rows_of (n + 1) C) x c) [
  | inl here ↦
      let found = in_rows_if (gathered [] d) n x here in
      let normal = gathered_is_normal d found.0 within.0 found.1 in
      let number : n ≡ x.number = ap (λ (r : Row). r.number) found.3 in
      (record { lits = found.0; is = ap (row found.0) (sym number) ∙ found.3; rises = normal.rises; two = found.2; six = normal.short }, omega arith)
  | inr later ↦ let rest = proper C (n + 1) within.1 x later in (rest.0, let low = rest.1 in omega arith)
]

pub test_same : (a b : List Literal) → ((q : Literal) → has_literal a q ≡ has_literal b q) → same_literals a b ≡ true
test_same a b h = and_from _ _ (inside_by a b (λ q g. sym (h q) ∙ g)) (inside_by b a (λ q g. h q ∙ g))

-- a clause has the literals: it has their row
stands_here : (lits d : List Literal) (n : ℕ) → Rising 1 lits → 2 ≤ length lits → length lits ≤ 6 → AreWithin MAX_VARIABLE d → same_literals lits d ≡ true → Contains (rows_if (gathered [] d) n) (row lits n)
stands_here lits d n rises two six within e = rows_if_has (gathered [] d) n lits (gathered_from lits d rises six within (HaveSame-by_test lits d e)) two

pub stands : (C : List (List Literal)) (n : ℕ) (lits : List Literal) → AllWithin C → Rising 1 lits → 2 ≤ length lits → length lits ≤ 6 → list_any (same_literals lits) C ≡ true → (m : ℕ) × Contains (rows_of n C) (row lits m)
stands [] n lits within rises two six h = absurd (true≢false (sym h))
stands (d ∷ C) n lits within rises two six h = elim (or_cases (same_literals lits d) (list_any (same_literals lits) C) h) [
  | inl e ↦ (n, Contains-append_left (rows_if (gathered [] d) n) (rows_of (n + 1) C) (row lits n) (stands_here lits d n rises two six within.0 e))
  | inr later ↦ let rest = stands C (n + 1) lits within.1 rises two six later in (rest.0, Contains-append_right (rows_if (gathered [] d) n) (rows_of (n + 1) C) (row lits rest.0) rest.1)
]

pub first_is : (C : List (List Literal)) (n : ℕ) (lits : List Literal) (m : ℕ) → AllWithin C → Rising 1 lits → 2 ≤ length lits → length lits ≤ 6 → Contains (rows_of n C) (row lits m)
    → ((k : ℕ) → Contains (rows_of n C) (row lits k) → m ≤ k) → first_with lits n C ≡ Some m
first_is [] n lits m within rises two six c least = absurd (let lt = c.1 in omega arith)
first_is (d ∷ C) n lits m within rises two six c least =
    elim (same_literals lits d) as (λ b. same_literals lits d ≡ b → cond b (Some n) (first_with lits (n + 1) C) ≡ Some m) [
      | true ↦ λ e.
          let upper : m ≤ n = least n (Contains-append_left (rows_if (gathered [] d) n) (rows_of (n + 1) C) (row lits n) (stands_here lits d n rises two six within.0 e)) in
          let lower : n ≤ m = (proper (d ∷ C) n within (row lits m) c).1 in
          let same : n ≡ m = omega arith in
          ap Some same
      | false ↦ λ e. elim (Contains-append_cases (rows_if (gathered [] d) n) (rows_of (n + 1) C) (row lits m) c) [
        | inl here ↦ absurd (
            let found = in_rows_if (gathered [] d) n (row lits m) here in
            let same : found.0 ≡ lits = row_says found.0 lits n m found.3 in
            let normal = gathered_is_normal d found.0 within.0 found.1 in
            true≢false (sym (ap (λ (a : List Literal). same_literals a d) (sym same) ∙ test_same found.0 d normal.same) ∙ e))
        | inr later ↦ first_is C (n + 1) lits m within.1 rises two six later (λ k h. least k (Contains-append_right (rows_if (gathered [] d) n) (rows_of (n + 1) C) (row lits k) h))
      ]
    ] refl
