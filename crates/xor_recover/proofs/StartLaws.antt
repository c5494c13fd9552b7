-- The two least variables of a clause.
use Rattle.std.proofs.Common.{◌≡◌, refl, sym, ap, ◌∙◌, ℕ, ◌+◌, ◌<◌, ◌≤◌, min, max, true, false, cond, List, [], ◌∷◌, ◌++◌, length, get_or, arith, true≢false, ◌⊎◌, inl, inr, Option, Some, None}
use Rattle.std.specs.Prelude.{nat_le}
use Rattle.std.specs.List.{AllByRecursion}
use Rattle.std.proofs.lemmas.Bool.{cases_order, leb-true}
use Rattle.cx_base.specs.Literals.{Literal}
use Rattle.cx_base.specs.Problem.{AreWithin}
use Rattle.cx_base.specs.declared.literal.TheConstants.{MAX_VARIABLE}
use Rattle.cx_semantics.specs.Chain.{has_literal}
use Rattle.cx_semantics.proofs.Members.{has_at_head, has_behind, has_split, has_left, has_right, has_pushed}
use Rattle.cx_semantics.proofs.Widths.{variables}
use Rattle.xor_recover.specs.declared.starts.Start.{Start}
use Rattle.xor_recover.specs.Rows.{row, rows_if, gathered}
use Rattle.xor_recover.specs.Starts.{Begins}
use Rattle.xor_recover.proofs.Normal.{IsNormal, gathered_is_normal, above}

-- more than any variable
abbrev pub NONE : ℕ
NONE = 4294967295

-- a variable of the literals
abbrev pub Has : List Literal → ℕ → Type 0
Has lits v = (q : Literal) × (has_literal lits q ≡ true) × (q.variable ≡ v)

-- the least variable of the literals and the least of the others, or more than any where there is none
pub record AreLeast (lits : List Literal) (first second : ℕ) : Type 0 where
  pub low : (q : Literal) → has_literal lits q ≡ true → first ≤ q.variable
  pub next : (q : Literal) → has_literal lits q ≡ true → (q.variable ≡ first) ⊎ (second ≤ q.variable)
  pub one : (first ≡ NONE) ⊎ Has lits first
  pub two : (second ≡ NONE) ⊎ ((first < second) × Has lits second)
  pub most : (first ≤ NONE) × (second ≤ NONE)

pub none_least : AreLeast [] NONE NONE
none_least = record {
  low = λ q h. absurd (true≢false (sym h));
  next = λ q h. absurd (true≢false (sym h));
  one = inl refl;
  two = inl refl;
  most = (omega arith, omega arith);
}

has_more : (p : List Literal) (l : Literal) (v : ℕ) → Has p v → Has (p ++ l ∷ []) v
has_more p l v h = (h.0, has_left p (l ∷ []) h.0 h.1, h.2)

has_new : (p : List Literal) (l : Literal) → Has (p ++ l ∷ []) l.variable
has_new p l = (l, has_right p (l ∷ []) l (has_at_head l []), refl)

-- a literal of the first variable
pub same_least : (p : List Literal) (l : Literal) (a b : ℕ) → l.variable ≡ a → AreLeast p a b → AreLeast (p ++ l ∷ []) a b
same_least p l a b e h = record {
  low = λ q g. elim (has_pushed p l q g) [ inl old ↦ h.low q old | inr new ↦ (let v = ap (λ (x : Literal). x.variable) new in omega (arith, v, e)) ];
  next = λ q g. elim (has_pushed p l q g) [ inl old ↦ h.next q old | inr new ↦ inl (ap (λ (x : Literal). x.variable) new ∙ e) ];
  one = elim h.one [ inl n ↦ inl n | inr g ↦ inr (has_more p l a g) ];
  two = elim h.two [ inl n ↦ inl n | inr g ↦ inr (g.0, has_more p l b g.1) ];
  most = h.most;
}

at_number : (lits : List Literal) (v w : ℕ) → v ≡ w → Has lits v → Has lits w
at_number lits v w e h = (h.0, h.1, h.2 ∙ e)

below_least : (p : List Literal) (l : Literal) (a b a' b' : ℕ) → l.variable < a → a' ≡ min a l.variable → b' ≡ min b (max a l.variable) → AreLeast p a b → AreLeast (p ++ l ∷ []) a' b'
below_least p l a b a' b' lt ea eb h =
    let most = h.most in
    let above' : a ≤ b = elim h.two [ inl n ↦ omega (arith, n, most) | inr g ↦ (let less = g.0 in omega (arith, less)) ] in
    let first : l.variable ≡ a' = omega (arith, lt, ea) in
    let second : a ≡ b' = omega (arith, lt, eb, above') in
    record {
      low = λ q g. elim (has_pushed p l q g) [ inl old ↦ (let low = h.low q old in omega (arith, low, lt, first)) | inr new ↦ (let v = ap (λ (x : Literal). x.variable) new in omega (arith, v, first)) ];
      next = λ q g. elim (has_pushed p l q g) [ inl old ↦ inr (let low = h.low q old in omega (arith, low, second)) | inr new ↦ inl (ap (λ (x : Literal). x.variable) new ∙ first) ];
      one = inr (at_number (p ++ l ∷ []) l.variable a' first (has_new p l));
      two = elim h.one [ inl n ↦ inl (sym second ∙ n) | inr g ↦ inr (omega (arith, lt, first, second), at_number (p ++ l ∷ []) a b' second (has_more p l a g)) ];
      most = (omega (arith, most, lt, first), omega (arith, most, second));
    }

above_least : (p : List Literal) (l : Literal) (a b a' b' : ℕ) → a < l.variable → l.variable < NONE → a' ≡ min a l.variable → b' ≡ min b (max a l.variable) → AreLeast p a b → AreLeast (p ++ l ∷ []) a' b'
above_least p l a b a' b' lt small ea eb h =
    let most = h.most in
    let first : a ≡ a' = omega (arith, lt, ea) in
    let least : b' ≡ min b l.variable = omega (arith, lt, eb) in
    record {
      low = λ q g. elim (has_pushed p l q g) [ inl old ↦ (let low = h.low q old in omega (arith, low, first)) | inr new ↦ (let v = ap (λ (x : Literal). x.variable) new in omega (arith, v, first, lt)) ];
      next = λ q g. elim (has_pushed p l q g) [
        | inl old ↦ elim (h.next q old) [ inl e ↦ inl (e ∙ first) | inr low ↦ inr (omega (arith, low, least)) ]
        | inr new ↦ inr (let v = ap (λ (x : Literal). x.variable) new in omega (arith, v, least))
      ];
      one = elim h.one [ inl n ↦ inl (sym first ∙ n) | inr g ↦ inr (at_number (p ++ l ∷ []) a a' first (has_more p l a g)) ];
      two = elim (cases_order b l.variable) [
        | inl e ↦ inr (omega (arith, lt, e, least, first), at_number (p ++ l ∷ []) l.variable b' (omega (arith, e, least)) (has_new p l))
        | inr apart ↦ elim apart [
          | inl less ↦ elim h.two [
            | inl n ↦ absurd (omega (arith, n, less, small))
            | inr g ↦ (let up = g.0 in inr (omega (arith, up, less, least, first), at_number (p ++ l ∷ []) b b' (omega (arith, less, least)) (has_more p l b g.1)))
          ]
          | inr more ↦ inr (omega (arith, lt, more, least, first), at_number (p ++ l ∷ []) l.variable b' (omega (arith, more, least)) (has_new p l))
        ]
      ];
      most = (omega (arith, most, first), omega (arith, most, least));
    }

-- a literal of another variable
pub more_least : (p : List Literal) (l : Literal) (a b a' b' : ℕ) → (l.variable ≡ a → ⊥) → l.variable < NONE → a' ≡ min a l.variable → b' ≡ min b (max a l.variable) → AreLeast p a b → AreLeast (p ++ l ∷ []) a' b'
more_least p l a b a' b' apart small ea eb h = elim (cases_order l.variable a) [
  | inl e ↦ absurd (apart e)
  | inr order ↦ elim order [
    | inl below ↦ below_least p l a b a' b' below ea eb h
    | inr over ↦ above_least p l a b a' b' over small ea eb h
  ]
]

-- ---- the two least variables of a row

two_least : (lits r : List Literal) (a b : ℕ) → IsNormal lits r → 2 ≤ length r → AreLeast lits a b → (get_or (variables r) 0 0 ≡ a) × (get_or (variables r) 1 0 ≡ b) × (b < NONE)
two_least lits [] a b normal two h = absurd (omega arith)
two_least lits (x ∷ []) a b normal two h = absurd (omega arith)
two_least lits (x ∷ y ∷ r) a b normal two h =
    let rises = normal.rises in
    let here : has_literal lits x ≡ true = sym (normal.same x) ∙ has_at_head x (y ∷ r) in
    let here' : has_literal lits y ≡ true = sym (normal.same y) ∙ has_behind x (y ∷ r) y (has_at_head y r) in
    let low = h.low x here in
    let high : x.variable ≤ MAX_VARIABLE = rises.1 in
    let high' : y.variable ≤ MAX_VARIABLE = rises.2.1 in
    let up : x.variable + 1 ≤ y.variable = rises.2.0 in
    let first : x.variable ≡ a = elim h.one [
      | inl n ↦ absurd (omega (arith, n, low, high))
      | inr g ↦ (let least = above x.variable (x ∷ y ∷ r) g.0 (omega arith, rises.1, rises.2) (normal.same g.0 ∙ g.1) in let e = g.2 in omega (arith, least, e, low))
    ] in
    let low' : b ≤ y.variable = elim (h.next y here') [ inl e ↦ absurd (omega (arith, e, up, first)) | inr g ↦ g ] in
    let second : y.variable ≡ b = elim h.two [
      | inl n ↦ absurd (omega (arith, n, low', high'))
      | inr g ↦
          let q = g.1.0 in
          let e = g.1.2 in
          let less = g.0 in
          elim (has_split x (y ∷ r) q (normal.same q ∙ g.1.1)) [
            | inl is ↦ absurd (let v = ap (λ (z : Literal). z.variable) is in omega (arith, v, e, less, first))
            | inr later ↦ (let least = above y.variable (y ∷ r) q (omega arith, rises.2.1, rises.2.2) later in omega (arith, least, e, low'))
          ]
    ] in
    (first, second, omega (arith, second, high'))

-- a row of a clause has them
pub begins_row : (lits : List Literal) (n : ℕ) (s : Start) → AreWithin MAX_VARIABLE lits → AreLeast lits s.first s.second → AllByRecursion (Begins s) (rows_if (gathered [] lits) n)
begins_row lits n s within h = go (gathered [] lits) refl
  where
    go : (o : Option (List Literal)) → gathered [] lits ≡ o → AllByRecursion (Begins s) (rows_if o n)
    go None e = tt
    go (Some r) e = elim (nat_le 2 (length r)) as (λ b. nat_le 2 (length r) ≡ b → AllByRecursion (Begins s) (cond b (row r n ∷ []) [])) [
      | true ↦ λ two. (let both = two_least lits r s.first s.second (gathered_is_normal lits r within e) (leb-true 2 (length r) two) h in ((both.0, both.1), tt))
      | false ↦ λ _. tt
    ] refl

pub no_row : (lits : List Literal) (n : ℕ) (a b : ℕ) → AreWithin MAX_VARIABLE lits → AreLeast lits a b → b ≡ NONE → rows_if (gathered [] lits) n ≡ []
no_row lits n a b within h none = go (gathered [] lits) refl
  where
    go : (o : Option (List Literal)) → gathered [] lits ≡ o → rows_if o n ≡ []
    go None e = refl
    go (Some r) e = elim (nat_le 2 (length r)) as (λ c. nat_le 2 (length r) ≡ c → cond c (row r n ∷ []) [] ≡ []) [
      | true ↦ λ two. absurd (let both = two_least lits r a b (gathered_is_normal lits r within e) (leb-true 2 (length r) two) h in let less = both.2 in omega (arith, less, none))
      | false ↦ λ _. refl
    ] refl
