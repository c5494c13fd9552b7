-- Literals whose codes rise: a literal and its negation are neighbours.
use Rattle.std.proofs.Common.{◌≡◌, refl, sym, ap, ◌∙◌, subst, ℕ, ◌+◌, ◌*◌, ◌<◌, Bool, true, false, cond, not, ◌&&◌, ◌||◌, nat_eq, List, [], ◌∷◌, arith, true≢false, inl, inr}
use Rattle.std.specs.List.{list_any}
use Rattle.std.proofs.lemmas.Bool.{or_cases, or_left, or_right, and_parts, and_from, eqb-true, eq-eqb, cases_Bool}
use Rattle.cx_base.specs.Literals.{Literal, code_of, negate}
use Rattle.cx_semantics.specs.Chain.{has_literal}
use Rattle.cx_semantics.specs.Fresh.{is_tautology}
use Rattle.cx_semantics.proofs.Members.{has_at_head, has_behind, has_split}
use Rattle.cdcl_core.specs.Clauses.{RiseFrom}

-- whether a literal of these, or of this code, has its negation right after it
abbrev pub beside : ℕ → List Literal → Bool
beside n [] = false
beside n (l ∷ lits) = (l.negative && nat_eq (code_of l) (n + 1)) || beside (code_of l) lits

above : (n : ℕ) (lits : List Literal) (q : Literal) → RiseFrom n lits → has_literal lits q ≡ true → n < code_of q
above n [] q rise h = absurd (true≢false (sym h))
above n (l ∷ lits) q rise h = elim (has_split l lits q h) [
  | inl e ↦ let low = rise.0 in let c : code_of q ≡ code_of l = ap code_of e in omega (arith, low, c)
  | inr later ↦ let low = rise.0 in let rest = above (code_of l) lits q rise.1 later in omega (arith, low, rest)
]

code_even : (l : Literal) → l.negative ≡ false → code_of l ≡ 2 * l.variable + 0
code_even l e = ap (λ b. 2 * l.variable + cond b 1 0) e

code_odd : (l : Literal) → l.negative ≡ true → code_of l ≡ 2 * l.variable + 1
code_odd l e = ap (λ b. 2 * l.variable + cond b 1 0) e

-- the literal after is the negation
is_negation : (x l : Literal) → l.negative ≡ true → code_of l ≡ code_of x + 1 → negate x ≡ l
is_negation x l e c = elim (cases_Bool x.negative) [
  | inl odd ↦ absurd (let a = code_odd x odd in let b = code_odd l e in omega (arith, a, b, c))
  | inr even ↦
      let a = code_even x even in
      let b = code_odd l e in
      let v : x.variable ≡ l.variable = omega (arith, a, b, c) in
      (λ i. record { variable = v i; negative = (ap not even ∙ sym e) i })
]

both_any : (lits : List Literal) (a : Literal) (ms : List Literal) → has_literal ms a ≡ true → has_literal lits (negate a) ≡ true → list_any (λ l. has_literal lits (negate l)) ms ≡ true
both_any lits a [] h g = absurd (true≢false (sym h))
both_any lits a (m ∷ ms) h g = elim (has_split m ms a h) [
  | inl e ↦ or_left (has_literal lits (negate m)) _ (subst (λ (x : Literal). has_literal lits (negate x) ≡ true) e g)
  | inr later ↦ or_right (has_literal lits (negate m)) _ (both_any lits a ms later g)
]

record Both (lits : List Literal) : Type 0 where
  one : Literal
  here : has_literal lits one ≡ true
  there : has_literal lits (negate one) ≡ true

both_of : (lits ms : List Literal) → ((q : Literal) → has_literal ms q ≡ true → has_literal lits q ≡ true) → list_any (λ l. has_literal lits (negate l)) ms ≡ true → Both lits
both_of lits [] inside h = absurd (true≢false (sym h))
both_of lits (m ∷ ms) inside h = elim (or_cases (has_literal lits (negate m)) (list_any (λ l. has_literal lits (negate l)) ms) h) [
  | inl e ↦ record { one = m; here = inside m (has_at_head m ms); there = e }
  | inr later ↦ both_of lits ms (λ q g. inside q (has_behind m ms q g)) later
]

beside_both : (x : Literal) (lits : List Literal) → beside (code_of x) lits ≡ true → Both (x ∷ lits)
beside_both x [] h = absurd (true≢false (sym h))
beside_both x (l ∷ lits) h = elim (or_cases (l.negative && nat_eq (code_of l) (code_of x + 1)) (beside (code_of l) lits) h) [
  | inl e ↦
      let p = and_parts l.negative (nat_eq (code_of l) (code_of x + 1)) e in
      let is = is_negation x l p.0 (eqb-true (code_of l) (code_of x + 1) p.1) in
      record { one = x; here = has_at_head x (l ∷ lits); there = ap (has_literal (x ∷ l ∷ lits)) is ∙ has_behind x (l ∷ lits) l (has_at_head l lits) }
  | inr later ↦
      let b = beside_both l lits later in
      record { one = b.one; here = has_behind x (l ∷ lits) b.one b.here; there = has_behind x (l ∷ lits) (negate b.one) b.there }
]

next_code : (a : Literal) → a.negative ≡ false → code_of (negate a) ≡ code_of a + 1
next_code a e = let p = code_even a e in let q = code_odd (negate a) (ap not e) in omega (arith, p, q)

both_beside : (x : Literal) (lits : List Literal) (a : Literal) → RiseFrom (code_of x) lits → a.negative ≡ false → has_literal (x ∷ lits) a ≡ true → has_literal (x ∷ lits) (negate a) ≡ true → beside (code_of x) lits ≡ true
both_beside x [] a rise e h g = elim (has_split x [] a h) [
  | inl is ↦ elim (has_split x [] (negate a) g) [
    | inl is' ↦ absurd (let n = next_code a e in let c : code_of a ≡ code_of x = ap code_of is in let d : code_of (negate a) ≡ code_of x = ap code_of is' in omega (arith, n, c, d))
    | inr later ↦ absurd (true≢false (sym later))
  ]
  | inr later ↦ absurd (true≢false (sym later))
]
both_beside x (l ∷ lits) a rise e h g =
    let n = next_code a e in
    let low = rise.0 in
    elim (has_split x (l ∷ lits) a h) [
      | inl is ↦
          let c : code_of a ≡ code_of x = ap code_of is in
          elim (has_split x (l ∷ lits) (negate a) g) [
            | inl is' ↦ absurd (let d : code_of (negate a) ≡ code_of x = ap code_of is' in omega (arith, n, c, d))
            | inr later ↦ elim (has_split l lits (negate a) later) [
              | inl is' ↦
                  let d : code_of (negate a) ≡ code_of l = ap code_of is' in
                  let next : code_of l ≡ code_of x + 1 = omega (arith, n, c, d) in
                  or_left _ (beside (code_of l) lits) (and_from l.negative (nat_eq (code_of l) (code_of x + 1)) (ap (λ (m : Literal). m.negative) (sym is') ∙ ap not e) (eq-eqb (code_of l) (code_of x + 1) next))
              | inr behind ↦ absurd (let d = above (code_of l) lits (negate a) rise.1 behind in omega (arith, n, c, d, low))
            ]
          ]
      | inr later ↦
          let c = above (code_of x) (l ∷ lits) a rise later in
          elim (has_split x (l ∷ lits) (negate a) g) [
            | inl is' ↦ absurd (let d : code_of (negate a) ≡ code_of x = ap code_of is' in omega (arith, n, c, d))
            | inr later' ↦ or_right (l.negative && nat_eq (code_of l) (code_of x + 1)) (beside (code_of l) lits) (both_beside l lits a rise.1 e later later')
          ]
    ]

same_bits : (a b : Bool) → (a ≡ true → b ≡ true) → (b ≡ true → a ≡ true) → a ≡ b
same_bits true b f g = sym (f refl)
same_bits false true f g = g refl
same_bits false false f g = refl

not_first : (l : Literal) → (l.negative && nat_eq (code_of l) 2) ≡ true → ⊥
not_first l h =
    let p = and_parts l.negative (nat_eq (code_of l) 2) h in
    let c = eqb-true (code_of l) 2 p.1 in
    let d = code_odd l p.0 in
    omega (arith, c, d)

pub tautology_beside : (lits : List Literal) → RiseFrom 1 lits → beside 1 lits ≡ is_tautology lits
tautology_beside [] rise = refl
tautology_beside (x ∷ lits) rise = same_bits (beside 1 (x ∷ lits)) (is_tautology (x ∷ lits))
    (λ h. elim (or_cases (x.negative && nat_eq (code_of x) 2) (beside (code_of x) lits) h) [
      | inl e ↦ absurd (not_first x e)
      | inr later ↦ let b = beside_both x lits later in both_any (x ∷ lits) b.one (x ∷ lits) b.here b.there
    ])
    (λ h.
    let b = both_of (x ∷ lits) (x ∷ lits) (λ q g. g) h in
    or_right (x.negative && nat_eq (code_of x) 2) (beside (code_of x) lits) (elim (cases_Bool b.one.negative) [
      | inl odd ↦ both_beside x lits (negate b.one) rise.1 (ap not odd) b.there (ap (has_literal (x ∷ lits)) (back b.one) ∙ b.here)
      | inr even ↦ both_beside x lits b.one rise.1 even b.here b.there
    ]))
  where
    twice : (b : Bool) → not (not b) ≡ b
    twice true = refl
    twice false = refl

    back : (l : Literal) → negate (negate l) ≡ l
    back l = (λ i. record { variable = l.variable; negative = twice l.negative i })
