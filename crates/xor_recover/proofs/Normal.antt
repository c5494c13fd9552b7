-- Literals of rising variables, each once: what insertion gives, and that a set of literals has one such list.
use Rattle.std.proofs.Common.{◌≡◌, refl, sym, ap, ◌∙◌, subst, ℕ, ◌+◌, ◌<◌, ◌≤◌, Bool, true, false, cond, ◌&&◌, ◌||◌, not, nat_eq, List, [], ◌∷◌, length, arith, Option, Some, None, true≢false, inl, inr}
use Rattle.std.specs.Prelude.{nat_lt, nat_le}
use Rattle.std.specs.Option.{option_map}
use Rattle.std.specs.List.{AllByRecursion, IsDistinct}
use Rattle.std.specs.Cmp.{IsEquivalence, decided}
use Rattle.std.proofs.lemmas.Bool.{lt-ltb, le-ltb, eq-eqb, ne_eqb, le-leb, leb-true, cases_order}
use Rattle.std.proofs.lemmas.Map.Made.{length-le_from_is_member}
use Rattle.cx_base.specs.Literals.{Literal, same_literal, differ}
use Rattle.cx_base.specs.Problem.{AreWithin}
use Rattle.cx_base.specs.declared.literal.TheConstants.{MAX_VARIABLE}
use Rattle.cx_semantics.specs.Chain.{has_literal}
use Rattle.cx_base.proofs.LiteralLaws.{are_one, same_literal-itself}
use Rattle.cx_semantics.proofs.Members.{has_at_head, has_behind, has_split}
use Rattle.cx_semantics.proofs.Widths.{variables}
use Rattle.parity_engine.specs.Written.{AreRising}
use Rattle.xor_recover.specs.Rows.{inserted, kept_short, placed, and_place, gathered}

abbrev pub Rising : ℕ → List Literal → Type 0
Rising k lits = AreRising k MAX_VARIABLE (variables lits)

some_is : {X : Type 0} {a b : X} → Some a ≡ Some b → a ≡ b
some_is g = cc

none_is : {X : Type 0} {b : X} → ◌≡◌ {A = Option X} None (Some b) → ⊥
none_is g = cc

-- ---- one literal

goes_on : (l m : Literal) (rest : List Literal) → m.variable < l.variable → inserted l (m ∷ rest) ≡ option_map (λ r. m ∷ r) (inserted l rest)
goes_on l m rest lt =
    let not_below : nat_lt l.variable m.variable ≡ false = le-ltb l.variable m.variable (omega arith) in
    let not_same : nat_eq l.variable m.variable ≡ false = ne_eqb l.variable m.variable (λ e. omega arith) in
    (λ i. cond (not_below i) (Some (l ∷ m ∷ rest)) (cond (not_same i) (cond (same_literal l m) (Some (m ∷ rest)) None) (option_map (λ r. m ∷ r) (inserted l rest))))

comes_before : (l m : Literal) (rest : List Literal) → l.variable < m.variable → inserted l (m ∷ rest) ≡ Some (l ∷ m ∷ rest)
comes_before l m rest lt = ap (λ b. cond b (Some (l ∷ m ∷ rest)) (cond (nat_eq l.variable m.variable) (cond (same_literal l m) (Some (m ∷ rest)) None) (option_map (λ r. m ∷ r) (inserted l rest)))) (lt-ltb l.variable m.variable lt)

meets : (l m : Literal) (rest : List Literal) → l.variable ≡ m.variable → inserted l (m ∷ rest) ≡ cond (same_literal l m) (Some (m ∷ rest)) None
meets l m rest e =
    let not_below : nat_lt l.variable m.variable ≡ false = le-ltb l.variable m.variable (omega arith) in
    let same : nat_eq l.variable m.variable ≡ true = eq-eqb l.variable m.variable e in
    (λ i. cond (not_below i) (Some (l ∷ m ∷ rest)) (cond (same i) (cond (same_literal l m) (Some (m ∷ rest)) None) (option_map (λ r. m ∷ r) (inserted l rest))))

-- what holds of each insertion, by its cases
pub by_insertion : (P : List Literal → List Literal → Type 0) (l : Literal) → P [] (l ∷ []) → ((m : Literal) (ms : List Literal) → l.variable < m.variable → P (m ∷ ms) (l ∷ m ∷ ms))
    → ((ms : List Literal) → P (l ∷ ms) (l ∷ ms)) → ((m : Literal) (ms q : List Literal) → m.variable < l.variable → P ms q → P (m ∷ ms) (m ∷ q))
    → (ms r : List Literal) → inserted l ms ≡ Some r → P ms r
by_insertion P l none before there behind [] r e = subst (P []) (some_is e) none
by_insertion P l none before there behind (m ∷ ms) r e = elim (cases_order l.variable m.variable) [
  | inl same ↦ elim (same_literal l m) as (λ b. same_literal l m ≡ b → cond b (Some (m ∷ ms)) None ≡ Some r → P (m ∷ ms) r) [
    | true ↦ λ one g. subst (P (m ∷ ms)) (some_is g) (subst (λ (x : Literal). P (x ∷ ms) (x ∷ ms)) (are_one l m one) (there ms))
    | false ↦ λ _ g. absurd (none_is g)
  ] refl (sym (meets l m ms same) ∙ e)
  | inr order ↦ elim order [
    | inl below ↦ subst (P (m ∷ ms)) (some_is (sym (comes_before l m ms below) ∙ e)) (before m ms below)
    | inr above ↦ elim (inserted l ms) as (λ o. inserted l ms ≡ o → option_map (λ x. m ∷ x) o ≡ Some r → P (m ∷ ms) r) [
      | None ↦ λ _ g. absurd (none_is g)
      | Some q ↦ λ p g. subst (P (m ∷ ms)) (some_is g) (behind m ms q above (by_insertion P l none before there behind ms q p))
    ] refl (sym (goes_on l m ms above) ∙ e)
  ]
]

pub rises_on : (l : Literal) (ms r : List Literal) → inserted l ms ≡ Some r → l.variable ≤ MAX_VARIABLE → (k : ℕ) → Rising k ms → k ≤ l.variable → Rising k r
rises_on l ms r e high = by_insertion (λ ms r. (k : ℕ) → Rising k ms → k ≤ l.variable → Rising k r) l
    (λ k h low. (low, high, tt))
    (λ m ms below k h low. (low, high, ((let b = below in omega arith), h.1, h.2)))
    (λ ms k h low. h)
    (λ m ms q above ih k h low. (h.0, h.1, ih (m.variable + 1) h.2 (omega arith)))
    ms r e

or_again : (a b : Bool) → (a || b) ≡ (a || (a || b))
or_again true b = refl
or_again false b = refl

or_swap : (a b c : Bool) → (a || (b || c)) ≡ (b || (a || c))
or_swap true true c = refl
or_swap true false c = refl
or_swap false b c = refl

pub has_inserted : (l : Literal) (ms r : List Literal) → inserted l ms ≡ Some r → (q : Literal) → has_literal r q ≡ (same_literal q l || has_literal ms q)
has_inserted l ms r e = by_insertion (λ ms r. (q : Literal) → has_literal r q ≡ (same_literal q l || has_literal ms q)) l
    (λ q. refl)
    (λ m ms below q. refl)
    (λ ms q. or_again (same_literal q l) (has_literal ms q))
    (λ m ms s above ih q. ap (λ b. same_literal q m || b) (ih q) ∙ or_swap (same_literal q m) (same_literal q l) (has_literal ms q))
    ms r e

-- ---- one after the other

short_is : (ms more : List Literal) → kept_short (Some ms) ≡ Some more → (ms ≡ more) × (length more ≤ 6)
short_is ms more h = elim (nat_le (length ms) 6) as (λ b. nat_le (length ms) 6 ≡ b → cond b (Some ms) None ≡ Some more → (ms ≡ more) × (length more ≤ 6)) [
  | true ↦ λ e g. (some_is g, subst (λ (x : List Literal). length x ≤ 6) (some_is g) (leb-true (length ms) 6 e))
  | false ↦ λ e g. absurd (none_is g)
] refl h

pub placed_is : (o : Option (List Literal)) (more : List Literal) → kept_short o ≡ Some more → (o ≡ Some more) × (length more ≤ 6)
placed_is None more h = absurd (none_is h)
placed_is (Some ms) more h = let p = short_is ms more h in (ap Some p.0, p.1)

pub record IsNormal (lits r : List Literal) : Type 0 where
  pub rises : Rising 1 r
  pub short : length r ≤ 6
  pub same : (q : Literal) → has_literal r q ≡ has_literal lits q

record Gathers (ms lits r : List Literal) : Type 0 where
  rises : Rising 1 r
  short : length r ≤ 6
  same : (q : Literal) → has_literal r q ≡ (has_literal lits q || has_literal ms q)

gathers : (lits ms r : List Literal) → AreWithin MAX_VARIABLE lits → gathered ms lits ≡ Some r → Rising 1 ms → length ms ≤ 6 → Gathers ms lits r
gathers [] ms r within e rises short = subst (Gathers ms []) (some_is e) (record { rises = rises; short = short; same = λ q. refl })
gathers (l ∷ lits) ms r within e rises short =
    elim (placed l ms) as (λ o. placed l ms ≡ o → and_place o (λ more. gathered more lits) ≡ Some r → Gathers ms (l ∷ lits) r) [
      | None ↦ λ _ g. absurd (none_is g)
      | Some more ↦ λ p g.
          let is = placed_is (inserted l ms) more p in
          let rest = gathers lits more r within.1 g (rises_on l ms more is.0 within.0.1 1 rises within.0.0) is.1 in
          record {
            rises = rest.rises;
            short = rest.short;
            same = λ q. rest.same q ∙ ap (λ b. has_literal lits q || b) (has_inserted l ms more is.0 q) ∙ or_move (has_literal lits q) (same_literal q l) (has_literal ms q);
          }
    ] refl e
  where
    or_move : (a b c : Bool) → (a || (b || c)) ≡ ((b || a) || c)
    or_move true true c = refl
    or_move true false c = refl
    or_move false true c = refl
    or_move false false c = refl

or_none : (b : Bool) → (b || false) ≡ b
or_none true = refl
or_none false = refl

pub gathered_is_normal : (lits r : List Literal) → AreWithin MAX_VARIABLE lits → gathered [] lits ≡ Some r → IsNormal lits r
gathered_is_normal lits r within e =
    let all = gathers lits [] r within e tt (omega arith) in
    record { rises = all.rises; short = all.short; same = λ q. all.same q ∙ or_none (has_literal lits q) }

-- ---- one list for a set

pub above : (k : ℕ) (xs : List Literal) (q : Literal) → Rising k xs → has_literal xs q ≡ true → k ≤ q.variable
above k [] q h here = absurd (true≢false (sym here))
above k (x ∷ xs) q h here = elim (has_split x xs q here) [
  | inl e ↦ (let v = ap (λ (l : Literal). l.variable) e in let low = h.0 in omega arith)
  | inr g ↦ (let low = above (x.variable + 1) xs q h.2 g in let first = h.0 in omega arith)
]

only_first : (k j : ℕ) (x y : Literal) (xs ys : List Literal) → Rising k (x ∷ xs) → Rising j (y ∷ ys) → has_literal (y ∷ ys) x ≡ true → has_literal (x ∷ xs) y ≡ true → x ≡ y
only_first k j x y xs ys h g there here = elim (has_split y ys x there) [
  | inl e ↦ e
  | inr later ↦ elim (has_split x xs y here) [
    | inl e ↦ sym e
    | inr later' ↦ absurd (let a = above (y.variable + 1) ys x g.2 later in let b = above (x.variable + 1) xs y h.2 later' in omega arith)
  ]
]

both : (a b : Bool) → (a ≡ true → b ≡ true) → (b ≡ true → a ≡ true) → a ≡ b
both true b f g = sym (f refl)
both false true f g = g refl
both false false f g = refl

behind_first : (j : ℕ) (x y : Literal) (xs ys : List Literal) (k : ℕ) → Rising k (x ∷ xs) → x ≡ y → ((q : Literal) → has_literal (x ∷ xs) q ≡ true → has_literal (y ∷ ys) q ≡ true) → (q : Literal) → has_literal xs q ≡ true → has_literal ys q ≡ true
behind_first j x y xs ys k h e f q here = elim (has_split y ys q (f q (has_behind x xs q here))) [
  | inl is ↦ absurd (let a = above (x.variable + 1) xs q h.2 here in let v = ap (λ (l : Literal). l.variable) (is ∙ sym e) in omega arith)
  | inr later ↦ later
]

pub unique : (xs ys : List Literal) (k j : ℕ) → Rising k xs → Rising j ys → ((q : Literal) → has_literal xs q ≡ has_literal ys q) → xs ≡ ys
unique [] [] k j h g same = refl
unique [] (y ∷ ys) k j h g same = absurd (true≢false (sym (has_at_head y ys) ∙ sym (same y)))
unique (x ∷ xs) [] k j h g same = absurd (true≢false (sym (has_at_head x xs) ∙ same x))
unique (x ∷ xs) (y ∷ ys) k j h g same =
    let first = only_first k j x y xs ys h g (sym (same x) ∙ has_at_head x xs) (same y ∙ has_at_head y ys) in
    (λ i. first i ∷ unique xs ys (x.variable + 1) (y.variable + 1) h.2 g.2 (λ q. both _ _
    (behind_first j x y xs ys k h first (λ p t. sym (same p) ∙ t) q)
    (behind_first k y x ys xs j g (sym first) (λ p t. same p ∙ t) q)) i)

-- ---- a list of a set is gathered

pub same_literal_equiv : IsEquivalence same_literal
same_literal_equiv = decided same_literal (λ x y. (are_one x y, λ e. ap (same_literal x) (sym e) ∙ same_literal-itself x))

distinct : (k : ℕ) (xs : List Literal) → Rising k xs → IsDistinct same_literal xs
unfolding IsDistinct
distinct k [] h = tt
distinct k (x ∷ xs) h = (apart_all (x.variable + 1) xs h.2 (omega arith), distinct (x.variable + 1) xs h.2)
  where
    apart_all : (j : ℕ) (ys : List Literal) → Rising j ys → x.variable < j → AllByRecursion (λ y. same_literal x y ≡ false) ys
    apart_all j [] g lt = tt
    apart_all j (y ∷ ys) g lt = (ap (λ b. b && not (differ x.negative y.negative)) (ne_eqb x.variable y.variable (λ e. let low = g.0 in omega arith)), apart_all (y.variable + 1) ys g.2 (let low = g.0 in omega arith))

pub inside_short : (k : ℕ) (xs ys : List Literal) → Rising k xs → ((q : Literal) → has_literal xs q ≡ true → has_literal ys q ≡ true) → length xs ≤ length ys
inside_short k xs ys h inside = length-le_from_is_member same_literal_equiv xs ys (distinct k xs h) inside

-- two literals of one variable in a rising list are one
pub one_of_variable : (k : ℕ) (ys : List Literal) (l m : Literal) → Rising k ys → has_literal ys l ≡ true → has_literal ys m ≡ true → l.variable ≡ m.variable → l ≡ m
one_of_variable k [] l m h a b e = absurd (true≢false (sym a))
one_of_variable k (y ∷ ys) l m h a b e = elim (has_split y ys l a) [
  | inl la ↦ elim (has_split y ys m b) [
    | inl mb ↦ la ∙ sym mb
    | inr mb ↦ absurd (let low = above (y.variable + 1) ys m h.2 mb in let v = ap (λ (x : Literal). x.variable) la in omega arith)
  ]
  | inr la ↦ elim (has_split y ys m b) [
    | inl mb ↦ absurd (let low = above (y.variable + 1) ys l h.2 la in let v = ap (λ (x : Literal). x.variable) mb in omega arith)
    | inr mb ↦ one_of_variable (y.variable + 1) ys l m h.2 la mb e
  ]
]

pub fits_in : (l : Literal) (ms : List Literal) → ((m : Literal) → has_literal ms m ≡ true → l.variable ≡ m.variable → l ≡ m) → (r : List Literal) × (inserted l ms ≡ Some r)
fits_in l [] one = (l ∷ [], refl)
fits_in l (m ∷ ms) one = elim (cases_order l.variable m.variable) [
  | inl same ↦
      let e = one m (has_at_head m ms) same in
      (m ∷ ms, meets l m ms same ∙ ap (λ b. cond b (Some (m ∷ ms)) None) (ap (same_literal l) (sym e) ∙ same_literal-itself l))
  | inr order ↦ elim order [
    | inl below ↦ (l ∷ m ∷ ms, comes_before l m ms below)
    | inr over ↦ let rest = fits_in l ms (λ x h v. one x (has_behind m ms x h) v) in (m ∷ rest.0, goes_on l m ms over ∙ ap (option_map (λ r. m ∷ r)) rest.1)
  ]
]

all_fit : (ys : List Literal) → Rising 1 ys → length ys ≤ 6 → (lits ms : List Literal) → AreWithin MAX_VARIABLE lits → Rising 1 ms → ((q : Literal) → has_literal ms q ≡ true → has_literal ys q ≡ true)
    → ((q : Literal) → has_literal lits q ≡ true → has_literal ys q ≡ true) → (r : List Literal) × (gathered ms lits ≡ Some r)
all_fit ys rises short [] ms within up inside all = (ms, refl)
all_fit ys rises short (l ∷ lits) ms within up inside all =
    let put = fits_in l ms (λ m h v. one_of_variable 1 ys l m rises (all l (has_at_head l lits)) (inside m h) v) in
    let up' = rises_on l ms put.0 put.1 within.0.1 1 up within.0.0 in
    let inside' : (q : Literal) → has_literal put.0 q ≡ true → has_literal ys q ≡ true =
    (λ q h. elim (has_split l ms q (sym (has_inserted l ms put.0 put.1 q) ∙ h)) [ inl e ↦ ap (has_literal ys) e ∙ all l (has_at_head l lits) | inr g ↦ inside q g ]) in
    let few : length put.0 ≤ 6 = (let n = inside_short 1 put.0 ys up' inside' in omega arith) in
    let rest = all_fit ys rises short lits put.0 within.1 up' inside' (λ q h. all q (has_behind l lits q h)) in
    let stays : placed l ms ≡ Some put.0 = ap kept_short put.1 ∙ ap (λ b. cond b (Some put.0) None) (le-leb (length put.0) 6 few) in
    (rest.0, ap (λ o. and_place o (λ more. gathered more lits)) stays ∙ rest.1)

pub gathered_from : (ys lits : List Literal) → Rising 1 ys → length ys ≤ 6 → AreWithin MAX_VARIABLE lits → ((q : Literal) → has_literal ys q ≡ has_literal lits q) → gathered [] lits ≡ Some ys
gathered_from ys lits rises short within same =
    let some = all_fit ys rises short lits [] within tt (λ q h. absurd (true≢false (sym h))) (λ q h. same q ∙ h) in
    let is = gathered_is_normal lits some.0 within some.1 in
    some.1 ∙ ap Some (unique some.0 ys 1 1 is.rises rises (λ q. is.same q ∙ sym (same q)))
