-- The content of a clause or a parity tells what it says.
use Rattle.std.proofs.Common.{◌≡◌, refl, sym, ap, ◌∙◌, subst, ℕ, Bool, true, false, cond, ◌||◌, nat_eq, eqb-true, List, [], ◌∷◌, map, count_by, ◌+◌, ◌%◌, arith}
use Rattle.std.specs.List.{Contains, dedup, list_any}
use Rattle.std.specs.List.Sorted.{IsPermutation, IsSorted, IsStrictlySortedBy}
use Rattle.std.specs.Ordering.{nat_cmp, eq_by_cmp}
use Rattle.std.specs.Cmp.{nat_cmp_total, nat_eq_equiv, unsigned_tied, both_ways}
use Rattle.std.specs.FinSet as set
use Rattle.std.proofs.lemmas.Map.Lookups.{btree_set_from_contains, exact_unsigned}
use Rattle.std.proofs.lemmas.Map.Views.{list_any-from_Contains, Contains-from_any}
use Rattle.std.proofs.lemmas.List.Kept.{Contains-dedup_nat, Contains-from_dedup, IsStrictlySortedBy-dedup}
use Rattle.std.proofs.lemmas.List.Sorted.{sum_by-IsPermutation, Contains-permutation, IsPermutation-sym}
use Rattle.std.proofs.lemmas.Bool.{and_from}
use Rattle.std.proofs.lemmas.Bool.Decides.{nat_tests}
use Rattle.cx_base.specs.Literals.{Literal, code_of, literal_of_code, differ}
use Rattle.cx_base.specs.Codes.{code_of-literal_of_code, literal_of_code-code_of}
use Rattle.cx_base.specs.Parity.{NormalForm, normal_form, occurs_odd}
use Rattle.cx_base.proofs.Odd.{is_odd, is_odd-count}
use Rattle.cx_base.proofs.ParityLaws.{contains-normal_form}
use Rattle.cx_base.proofs.Differences.{same_members}
use Rattle.cx_semantics.specs.Chain.{has_literal, is_inside, same_literals, HaveSame}
use Rattle.cx_semantics.proofs.SameSets.{HaveSame-by_test}
use Rattle.cx_semantics.proofs.SameSets.{inside_by}
use Rattle.proof_rules.specs.Contents.{RisesOver, KeepsOdd, IsClauseContent, IsFormContent, IsParityContent}
use Rattle.proof_rules.proofs.LiteralLaws.{same_code}
use Rattle.proof_rules.proofs.OddLaws.{stands_odd}

-- ---- rising lists

-- two rising lists of the same numbers are one
pub rising_once : (s : set.FinSet nat_cmp) (xs ys : List ℕ) → RisesOver s xs → RisesOver s ys → xs ≡ ys
rising_once s xs ys h k =
    btree_set_from_contains nat_cmp_total (record { keys = xs }) (record { keys = ys }) h.rising k.rising
    (λ q. sym (set.contains-from_list nat_cmp_total xs q) ∙ ap (λ m. set.contains m q) (h.same ∙ sym k.same) ∙ set.contains-from_list nat_cmp_total ys q) exact_unsigned

-- ---- clauses

abbrev has_key : List ℕ → ℕ → Bool
has_key keys q = list_any (eq_by_cmp nat_cmp q) keys

has_code : (xs : List Literal) (q : ℕ) → has_key (map code_of xs) q ≡ has_literal xs (literal_of_code q)
has_code [] q = refl
has_code (l ∷ xs) q = (λ i. (unsigned_tied q (code_of l) ∙ ap (λ c. nat_eq c (code_of l)) (sym (code_of-literal_of_code q)) ∙ same_code (literal_of_code q) l) i || has_code xs q i)

codes_of_same : (a b : List Literal) → HaveSame a b → set.from_list {R = nat_cmp} (map code_of a) ≡ set.from_list (map code_of b)
codes_of_same a b h = same_members _ _ (λ q.
    set.contains-from_list nat_cmp_total (map code_of a) q ∙ has_code a q ∙ h (literal_of_code q) ∙ sym (has_code b q) ∙ sym (set.contains-from_list nat_cmp_total (map code_of b) q))

same_of_codes : (a b : List Literal) → set.from_list {R = nat_cmp} (map code_of a) ≡ set.from_list (map code_of b) → HaveSame a b
same_of_codes a b h l =
    let q = code_of l in
    ap (has_literal a) (sym (literal_of_code-code_of l)) ∙ sym (has_code a q) ∙ sym (set.contains-from_list nat_cmp_total (map code_of a) q)
    ∙ ap (λ s. set.contains s q) h
    ∙ set.contains-from_list nat_cmp_total (map code_of b) q ∙ has_code b q ∙ ap (has_literal b) (literal_of_code-code_of l)

has_number : (xs : List ℕ) (q : ℕ) → set.contains (set.from_list {R = nat_cmp} xs) q ≡ list_any (nat_eq q) xs
has_number xs q = set.contains-from_list nat_cmp_total xs q ∙ (λ i. list_any (λ x. unsigned_tied q x i) xs)

-- lists with the same elements are of one set
same_set : (xs ys : List ℕ) → ((q : ℕ) → Contains xs q → Contains ys q) → ((q : ℕ) → Contains ys q → Contains xs q) → set.from_list {R = nat_cmp} xs ≡ set.from_list ys
same_set xs ys there back = same_members _ _ (λ q.
    has_number xs q
    ∙ both_ways (list_any (nat_eq q) xs) (list_any (nat_eq q) ys)
    (λ h. list_any-from_Contains nat_eq_equiv q ys (there q (Contains-from_any eqb-true q xs h)))
    (λ h. list_any-from_Contains nat_eq_equiv q xs (back q (Contains-from_any eqb-true q ys h)))
    ∙ sym (has_number ys q))

-- the codes, sorted and each once
pub content_of_sorted : (lits : List Literal) (sorted content : List ℕ) → IsPermutation (map code_of lits) sorted → IsSorted nat_cmp sorted → content ≡ dedup nat_eq sorted → IsClauseContent lits content
content_of_sorted lits sorted content moved up is =
    let codes = map code_of lits in
    record {
      same = same_set content codes
          (λ q h. Contains-permutation sorted codes q (IsPermutation-sym codes sorted moved) (Contains-from_dedup nat_eq sorted q (subst (λ (xs : List ℕ). Contains xs q) is h)))
          (λ q h. subst (λ (xs : List ℕ). Contains xs q) (sym is) (Contains-dedup_nat sorted q (Contains-permutation codes sorted q moved h)));
      rising = subst (IsStrictlySortedBy nat_cmp) (sym is) (IsStrictlySortedBy-dedup nat_cmp_total (λ x y. sym (unsigned_tied x y)) sorted up);
    }

pub clause_content_once : (lits : List Literal) (q k : List ℕ) → IsClauseContent lits q → IsClauseContent lits k → q ≡ k
clause_content_once lits q k g h = rising_once _ q k g h

pub same_by_content : (a b : List Literal) (q : List ℕ) → IsClauseContent a q → IsClauseContent b q → same_literals a b ≡ true
same_by_content a b q g h =
    let same = same_of_codes a b (sym g.same ∙ h.same) in
    and_from (is_inside a b) (is_inside b a) (inside_by a b (λ l k. sym (same l) ∙ k)) (inside_by b a (λ l k. same l ∙ k))

pub content_of_same : (a b : List Literal) (q : List ℕ) → same_literals a b ≡ true → IsClauseContent a q → IsClauseContent b q
content_of_same a b q h g = record { same = g.same ∙ codes_of_same a b (HaveSame-by_test a b h); rising = g.rising }

-- ---- parities

occurs_as : (lits : List Literal) (q : ℕ) → stands_odd (map (λ l. l.variable) lits) q ≡ occurs_odd lits q
occurs_as [] q = refl
occurs_as (l ∷ lits) q =
    is_odd-count (λ x. nat_eq x q) l.variable (map (λ m. m.variable) lits) ∙ ap (differ (nat_eq l.variable q)) (occurs_as lits q) ∙ sym (is_odd-count (λ m. nat_eq m.variable q) l lits)

-- of the sorted numbers of the variables, those that occur there an odd number of times
pub variables_of_sorted : (lits : List Literal) (sorted variables : List ℕ) → IsPermutation (map (λ l. l.variable) lits) sorted → KeepsOdd sorted variables → RisesOver (normal_form lits).variables variables
variables_of_sorted lits sorted variables moved keeps = record {
  same = same_members _ _ (λ q.
      set.contains-from_list_nat variables q ∙ keeps.odd q
      ∙ ap is_odd (sum_by-IsPermutation (λ x. cond (nat_eq x q) 1 0) (map (λ l. l.variable) lits) sorted moved)
      ∙ occurs_as lits q ∙ sym (contains-normal_form lits q));
  rising = keeps.rising;
}

-- the right side is 1 where an even number of literals is negative
pub right_side-even : (lits : List Literal) → nat_eq (count_by (λ l. l.negative) lits % 2) 0 ≡ (normal_form lits).right_side
unfolding normal_form
right_side-even lits = even_next (count_by (λ l. l.negative) lits)
  where
    even_next : (n : ℕ) → nat_eq (n % 2) 0 ≡ is_odd (1 + n)
    even_next n = grind (arith, nat_tests)

abbrev rest_of : List ℕ → List ℕ
rest_of [] = []
rest_of (x ∷ xs) = xs

abbrev is_first_one : List ℕ → Bool
is_first_one [] = false
is_first_one (x ∷ xs) = nat_eq x 1

read_side : (b : Bool) (xs : List ℕ) → is_first_one (cond b 1 0 ∷ xs) ≡ b
read_side true xs = refl
read_side false xs = refl

form_content_once : (form : NormalForm) (q k : List ℕ) → IsFormContent form q → IsFormContent form k → q ≡ k
form_content_once form q k g h = g.1 ∙ ap (λ xs. cond form.right_side 1 0 ∷ xs) (rising_once form.variables g.0 h.0 g.2 h.2) ∙ sym h.1

form_by_content : (a b : NormalForm) (q : List ℕ) → IsFormContent a q → IsFormContent b q → a ≡ b
form_by_content a b q g h =
    let e = sym g.1 ∙ h.1 in
    let variables = sym g.2.same ∙ ap set.from_list (ap rest_of e) ∙ h.2.same in
    let side = sym (read_side a.right_side g.0) ∙ ap is_first_one e ∙ read_side b.right_side h.0 in
    λ i. record { variables = variables i; right_side = side i }

pub parity_content_once : (lits : List Literal) (q k : List ℕ) → IsParityContent lits q → IsParityContent lits k → q ≡ k
parity_content_once lits q k g h = form_content_once (normal_form lits) q k g h

pub form_by_parity_content : (a b : List Literal) (q : List ℕ) → IsParityContent a q → IsParityContent b q → normal_form a ≡ normal_form b
form_by_parity_content a b q g h = form_by_content (normal_form a) (normal_form b) q g h

pub content_of_same_form : (a b : List Literal) (q : List ℕ) → normal_form a ≡ normal_form b → IsParityContent a q → IsParityContent b q
content_of_same_form a b q h g = subst (λ f. IsFormContent f q) h g
