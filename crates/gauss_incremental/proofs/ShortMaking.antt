-- Short parities as they are written.
use Rattle.std.proofs.Common.{◌≡◌, ℕ, ◌+◌, ◌-◌, ◌%◌, ◌<◌, ◌≤◌, ◌==◌, suc, Bool, true, false, not, cond, nat_eq, List, [], ◌∷◌, map, length, get_or, set, refl, sym, ap, ◌∙◌, subst, arith}
use Rattle.std.specs.List.{count_by}
use Rattle.std.specs.List.Sorted.{IsPermutation}
use Rattle.std.specs.List.{list_any}
use Rattle.std.proofs.lemmas.List.Elements.{All-from_recursion, recursion_from_All}
use Rattle.std.proofs.lemmas.List.Sorted.{All-permutation, sum_by-IsPermutation}
use Rattle.cx_base.specs.Literals.{Literal, negate, negative_of, positive_of}
use Rattle.cx_base.specs.Problem.{AreWithin}
use Rattle.cx_base.specs.Parity.{NormalForm, normal_form, odd_sum}
use Rattle.cx_base.proofs.Odd.{is_odd, is_odd-suc}
use Rattle.cx_base.proofs.ParityLaws.{contains-normal_form}
use Rattle.parity_engine.specs.Written.{IsWritten, Rises, literals_with}
use Rattle.parity_engine.proofs.Forms.{same_form}
use Rattle.parity_engine.proofs.Literals.{right_parity}
use Rattle.gauss_incremental.specs.declared.shorts.Short.{Short}
use Rattle.gauss_incremental.specs.ShortFirst.{AreInOrder, IsShort, IsShortOf, IsWrittenOf}
use Rattle.gauss_incremental.proofs.ShortMeaning.{occurs_rising}

-- ---- in order
rises_by_index : (k vars : ℕ) (ys : List Literal) → AreWithin vars ys → ((d : Literal) → 1 ≤ length ys → k ≤ (get_or ys 0 d).variable)
    → ((i : ℕ) (d : Literal) → i + 1 < length ys → (get_or ys i d).variable < (get_or ys (i + 1) d).variable) → Rises k (map (λ (l : Literal). l.variable) ys)
rises_by_index k vars [] within low up = tt
rises_by_index k vars (y ∷ ys) within low up = (
  low y (omega arith),
  rises_by_index (y.variable + 1) vars ys within.1 (λ d some. let lt = up 0 d (omega arith) in omega (arith, lt))
      (λ i d lt. let e : suc i + 1 ≡ suc (i + 1) = omega arith in let next = up (suc i) d (omega (arith, lt)) in subst (λ n. (get_or (y ∷ ys) (suc i) d).variable < (get_or (y ∷ ys) n d).variable) e next),
)

first_low : (vars : ℕ) (ys : List Literal) (d : Literal) → AreWithin vars ys → 1 ≤ length ys → 1 ≤ (get_or ys 0 d).variable
first_low vars [] d h some = absurd (omega arith)
first_low vars (y ∷ ys) d h some = h.0.0

pub put_in_order : (vars : ℕ) (lits ys : List Literal) → AreWithin vars lits → IsPermutation lits ys
    → ((i : ℕ) (d : Literal) → i + 1 < length ys → (get_or ys i d).variable < (get_or ys (i + 1) d).variable) → AreInOrder vars lits ys
put_in_order vars lits ys within moved up =
    let P : Literal → Type 0 = λ l. (1 ≤ l.variable) × (l.variable ≤ vars) in
    let inside : AreWithin vars ys = recursion_from_All P ys (All-permutation P lits ys moved (All-from_recursion P lits within)) in
    record { moved = moved; rises = rises_by_index 1 vars ys inside (λ d some. first_low vars ys d inside some) up; within = inside }

-- ---- signs
positive_map : (ls : List Literal) → map (λ (l : Literal). positive_of l.variable) ls ≡ map positive_of (map (λ (l : Literal). l.variable) ls)
positive_map [] = refl
positive_map (l ∷ ls) = ap (λ ms. positive_of l.variable ∷ ms) (positive_map ls)

right_is_not : (ordered : List Literal) → (normal_form ordered).right_side ≡ not (count_by (λ (l : Literal). l.negative) ordered % 2 == 1)
unfolding normal_form
right_is_not ordered = is_odd-suc (count_by (λ (l : Literal). l.negative) ordered)

with_sign : (odd : Bool) (l : Literal) (ls : List Literal)
    → cond odd (negative_of l.variable ∷ map (λ (m : Literal). positive_of m.variable) ls) (map (λ (m : Literal). positive_of m.variable) (l ∷ ls)) ≡ literals_with (not odd) (map (λ (m : Literal). m.variable) (l ∷ ls))
with_sign true l ls = ap (λ ms. negative_of l.variable ∷ ms) (positive_map ls)
with_sign false l ls = ap (λ ms. positive_of l.variable ∷ ms) (positive_map ls)

pub positive_written : (ordered lits : List Literal) → 0 < length ordered → (count_by (λ (l : Literal). l.negative) ordered % 2 == 1) ≡ false → lits ≡ map (λ (l : Literal). positive_of l.variable) ordered
    → IsWrittenOf ordered lits
positive_written [] lits some odd is = absurd (omega arith)
positive_written (l ∷ ls) lits some odd is =
    is ∙ with_sign false l ls ∙ ap (λ b. literals_with b (map (λ (m : Literal). m.variable) (l ∷ ls))) (sym (right_is_not (l ∷ ls) ∙ ap not odd))

pub negative_written : (ordered lits : List Literal) (first : Literal) → 0 < length ordered → (count_by (λ (l : Literal). l.negative) ordered % 2 == 1) ≡ true
    → first ≡ get_or (map (λ (l : Literal). positive_of l.variable) ordered) 0 first
    → lits ≡ set (map (λ (l : Literal). positive_of l.variable) ordered) 0 (negate first) → IsWrittenOf ordered lits
negative_written [] lits first some odd read is = absurd (omega arith)
negative_written (l ∷ ls) lits first some odd read is =
    is ∙ ap (λ m. negate m ∷ map (λ (m : Literal). positive_of m.variable) ls) read
    ∙ with_sign true l ls ∙ ap (λ b. literals_with b (map (λ (m : Literal). m.variable) (l ∷ ls))) (sym (right_is_not (l ∷ ls) ∙ ap not odd))

-- ---- the form
variables_positive : (vs : List ℕ) → map (λ (l : Literal). l.variable) (map positive_of vs) ≡ vs
variables_positive [] = refl
variables_positive (v ∷ vs) = ap (λ ws. v ∷ ws) (variables_positive vs)

variables_with : (right : Bool) (vs : List ℕ) → map (λ (l : Literal). l.variable) (literals_with right vs) ≡ vs
variables_with right [] = refl
variables_with true (v ∷ vs) = ap (λ ws. v ∷ ws) (variables_positive vs)
variables_with false (v ∷ vs) = ap (λ ws. v ∷ ws) (variables_positive vs)

positive_sum : (vs : List ℕ) → odd_sum (map (λ (l : Literal). l.negative) (map positive_of vs)) ≡ false
positive_sum [] = refl
positive_sum (v ∷ vs) = positive_sum vs

sign_sum : (right : Bool) (vs : List ℕ) → 0 < length vs → (normal_form (literals_with right vs)).right_side ≡ right
sign_sum right [] some = absurd (omega arith)
sign_sum true (v ∷ vs) some = right_parity (literals_with true (v ∷ vs)) ∙ ap not (positive_sum vs)
sign_sum false (v ∷ vs) some = right_parity (literals_with false (v ∷ vs)) ∙ ap (λ b. not (not b)) (positive_sum vs)

within_variables : (vars : ℕ) (a b : List Literal) → map (λ (l : Literal). l.variable) a ≡ map (λ (l : Literal). l.variable) b → AreWithin vars b → AreWithin vars a
within_variables vars [] b e within = tt
within_variables vars (l ∷ a) [] e within = let ls : List ℕ = map (λ (m : Literal). m.variable) a in let clash : l.variable ∷ ls ≡ [] = e in cc
within_variables vars (l ∷ a) (m ∷ b) e within =
    let ls : List ℕ = map (λ (m : Literal). m.variable) a in
    let ms : List ℕ = map (λ (m : Literal). m.variable) b in
    let both : l.variable ∷ ls ≡ m.variable ∷ ms = e in
    let head : l.variable ≡ m.variable = cc in
    let tail : ls ≡ ms = cc in
    let low = within.0.0 in
    let high = within.0.1 in
    ((omega arith, omega arith), within_variables vars a b tail within.1)

moved_form : (lits ordered : List Literal) → IsPermutation lits ordered → normal_form ordered ≡ normal_form lits
moved_form lits ordered moved =
    same_form (normal_form ordered) (normal_form lits)
    (λ y. contains-normal_form ordered y ∙ ap is_odd (sum_by-IsPermutation (λ (l : Literal). cond (nat_eq l.variable y) 1 0) lits ordered moved) ∙ sym (contains-normal_form lits y))
    (right_is_not ordered ∙ ap (λ n. not (n % 2 == 1)) (sum_by-IsPermutation (λ (l : Literal). cond l.negative 1 0) lits ordered moved) ∙ sym (right_is_not lits))

pub is_short_of : (vars : ℕ) (lits ordered : List Literal) (number : ℕ) (short : Short) → AreInOrder vars lits ordered → 0 < length (map (λ (l : Literal). l.variable) ordered) → short.number ≡ number
    → IsWrittenOf ordered short.lits → IsShortOf vars lits number short
is_short_of vars lits ordered number short order some number_is written =
    let form = normal_form ordered in
    let vs : List ℕ = map (λ (l : Literal). l.variable) ordered in
    let alike : map (λ (l : Literal). l.variable) short.lits ≡ vs = ap (map (λ (l : Literal). l.variable)) written ∙ variables_with form.right_side vs in
    let rises : Rises 1 (map (λ (l : Literal). l.variable) short.lits) = subst (Rises 1) (sym alike) order.rises in
    let right : (normal_form short.lits).right_side ≡ form.right_side = ap (λ ls. (normal_form ls).right_side) written ∙ sign_sum form.right_side vs some in
    let same : normal_form short.lits ≡ form =
    same_form (normal_form short.lits) form
    (λ y.
    contains-normal_form short.lits y ∙ occurs_rising 1 short.lits y rises ∙ ap (list_any (λ z. nat_eq z y)) alike ∙ sym (occurs_rising 1 ordered y order.rises)
    ∙ sym (contains-normal_form ordered y)) right in
    let whole : normal_form short.lits ≡ normal_form lits = same ∙ moved_form lits ordered order.moved in
    record {
      number_is = number_is;
      within = within_variables vars short.lits ordered alike order.within;
      written = record {
        normal = whole;
        rises = rises;
        signs = written ∙ (λ i. literals_with (f_right (moved_form lits ordered order.moved) i) (sym alike i));
      };
    }
  where
    f_right : {f g : NormalForm} → f ≡ g → f.right_side ≡ g.right_side
    f_right e = ap (λ (f : NormalForm). f.right_side) e

pub is_short : (vars : ℕ) (parities : List (List Literal)) (k : ℕ) (lits : List Literal) (short : Short) → k < length parities → lits ≡ get_or parities k [] → IsShortOf vars lits (k + 1) short
    → IsShort vars parities short
is_short vars parities k lits short lt read is =
    let number = is.number_is in
    let e : short.number - 1 ≡ k = omega arith in
    record {
      low = omega arith;
      high = omega arith;
      within = is.within;
      written = subst (λ ls. IsWritten (normal_form ls) short.lits) (read ∙ ap (λ j. get_or parities j []) (sym e)) is.written;
    }
