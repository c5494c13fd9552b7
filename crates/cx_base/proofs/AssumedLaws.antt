-- Marks at the codes of assumed literals.
use Rattle.std.proofs.Common.{◌≡◌, ◌≢◌, refl, sym, ap, ◌∙◌, subst, ℕ, zero, suc, ◌+◌, ◌*◌, ◌/◌, ◌%◌, ◌<◌, ◌≤◌, Bool, true, false, ◌&&◌, ◌||◌, eqb, List, [], ◌∷◌, ◌++◌, length, get_or, replicate, inl, inr, arith, true≢false, Option, Some, None, is_some, MatchOption}
use Rattle.std.proofs.lemmas.Bool.{cases_eq, and_parts, and_from}
use Rattle.std.proofs.lemmas.Nat.Bits.{bit_at-zero}
use Rattle.std.proofs.lemmas.List.Folds.{list_any-append}
use Rattle.std.specs.List.{list_any, AllByRecursion}
use Rattle.cx_base.specs.Literals.{Literal, negate, code_of, same_literal, positive_of, negative_of}
use Rattle.cx_base.specs.Problem.{AreWithin, IsWithinVariables, literals_of}
use Rattle.cx_base.specs.Assumptions.{assumed_by, assumptions_of, assumes, is_assumed_both, clashes, IsClash}
use Rattle.cx_base.specs.Assumed.{word_bit, has_bit, is_marked, are_both_marked, AreAssumed, IsFirstBoth, IsNoneBoth}
use Rattle.cx_base.specs.declared.literal.TheConstants.{MAX_VARIABLE}
use Rattle.cx_base.specs.declared.constraint.Constraint.{Constraint}
use Rattle.cx_base.specs.declared.constraint.Constraint.TheVariants as constraint
use Rattle.cx_base.proofs.LiteralLaws.{code_below, same_code, are_one, same_literal-itself}
use Rattle.cx_base.proofs.MarkLaws.{with_bit, bit_here, bit_elsewhere}
use Rattle.cx_base.proofs.Parts.{assumptions_of-push}

-- ---- one literal more

or_true : (b : Bool) → true ≡ (b || true)
or_true true = refl
or_true false = refl

or_false : (b : Bool) → b ≡ (b || false)
or_false true = refl
or_false false = refl

pub marked_here : (marks : List ℕ) (lit l : Literal) → code_of lit / 64 < length marks → is_marked (with_bit marks (code_of lit)) l ≡ (is_marked marks l || same_literal l lit)
marked_here marks lit l inside = elim (cases_eq (code_of l) (code_of lit)) [
  | inl e ↦ ap (has_bit (with_bit marks (code_of lit))) e ∙ bit_here marks (code_of lit) inside
      ∙ or_true (is_marked marks l) ∙ ap (λ b. is_marked marks l || b) (sym (ap (λ m. same_literal l m) (sym (same_code l lit e)) ∙ same_literal-itself l))
  | inr ne ↦ bit_elsewhere marks (code_of lit) (code_of l) inside ne ∙ or_false (is_marked marks l) ∙ ap (λ b. is_marked marks l || b) (sym (apart ne))
]
  where
    apart : code_of l ≢ code_of lit → same_literal l lit ≡ false
    apart ne = elim (same_literal l lit) as (λ b. same_literal l lit ≡ b → b ≡ false) [
      | true ↦ λ e. absurd (ne (ap code_of (are_one l lit e)))
      | false ↦ λ _. refl
    ] refl

or_moved : (a b c : Bool) → ((a || b) || c) ≡ (a || (b || c))
or_moved true b c = refl
or_moved false b c = refl

pub marked_more : (marks : List ℕ) (lit l : Literal) (rest : List Literal) → code_of lit / 64 < length marks
    → (is_marked (with_bit marks (code_of lit)) l || list_any (same_literal l) rest) ≡ (is_marked marks l || list_any (same_literal l) (lit ∷ rest))
marked_more marks lit l rest inside = ap (λ b. b || list_any (same_literal l) rest) (marked_here marks lit l inside) ∙ or_moved (is_marked marks l) (same_literal l lit) (list_any (same_literal l) rest)

-- each literal of a list up to the greatest variable has a place in these words
within_place : (n : ℕ) (lits : List Literal) (i : ℕ) (d : Literal) → AreWithin n lits → i < length lits → (get_or lits i d).variable ≤ n
within_place n [] i d w lt = absurd (omega arith)
within_place n (l ∷ lits) zero d w lt = w.0.1
within_place n (l ∷ lits) (suc i) d w lt = within_place n lits i d w.1 (omega arith)

pub has_place : (n words : ℕ) (lits : List Literal) (i : ℕ) (l : Literal) → AreWithin n lits → l ≡ get_or lits i l → i < length lits → n < 32 * words → code_of l / 64 < words
has_place n words lits i l w is lt room =
    let below = code_below l n (subst (λ (m : Literal). m.variable ≤ n) (sym is) (within_place n lits i l w lt)) in
    omega (arith, below, room)

-- ---- words more, without a mark

all_unmarked : (m p : ℕ) → ◌≡◌ {A = ℕ} (get_or (replicate m 0) p 0) 0
all_unmarked zero p = refl
all_unmarked (suc m) zero = refl
all_unmarked (suc m) (suc p) = all_unmarked m p

pub padded : (marks : List ℕ) (m p : ℕ) → ◌≡◌ {A = ℕ} (get_or (marks ++ replicate m 0) p 0) (get_or marks p 0)
padded [] m p = all_unmarked m p
padded (w ∷ marks) m zero = refl
padded (w ∷ marks) m (suc p) = padded marks m p

-- ---- one constraint more

pub none_assumed : (marks : List ℕ) (cs : List Constraint) → marks ≡ [] → cs ≡ [] → AreAssumed marks cs
unfolding assumptions_of
none_assumed marks cs e f = record {
  marked = λ l. ap (λ ms. is_marked ms l) e ∙ ap (λ d. eqb d 1) (bit_at-zero (code_of l % 64)) ∙ sym (ap (λ xs. assumes xs l) f);
  few = let long = ap length e in omega (arith, long);
}

pub assumed_pushed : (marks grown items : List ℕ) (cs ds : List Constraint) (c : Constraint) → AreAssumed marks cs → ds ≡ cs ++ c ∷ []
    → ((p : ℕ) → get_or grown p 0 ≡ get_or marks p 0) → length grown ≤ MAX_VARIABLE / 32 + 1
    → ((l : Literal) → is_marked items l ≡ (is_marked grown l || list_any (same_literal l) (assumed_by c))) → length items ≡ length grown
    → AreAssumed items ds
assumed_pushed marks grown items cs ds c a more same few marked long = record {
  marked = λ l. marked l ∙ ap (λ b. b || list_any (same_literal l) (assumed_by c)) (ap (λ w. word_bit w (code_of l % 64)) (same (code_of l / 64)) ∙ a.marked l)
      ∙ sym (ap (λ xs. list_any (same_literal l) (assumptions_of xs)) more ∙ ap (list_any (same_literal l)) (assumptions_of-push cs c) ∙ list_any-append (same_literal l) (assumptions_of cs) (assumed_by c));
  few = omega (arith, few, long);
}

-- ---- both literals of a variable

pub both_are : (marks : List ℕ) (cs : List Constraint) (x : ℕ) → AreAssumed marks cs → are_both_marked marks x ≡ is_assumed_both cs x
both_are marks cs x a = λ i. a.marked (positive_of x) i && a.marked (negative_of x) i

pub first_is_clash : (marks : List ℕ) (cs : List Constraint) (x : ℕ) → AreAssumed marks cs → IsFirstBoth marks x → IsClash cs x
first_is_clash marks cs x a f = record {
  both = sym (both_are marks cs x a) ∙ f.both;
  least = λ y low less. sym (both_are marks cs y a) ∙ f.least y low less;
}

assumed_within : (n : ℕ) (cs : List Constraint) → AllByRecursion (λ c. AreWithin n (literals_of c)) cs → AreWithin n (assumptions_of cs)
unfolding assumptions_of
assumed_within n [] w = tt
assumed_within n (constraint.Clause lits ∷ cs) w = assumed_within n cs w.1
assumed_within n (constraint.Parity lits ∷ cs) w = assumed_within n cs w.1
assumed_within n (constraint.Assume lits ∷ cs) w = Rattle.cx_base.proofs.Elements.all_append (λ l. (1 ≤ l.variable) × (l.variable ≤ n)) lits (assumptions_of cs) w.0 (assumed_within n cs w.1)

within_has : (n : ℕ) (lits : List Literal) (l : Literal) → AreWithin n lits → list_any (same_literal l) lits ≡ true → (1 ≤ l.variable) × (l.variable ≤ n)
within_has n [] l w h = absurd (true≢false (sym h))
within_has n (m ∷ lits) l w h = elim (same_literal l m) as (λ b. same_literal l m ≡ b → (b || list_any (same_literal l) lits) ≡ true → (1 ≤ l.variable) × (l.variable ≤ n)) [
  | true ↦ λ e _. subst (λ (x : Literal). (1 ≤ x.variable) × (x.variable ≤ n)) (sym (are_one l m e)) w.0
  | false ↦ λ e k. within_has n lits l w.1 k
] refl h

-- a literal of no variable of the formula is not assumed
pub outside_is_not_assumed : (n : ℕ) (cs : List Constraint) (l : Literal) → IsWithinVariables n cs → ((1 ≤ l.variable) × (l.variable ≤ MAX_VARIABLE) → ⊥) → assumes cs l ≡ false
outside_is_not_assumed n cs l w none = elim (assumes cs l) as (λ b. assumes cs l ≡ b → b ≡ false) [
  | true ↦ λ e. let k = within_has n (assumptions_of cs) l (assumed_within n cs w.1) e in absurd (none (k.0, omega (arith, k.1, w.0)))
  | false ↦ λ _. refl
] refl

-- no variable has the number 0
pub none_of_no_variable : (n : ℕ) (marks : List ℕ) (cs : List Constraint) → IsWithinVariables n cs → AreAssumed marks cs → are_both_marked marks 0 ≡ false
none_of_no_variable n marks cs w a =
    both_are marks cs 0 a ∙ ap (λ b. b && assumes cs (negative_of 0)) (outside_is_not_assumed n cs (positive_of 0) w (λ h. let low : 1 ≤ 0 = h.0 in omega arith))

has_it : (lits : List Literal) (l m : Literal) → same_literal l m ≡ true → list_any (same_literal l) (m ∷ lits) ≡ true
has_it lits l m e = ap (λ b. b || list_any (same_literal l) lits) e

-- a literal that is assumed with its negation is one of a variable that is assumed with both signs
both_signs : (has : Literal → Bool) (l : Literal) → has l ≡ true → has (negate l) ≡ true → (has (positive_of l.variable) && has (negative_of l.variable)) ≡ true
both_signs has l h k = elim l.negative as (λ b. has (record { variable = l.variable; negative = b }) ≡ true → has (record { variable = l.variable; negative = Rattle.std.proofs.Common.not b }) ≡ true → (has (positive_of l.variable) && has (negative_of l.variable)) ≡ true) [
  | true ↦ λ p q. and_from _ _ q p
  | false ↦ λ p q. and_from _ _ p q
] h k

-- some variable is assumed with both signs
found : (n : ℕ) (has : Literal → Bool) (lits : List Literal) → AreWithin n lits → ((l : Literal) → list_any (same_literal l) lits ≡ true → has l ≡ true) → list_any (λ l. has (negate l)) lits ≡ true
    → (x : ℕ) × (1 ≤ x) × ((has (positive_of x) && has (negative_of x)) ≡ true)
found n has [] w among h = absurd (true≢false (sym h))
found n has (m ∷ lits) w among h = elim (has (negate m)) as (λ b. has (negate m) ≡ b → (b || list_any (λ l. has (negate l)) lits) ≡ true → (x : ℕ) × (1 ≤ x) × ((has (positive_of x) && has (negative_of x)) ≡ true)) [
  | true ↦ λ e _. (m.variable, w.0.0, both_signs has m (among m (has_it lits m m (same_literal-itself m))) e)
  | false ↦ λ e k. found n has lits w.1 (λ l q. among l (Rattle.std.proofs.lemmas.Bool.or_right (same_literal l m) _ q)) k
] refl h

pub none_is_clash : (n : ℕ) (marks : List ℕ) (cs : List Constraint) → IsWithinVariables n cs → AreAssumed marks cs → IsNoneBoth marks → clashes cs ≡ false
none_is_clash n marks cs w a none = elim (clashes cs) as (λ b. clashes cs ≡ b → b ≡ false) [
  | true ↦ λ e. let f = found n (assumes cs) (assumptions_of cs) (assumed_within n cs w.1) (λ l h. h) e in
      absurd (true≢false (sym f.2 ∙ sym (both_are marks cs f.0 a) ∙ none f.0 f.1))
  | false ↦ λ _. refl
] refl

-- where a variable is assumed with both signs, the assumptions clash
negated_among : (has : Literal → Bool) (lits : List Literal) (l : Literal) → list_any (same_literal l) lits ≡ true → has (negate l) ≡ true → list_any (λ m. has (negate m)) lits ≡ true
negated_among has [] l h k = absurd (true≢false (sym h))
negated_among has (m ∷ lits) l h k = elim (same_literal l m) as (λ b. same_literal l m ≡ b → (b || list_any (same_literal l) lits) ≡ true → (has (negate m) || list_any (λ x. has (negate x)) lits) ≡ true) [
  | true ↦ λ e _. ap (λ b. b || list_any (λ x. has (negate x)) lits) (ap (λ x. has (negate x)) (sym (are_one l m e)) ∙ k)
  | false ↦ λ e g. Rattle.std.proofs.lemmas.Bool.or_right (has (negate m)) _ (negated_among has lits l g k)
] refl h

pub both_clash : (cs : List Constraint) (x : ℕ) → is_assumed_both cs x ≡ true → clashes cs ≡ true
both_clash cs x h = let p = and_parts (assumes cs (positive_of x)) (assumes cs (negative_of x)) h in negated_among (assumes cs) (assumptions_of cs) (positive_of x) p.0 p.1

pub clash_is_found : (n : ℕ) (marks : List ℕ) (cs : List Constraint) (o : Option ℕ) → IsWithinVariables n cs → AreAssumed marks cs → MatchOption o (IsNoneBoth marks) (IsFirstBoth marks) → is_some o ≡ clashes cs
clash_is_found n marks cs None w a none = sym (none_is_clash n marks cs w a none)
clash_is_found n marks cs (Some x) w a first = sym (both_clash cs x (sym (both_are marks cs x a) ∙ first.both))
