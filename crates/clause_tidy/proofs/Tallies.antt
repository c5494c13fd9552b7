-- How many elements pass a test, and how many literals of a list are different.
use Rattle.std.proofs.Common.{◌≡◌, refl, sym, ap, ◌∙◌, ℕ, ◌+◌, ◌≤◌, Bool, true, false, cond, List, [], ◌∷◌, length, inl, inr, arith}
use Rattle.std.specs.List.{count_by}
use Rattle.std.proofs.lemmas.List.Recursion.{is_count_by}
use Rattle.std.proofs.lemmas.Bool.{or_left}
use Rattle.cx_base.specs.Literals.{Literal, same_literal}
use Rattle.cx_base.proofs.LiteralLaws.{are_one, same_literal-itself}
use Rattle.cx_semantics.specs.Chain.{has_literal}
use Rattle.cx_semantics.proofs.Members.{has_at_head, has_behind, has_split}
use Rattle.clause_tidy.specs.Shortened.{AreDifferent}
use Rattle.clause_tidy.proofs.Literals.{not_both, by_cases}

abbrev pub tally : (Literal → Bool) → List Literal → ℕ
tally p [] = 0
tally p (x ∷ xs) = cond (p x) (1 + tally p xs) (tally p xs)

pub tally_is : (p : Literal → Bool) (xs : List Literal) → tally p xs ≡ count_by p xs
tally_is p xs = is_count_by (tally p) p refl (λ x ys. refl) xs

-- ---- one element more
more_of : (a b c : Bool) (m n k : ℕ) → (a ≡ true → b ≡ false) → (a ≡ true → c ≡ true) → (b ≡ true → c ≡ true) → m + n ≤ k → cond {A = ℕ} a (1 + m) m + cond {A = ℕ} b (1 + n) n ≤ cond {A = ℕ} c (1 + k) k
more_of true true c m n k apart f g h = not_both true refl (apart refl)
more_of true false true m n k apart f g h = omega (arith, h)
more_of true false false m n k apart f g h = not_both false (f refl) refl
more_of false true true m n k apart f g h = omega (arith, h)
more_of false true false m n k apart f g h = not_both false (g refl) refl
more_of false false true m n k apart f g h = omega (arith, h)
more_of false false false m n k apart f g h = h

more_if : (a c : Bool) (m k : ℕ) → (a ≡ true → c ≡ true) → m ≤ k → cond {A = ℕ} a (1 + m) m ≤ cond {A = ℕ} c (1 + k) k
more_if true true m k f h = omega (arith, h)
more_if true false m k f h = not_both false (f refl) refl
more_if false true m k f h = omega (arith, h)
more_if false false m k f h = h

one_now : (a : Bool) (m : ℕ) → a ≡ true → 1 ≤ cond {A = ℕ} a (1 + m) m
one_now true m h = omega arith
one_now false m h = not_both false h refl

not_fewer : (a : Bool) (m : ℕ) → 1 ≤ m → 1 ≤ cond {A = ℕ} a (1 + m) m
not_fewer true m h = omega (arith, h)
not_fewer false m h = h

-- ---- whole lists
pub tally_apart : (p q r : Literal → Bool) (xs : List Literal) → ((x : Literal) → p x ≡ true → q x ≡ false) → ((x : Literal) → p x ≡ true → r x ≡ true) → ((x : Literal) → q x ≡ true → r x ≡ true) → tally p xs + tally q xs ≤ tally r xs
tally_apart p q r [] apart f g = omega arith
tally_apart p q r (x ∷ xs) apart f g = more_of (p x) (q x) (r x) (tally p xs) (tally q xs) (tally r xs) (apart x) (f x) (g x) (tally_apart p q r xs apart f g)

pub tally_weaker : (p r : Literal → Bool) (xs : List Literal) → ((x : Literal) → p x ≡ true → r x ≡ true) → tally p xs ≤ tally r xs
tally_weaker p r [] f = omega arith
tally_weaker p r (x ∷ xs) f = more_if (p x) (r x) (tally p xs) (tally r xs) (f x) (tally_weaker p r xs f)

pub tally_some : (p : Literal → Bool) (xs : List Literal) (x : Literal) → has_literal xs x ≡ true → p x ≡ true → 1 ≤ tally p xs
tally_some p [] x h k = not_both false h refl
tally_some p (y ∷ xs) x h k = elim (has_split y xs x h) [
  | inl e ↦ one_now (p y) (tally p xs) (ap p (sym e) ∙ k)
  | inr g ↦ not_fewer (p y) (tally p xs) (tally_some p xs x g k)
]

-- ---- different literals that are all in a list, or all but one
module _ (d : Literal) (ds lits : List Literal) (once : has_literal ds d ≡ false) where
  apart : (x : Literal) → same_literal x d ≡ true → has_literal ds x ≡ false
  apart x e = ap (has_literal ds) (are_one x d e) ∙ once

  -- the first one, and the others
  counted : has_literal lits d ≡ true → 1 + tally (has_literal ds) lits ≤ tally (has_literal (d ∷ ds)) lits
  counted h =
      let some = tally_some (λ x. same_literal x d) lits d h (same_literal-itself d) in
      let sum = tally_apart (λ x. same_literal x d) (has_literal ds) (has_literal (d ∷ ds)) lits apart (λ x e. or_left (same_literal x d) (has_literal ds x) e) (λ x e. has_behind d ds x e) in
      omega (arith, some, sum)

  others : tally (has_literal ds) lits ≤ tally (has_literal (d ∷ ds)) lits
  others = tally_weaker (has_literal ds) (has_literal (d ∷ ds)) lits (λ x e. has_behind d ds x e)

pub all_counted : (ds lits : List Literal) → AreDifferent ds → ((l : Literal) → has_literal ds l ≡ true → has_literal lits l ≡ true) → length ds ≤ tally (has_literal ds) lits
all_counted [] lits once f = omega arith
all_counted (d ∷ ds) lits once f =
    let rest = all_counted ds lits once.1 (λ l h. f l (has_behind d ds l h)) in
    let more = counted d ds lits once.0 (f d (has_at_head d ds)) in
    omega (arith, rest, more)

pub all_but_one : (ds lits : List Literal) (m : Literal) → AreDifferent ds → ((l : Literal) → has_literal ds l ≡ true → same_literal l m ≡ false → has_literal lits l ≡ true) → length ds ≤ tally (has_literal ds) lits + 1
all_but_one [] lits m once f = omega arith
all_but_one (d ∷ ds) lits m once f = by_cases (same_literal d m)
    (λ e.
    let differs = λ (l : Literal) (h : has_literal ds l ≡ true). by_cases {A = same_literal l m ≡ false} (same_literal l m)
    (λ k. not_both (has_literal ds d) (ap (has_literal ds) (are_one d m e ∙ sym (are_one l m k)) ∙ h) once.0) (λ k. k) in
    let rest = all_counted ds lits once.1 (λ l h. f l (has_behind d ds l h) (differs l h)) in
    let more = others d ds lits once.0 in
    omega (arith, rest, more))
    (λ e.
    let rest = all_but_one ds lits m once.1 (λ l h k. f l (has_behind d ds l h) k) in
    let more = counted d ds lits once.0 (f d (has_at_head d ds) e) in
    omega (arith, rest, more))
