-- Rising lists in parts.
use Rattle.std.proofs.Common.{◌≡◌, ◌≢◌, ℕ, ◌+◌, ◌-◌, ◌<◌, ◌≤◌, zero, suc, false, ◌||◌, nat_eq, List, [], ◌∷◌, ◌++◌, length, get_or, take, drop, refl, ap, ◌∙◌, arith}
use Rattle.std.specs.List.{list_any}
use Rattle.std.proofs.lemmas.Bool.{ne_eqb}
use Rattle.std.proofs.Math.Seq.{drop-cons}
use Rattle.parity_engine.specs.Written.{AreRising}

pub rise_lower : (low high most : ℕ) (xs : List ℕ) → low ≤ high → AreRising high most xs → AreRising low most xs
rise_lower low high most [] le rise = tt
rise_lower low high most (x ∷ xs) le rise = (let h = rise.0 in omega arith, rise.1, rise.2)

-- one that lies between goes in between
pub rise_between : (least most : ℕ) (xs : List ℕ) (y z : ℕ) (ys zs : List ℕ) → AreRising least most (xs ++ y ∷ ys) → AreRising least most (xs ++ z ∷ zs) → y < z
    → AreRising least most (xs ++ y ∷ z ∷ zs)
rise_between least most [] y z ys zs one other lt = (one.0, one.1, (omega arith, other.1, other.2))
rise_between least most (x ∷ xs) y z ys zs one other lt = (one.0, one.1, rise_between (x + 1) most xs y z ys zs one.2 other.2 lt)

pub rise_without : (least most : ℕ) (xs : List ℕ) (y : ℕ) (ys : List ℕ) → AreRising least most (xs ++ y ∷ ys) → AreRising least most (xs ++ ys)
rise_without least most [] y ys rise = rise_lower least (y + 1) most ys (let h = rise.0 in omega arith) rise.2
rise_without least most (x ∷ xs) y ys rise = (rise.0, rise.1, rise_without (x + 1) most xs y ys rise.2)

pub rise_rest : (least most : ℕ) (xs ys : List ℕ) → AreRising least most (xs ++ ys) → AreRising least most ys
rise_rest least most [] ys rise = rise
rise_rest least most (x ∷ xs) ys rise = rise_lower least (x + 1) most ys (let h = rise.0 in omega arith) (rise_rest (x + 1) most xs ys rise.2)

-- other numbers above y in place of y and those after it
pub rise_replaced : (least most : ℕ) (xs : List ℕ) (y : ℕ) (ys s : List ℕ) → AreRising least most (xs ++ y ∷ ys) → AreRising (y + 1) most s → AreRising least most (xs ++ s)
rise_replaced least most [] y ys s rise above = rise_lower least (y + 1) most s (let h = rise.0 in omega arith) above
rise_replaced least most (x ∷ xs) y ys s rise above = (rise.0, rise.1, rise_replaced (x + 1) most xs y ys s rise.2 above)

pub drop_past : (xs : List ℕ) (i : ℕ) → length xs ≤ i → drop i xs ≡ []
drop_past [] zero le = refl
drop_past [] (suc i) le = refl
drop_past (x ∷ xs) zero le = absurd (omega arith)
drop_past (x ∷ xs) (suc i) le = drop_past xs i (omega arith)

pub drop_at : (xs : List ℕ) (i : ℕ) → i < length xs → drop i xs ≡ get_or xs i 0 ∷ drop (i + 1) xs
drop_at xs i lt = let e : suc i ≡ i + 1 = omega arith in drop-cons xs i 0 lt ∙ ap (λ (k : ℕ). get_or xs i 0 ∷ drop k xs) e

take_past : (xs : List ℕ) (n : ℕ) → length xs ≤ n → take n xs ≡ xs
take_past [] zero le = refl
take_past [] (suc n) le = refl
take_past (x ∷ xs) zero le = absurd (omega arith)
take_past (x ∷ xs) (suc n) le = ap (λ (l : List ℕ). x ∷ l) (take_past xs n (omega arith))

length_drop : (xs : List ℕ) (i : ℕ) → length (drop i xs) ≤ length xs - i
length_drop [] zero = omega arith
length_drop [] (suc i) = omega arith
length_drop (x ∷ xs) zero = omega arith
length_drop (x ∷ xs) (suc i) = let h = length_drop xs i in omega arith

-- the rest of a list as the machine cuts it
pub cut_rest : (xs : List ℕ) (i : ℕ) → take (length xs - i) (drop i xs) ≡ drop i xs
cut_rest xs i = take_past (drop i xs) (length xs - i) (length_drop xs i)

pub any_none : (xs : List ℕ) (y : ℕ) → ((i : ℕ) → i < length xs → get_or xs i 0 ≢ y) → list_any (λ z. nat_eq z y) xs ≡ false
any_none [] y none = refl
any_none (x ∷ xs) y none = (λ i. ne_eqb x y (none 0 (omega arith)) i || any_none xs y (λ j lt. none (suc j) (omega arith)) i)
