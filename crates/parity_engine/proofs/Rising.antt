-- Rising numbers.
use Rattle.std.proofs.Common.{◌≡◌, ℕ, ◌+◌, ◌<◌, ◌≤◌, zero, suc, Bool, true, false, ◌||◌, nat_eq, List, [], ◌∷◌, length, get_or, refl, sym, ◌∙◌, arith, inl, inr, true≢false}
use Rattle.std.specs.List.{list_any}
use Rattle.std.proofs.lemmas.Bool.{cases_lt, ne_eqb}
use Rattle.cx_base.specs.declared.literal.TheConstants.{MAX_VARIABLE}
use Rattle.parity_engine.specs.Equations.{numbers_from}
use Rattle.parity_engine.specs.Written.{Rises, AreRising}

-- ---- rising numbers
pub columns_rise : (least vars : ℕ) (cs : List ℕ) → AreRising least vars cs → Rises least cs
columns_rise least vars [] rise = tt
columns_rise least vars (c ∷ cs) rise = (rise.0, columns_rise (c + 1) vars cs rise.2)

pub columns_within : (least vars : ℕ) (cs : List ℕ) → AreRising least vars cs → vars ≤ MAX_VARIABLE → AreRising least MAX_VARIABLE cs
columns_within least vars [] rise few = tt
columns_within least vars (c ∷ cs) rise few = (rise.0, let h = rise.1 in omega arith, columns_within (c + 1) vars cs rise.2 few)

lower_stays : (low high greatest : ℕ) (cs : List ℕ) → low ≤ high → AreRising high greatest cs → AreRising low greatest cs
lower_stays low high greatest [] le rise = tt
lower_stays low high greatest (c ∷ cs) le rise = (let h = rise.0 in omega arith, rise.1, rise.2)

pub numbers_rise : (k greatest : ℕ) (marks : List Bool) → k + length marks ≤ greatest + 1 → AreRising k greatest (numbers_from k marks)
numbers_rise k greatest [] le = tt
numbers_rise k greatest (true ∷ marks) le = (omega arith, omega arith, numbers_rise (k + 1) greatest marks (omega arith))
numbers_rise k greatest (false ∷ marks) le = lower_stays k (k + 1) greatest (numbers_from (k + 1) marks) (omega arith) (numbers_rise (k + 1) greatest marks (omega arith))

pub rises-least : (least : ℕ) (cs : List ℕ) (k : ℕ) → Rises least cs → k < length cs → least ≤ get_or cs k 0
rises-least least [] k rise lt = absurd (omega arith)
rises-least least (c ∷ cs) zero rise lt = rise.0
rises-least least (c ∷ cs) (suc k) rise lt = let h = rises-least (c + 1) cs k rise.1 (omega arith) in let g = rise.0 in omega arith

-- ---- the least and the greatest
pub column-low : (least vars : ℕ) (columns : List ℕ) (k : ℕ) → AreRising least vars columns → k < length columns → least ≤ get_or columns k 0
column-low least vars columns k rise lt = rises-least least columns k (columns_rise least vars columns rise) lt

pub column-high : (least vars : ℕ) (columns : List ℕ) (k : ℕ) → AreRising least vars columns → k < length columns → get_or columns k 0 ≤ vars
column-high least vars [] k rise lt = absurd (omega arith)
column-high least vars (c ∷ cs) zero rise lt = rise.1
column-high least vars (c ∷ cs) (suc k) rise lt = column-high (c + 1) vars cs k rise.2 (omega arith)

-- ---- rising numbers in order
pub rises_along : (least : ℕ) (cs : List ℕ) (i j : ℕ) → Rises least cs → i ≤ j → j < length cs → get_or cs i 0 ≤ get_or cs j 0
rises_along least [] i j rise le lt = absurd (omega arith)
rises_along least (c ∷ cs) zero zero rise le lt = omega arith
rises_along least (c ∷ cs) zero (suc j) rise le lt = let h = rises-least (c + 1) cs j rise.1 (omega arith) in omega arith
rises_along least (c ∷ cs) (suc i) zero rise le lt = absurd (omega arith)
rises_along least (c ∷ cs) (suc i) (suc j) rise le lt = rises_along (c + 1) cs i j rise.1 (omega arith) (omega arith)

pub none_below : (least : ℕ) (cs : List ℕ) (y : ℕ) → Rises least cs → y < least → list_any (λ z. nat_eq z y) cs ≡ false
none_below least [] y rise lt = refl
none_below least (c ∷ cs) y rise lt = let low = rise.0 in (λ i. ne_eqb c y (λ e. omega arith) i || none_below (c + 1) cs y rise.1 (omega arith) i)

pub rising_low : (least : ℕ) (cs : List ℕ) (y : ℕ) → Rises least cs → list_any (λ z. nat_eq z y) cs ≡ true → least ≤ y
rising_low least cs y rise h = elim (cases_lt y least) [ inl lt ↦ absurd (true≢false (sym h ∙ none_below least cs y rise lt)) | inr le ↦ le ]

pub rises_lower : (low high : ℕ) (xs : List ℕ) → low ≤ high → Rises high xs → Rises low xs
rises_lower low high [] le h = tt
rises_lower low high (x ∷ xs) le h = (let g = h.0 in omega arith, h.1)

pub numbers_are_rising : (k : ℕ) (bs : List Bool) → Rises k (numbers_from k bs)
numbers_are_rising k bs = columns_rise k (k + length bs) (numbers_from k bs) (numbers_rise k (k + length bs) bs (omega arith))
