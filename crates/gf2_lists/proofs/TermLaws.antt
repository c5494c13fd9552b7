-- Lists of variables as rows of bits: their sums and their members.
use Rattle.std.proofs.Common.{◌≡◌, ◌≢◌, ℕ, ◌+◌, ◌-◌, ◌<◌, ◌≤◌, zero, suc, Bool, true, false, cond, ◌&&◌, ◌||◌, eqb, nat_eq, List, [], ◌∷◌, map, filter, length, get_or, refl, sym, ap, ◌∙◌, subst, arith, inl, inr, true≢false}
use Rattle.std.specs.List.{list_any, range_with_len}
use Rattle.std.specs.Simd.Lanes.{zip2}
use Rattle.std.proofs.lemmas.List.{get_or_past}
use Rattle.std.proofs.lemmas.List.Folds.{list_any_at}
use Rattle.std.proofs.lemmas.Bool.{cases_eq, cases_lt, eq-eqb, ne_eqb}
use Rattle.cx_base.specs.Literals.{differ}
use Rattle.cx_base.specs.Parity.{odd_sum}
use Rattle.parity_engine.specs.Written.{Rises, AreRising}
use Rattle.parity_engine.proofs.Rising.{columns_rise, none_below}
use Rattle.gf2_lists.specs.declared.row.ListedRow.{ListedRow}
use Rattle.gf2_matrix.specs.Content.{row_at}
use Rattle.gf2_lists.specs.Sums.{sum_over}
use Rattle.gf2_lists.specs.Listed.{vars_at, right_at}
use Rattle.gf2_lists.specs.Terms.{terms_from, listed_row}
use Rattle.gf2_lists.proofs.Rises.{rise_lower}

pub length-terms : (k n : ℕ) (list : List ℕ) → length (terms_from k n list) ≡ n
length-terms k zero list = refl
length-terms k (suc n) [] = ap suc (length-terms (k + 1) n [])
length-terms k (suc n) (y ∷ ys) = go (eqb y k) (length-terms (k + 1) n ys) (length-terms (k + 1) n (y ∷ ys))
  where
    go : (b : Bool) → length (terms_from (k + 1) n ys) ≡ n → length (terms_from (k + 1) n (y ∷ ys)) ≡ n
        → length (cond b (true ∷ terms_from (k + 1) n ys) (false ∷ terms_from (k + 1) n (y ∷ ys))) ≡ suc n
    go true on off = ap suc on
    go false on off = ap suc off

terms_here : (k n y : ℕ) (ys : List ℕ) → y ≡ k → terms_from k (suc n) (y ∷ ys) ≡ true ∷ terms_from (k + 1) n ys
terms_here k n y ys e = rw (eq-eqb y k e) refl

-- a list whose numbers are all above has no bit here
terms_skip : (k n : ℕ) (list : List ℕ) → Rises (k + 1) list → terms_from k (suc n) list ≡ false ∷ terms_from (k + 1) n list
terms_skip k n [] rise = refl
terms_skip k n (y ∷ ys) rise = let low = rise.0 in rw (ne_eqb y k (λ e. omega arith)) refl

-- ---- sums
shifted : (k most : ℕ) (list : List ℕ) (b : Bool) (v : List Bool) → AreRising (k + 1) most list
    → odd_sum (map (λ y. get_or v (y - (k + 1)) false) list) ≡ odd_sum (map (λ y. get_or (b ∷ v) (y - k) false) list)
shifted k most [] b v rise = refl
shifted k most (y ∷ ys) b v rise =
    let low = rise.0 in
    let at : suc (y - (k + 1)) ≡ y - k = omega arith in
    (λ i. differ (ap (λ (j : ℕ). get_or (b ∷ v) j false) at i) (shifted k most ys b v (rise_lower (k + 1) (y + 1) most ys (omega arith) rise.2) i))

sum-terms : (k n most : ℕ) (list : List ℕ) (v : List Bool) → most + 1 ≡ k + n → AreRising k most list → length v ≡ n
    → odd_sum (zip2 ◌&&◌ (terms_from k n list) v) ≡ odd_sum (map (λ y. get_or v (y - k) false) list)
sum-terms k zero most [] v e rise long = refl
sum-terms k zero most (y ∷ ys) v e rise long = absurd (let low = rise.0 in let high = rise.1 in omega arith)
sum-terms k (suc n) most list [] e rise long = absurd (omega arith)
sum-terms k (suc n) most [] (b ∷ v) e rise long = sum-terms (k + 1) n most [] v (omega arith) tt (omega arith)
sum-terms k (suc n) most (y ∷ ys) (b ∷ v) e rise long =
    elim (cases_eq y k) [
      | inl same ↦
          let above : AreRising (k + 1) most ys = subst (λ (z : ℕ). AreRising (z + 1) most ys) same rise.2 in
          let at : 0 ≡ y - k = omega arith in
          ap (λ ts. odd_sum (zip2 ◌&&◌ ts (b ∷ v))) (terms_here k n y ys same)
          ∙ ap (differ b) (sum-terms (k + 1) n most ys v (omega arith) above (omega arith) ∙ shifted k most ys b v above)
          ∙ ap (λ (j : ℕ). differ (get_or (b ∷ v) j false) (odd_sum (map (λ z. get_or (b ∷ v) (z - k) false) ys))) at
      | inr other ↦
          let low = rise.0 in
          let above : AreRising (k + 1) most (y ∷ ys) = (omega arith, rise.1, rise.2) in
          ap (λ ts. odd_sum (zip2 ◌&&◌ ts (b ∷ v))) (terms_skip k n (y ∷ ys) (columns_rise (k + 1) most (y ∷ ys) above))
          ∙ sum-terms (k + 1) n most (y ∷ ys) v (omega arith) above (omega arith) ∙ shifted k most (y ∷ ys) b v above
    ]

pub total-terms : (n : ℕ) (list : List ℕ) (v : List Bool) → AreRising 1 n list → length v ≡ n → odd_sum (zip2 ◌&&◌ (terms_from 1 n list) v) ≡ sum_over list v
total-terms n list v rise long = sum-terms 1 n n list v (omega arith) rise long

-- ---- members
-- at the list's first number
member_here : (k n y : ℕ) (ys : List ℕ) (z : ℕ) → y ≡ k → z < suc n
    → ((j : ℕ) → j < n → get_or (terms_from (k + 1) n ys) j false ≡ list_any (λ u. nat_eq u (k + 1 + j)) ys)
    → get_or (true ∷ terms_from (k + 1) n ys) z false ≡ (nat_eq y (k + z) || list_any (λ u. nat_eq u (k + z)) ys)
member_here k n y ys zero same lt rest = ap (λ b. b || list_any (λ u. nat_eq u (k + 0)) ys) (sym (eq-eqb y (k + 0) (omega arith)))
member_here k n y ys (suc z) same lt rest =
    let at : k + 1 + z ≡ k + suc z = omega arith in
    rest z (omega arith) ∙ ap (λ (w : ℕ). list_any (λ u. nat_eq u w) ys) at
    ∙ ap (λ b. b || list_any (λ u. nat_eq u (k + suc z)) ys) (sym (ne_eqb y (k + suc z) (λ e. omega arith)))

-- below it
member_there : (k n y : ℕ) (ys : List ℕ) (z : ℕ) → Rises (k + 1) (y ∷ ys) → z < suc n
    → ((j : ℕ) → j < n → get_or (terms_from (k + 1) n (y ∷ ys)) j false ≡ list_any (λ u. nat_eq u (k + 1 + j)) (y ∷ ys))
    → get_or (false ∷ terms_from (k + 1) n (y ∷ ys)) z false ≡ list_any (λ u. nat_eq u (k + z)) (y ∷ ys)
member_there k n y ys zero rise lt rest = sym (none_below (k + 1) (y ∷ ys) (k + 0) rise (omega arith))
member_there k n y ys (suc z) rise lt rest =
    let at : k + 1 + z ≡ k + suc z = omega arith in rest z (omega arith) ∙ ap (λ (w : ℕ). list_any (λ u. nat_eq u w) (y ∷ ys)) at

members : (k n : ℕ) (list : List ℕ) (x : ℕ) → Rises k list → x < n → get_or (terms_from k n list) x false ≡ list_any (λ y. nat_eq y (k + x)) list
members k zero list x rise lt = absurd (omega arith)
members k (suc n) [] zero rise lt = refl
members k (suc n) [] (suc x) rise lt = members (k + 1) n [] x tt (omega arith)
members k (suc n) (y ∷ ys) x rise lt =
    elim (cases_eq y k) [
      | inl same ↦
          let above : Rises (k + 1) ys = subst (λ (w : ℕ). Rises (w + 1) ys) same rise.1 in
          ap (λ ts. get_or ts x false) (terms_here k n y ys same) ∙ member_here k n y ys x same lt (λ j j_lt. members (k + 1) n ys j above j_lt)
      | inr other ↦
          let low = rise.0 in
          let above : Rises (k + 1) (y ∷ ys) = (omega arith, rise.1) in
          ap (λ ts. get_or ts x false) (terms_skip k n (y ∷ ys) above) ∙ member_there k n y ys x above lt (λ j j_lt. members (k + 1) n (y ∷ ys) j above j_lt)
    ]

pub has_member : (n : ℕ) (list : List ℕ) (x : ℕ) → Rises 1 list → x < n → get_or (terms_from 1 n list) x false ≡ list_any (λ y. nat_eq y (x + 1)) list
has_member n list x rise lt = let at : 1 + x ≡ x + 1 = omega arith in members 1 n list x rise lt ∙ ap (λ (w : ℕ). list_any (λ u. nat_eq u w) list) at

pub has_past : (n : ℕ) (list : List ℕ) (x : ℕ) → n ≤ x → get_or (terms_from 1 n list) x false ≡ false
has_past n list x past = let long = length-terms 1 n list in get_or_past (terms_from 1 n list) x false (omega arith)

pub any_place : (xs : List ℕ) (y : ℕ) → list_any (λ z. nat_eq z y) xs ≡ true → (i : ℕ) × (i < length xs) × (get_or xs i 0 ≡ y)
any_place [] y is = absurd (true≢false (sym is))
any_place (x ∷ xs) y is =
    elim (cases_eq x y) [
      | inl same ↦ (0, omega arith, same)
      | inr other ↦
          let h = any_place xs y (sym (ap (λ b. b || list_any (λ z. nat_eq z y) xs) (ne_eqb x y other)) ∙ is) in
          let lt = h.1 in
          (suc h.0, omega arith, h.2)
    ]

-- the list has what the bits have
pub place_of_bit : (n : ℕ) (list : List ℕ) (x : ℕ) → Rises 1 list → get_or (terms_from 1 n list) x false ≡ true → (i : ℕ) × (i < length list) × (get_or list i 0 ≡ x + 1)
place_of_bit n list x rise is =
    elim (cases_lt x n) [
      | inl small ↦ any_place list (x + 1) (sym (has_member n list x rise small) ∙ is)
      | inr large ↦ absurd (true≢false (sym is ∙ has_past n list x large))
    ]

pub bit_of_place : (n : ℕ) (list : List ℕ) (i x : ℕ) → AreRising 1 n list → i < length list → get_or list i 0 ≡ x + 1 → x < n → get_or (terms_from 1 n list) x false ≡ true
bit_of_place n list i x rise lt is x_in =
    has_member n list x (columns_rise 1 n list rise) x_in ∙ list_any_at (λ y. nat_eq y (x + 1)) list i 0 lt (eq-eqb (get_or list i 0) (x + 1) is)

pub bit_below : (n y : ℕ) (ys : List ℕ) (x : ℕ) → AreRising 1 n (y ∷ ys) → x + 1 < y → get_or (terms_from 1 n (y ∷ ys)) x false ≡ false
bit_below n y ys x rise below =
    let high = rise.1 in
    has_member n (y ∷ ys) x (columns_rise 1 n (y ∷ ys) rise) (omega arith)
    ∙ none_below y (y ∷ ys) (x + 1) (omega arith, columns_rise (y + 1) n ys rise.2) below

-- ---- the rows of a content
pub terms_row : (n : ℕ) (rows : List ListedRow) (r : ℕ) → r < length rows → (row_at (map (listed_row n) rows) r).terms ≡ terms_from 1 n (vars_at rows r)
terms_row n [] r lt = absurd (omega arith)
terms_row n (x ∷ rows) zero lt = refl
terms_row n (x ∷ rows) (suc r) lt = terms_row n rows r (omega arith)

pub right_row : (n : ℕ) (rows : List ListedRow) (r : ℕ) → r < length rows → (row_at (map (listed_row n) rows) r).right ≡ right_at rows r
right_row n [] r lt = absurd (omega arith)
right_row n (x ∷ rows) zero lt = refl
right_row n (x ∷ rows) (suc r) lt = right_row n rows r (omega arith)

-- ---- the numbers of a range that pass a test
pub filter_rise : (p : ℕ → Bool) (k m most : ℕ) → most + 1 ≡ k + m → AreRising k most (filter p (range_with_len k m))
filter_rise p k zero most e = tt
filter_rise p k (suc m) most e = go (p k) (filter_rise p (k + 1) m most (omega arith))
  where
    go : (b : Bool) → AreRising (k + 1) most (filter p (range_with_len (k + 1) m))
        → AreRising k most (cond b (k ∷ filter p (range_with_len (k + 1) m)) (filter p (range_with_len (k + 1) m)))
    go true h = (omega arith, omega arith, h)
    go false h = rise_lower k (k + 1) most (filter p (range_with_len (k + 1) m)) (omega arith) h

pub filter_terms : (p : ℕ → Bool) (k m : ℕ) → terms_from k m (filter p (range_with_len k m)) ≡ map p (range_with_len k m)
filter_terms p k zero = refl
filter_terms p k (suc m) = go (p k) (filter_terms p (k + 1) m)
  where
    go : (b : Bool) → terms_from (k + 1) m (filter p (range_with_len (k + 1) m)) ≡ map p (range_with_len (k + 1) m)
        → terms_from k (suc m) (cond b (k ∷ filter p (range_with_len (k + 1) m)) (filter p (range_with_len (k + 1) m))) ≡ b ∷ map p (range_with_len (k + 1) m)
    go true rest = terms_here k m k (filter p (range_with_len (k + 1) m)) refl ∙ ap (λ ts. true ∷ ts) rest
    go false rest =
        terms_skip k m (filter p (range_with_len (k + 1) m)) (columns_rise (k + 1) (k + m) (filter p (range_with_len (k + 1) m)) (filter_rise p (k + 1) m (k + m) (omega arith)))
        ∙ ap (λ ts. false ∷ ts) rest
