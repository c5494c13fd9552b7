-- The rows that have a column, found one after another.
use Rattle.std.proofs.Common.{◌≡◌, ◌∙◌, ℕ, ◌+◌, ◌-◌, ◌<◌, ◌≤◌, zero, suc, true, List, ◌∷◌, [], length, get_or, Some, None, sym, ap, arith, inl, inr, true≢false}
use Rattle.std.specs.Slice.Scan.{HoldsNowhere, IsFirstPlace}
use Rattle.std.proofs.lemmas.Bool.{cases_lt, cases_Bool}
use Rattle.gf2_rows.specs.Bits.{bit_of}
use Rattle.parity_engine.specs.Written.{Rises}
use Rattle.parity_engine.proofs.Rising.{rises-least, rises_along}
use Rattle.gf2_matrix.specs.Content.{SourcedRow, IsColumnSet, IsNextWith, IsPlaceOf, has, row_at}
use Rattle.gf2_matrix.specs.Views.{is_picked}

rises_strictly : (least : ℕ) (cs : List ℕ) (i j : ℕ) → Rises least cs → i < j → j < length cs → get_or cs i 0 < get_or cs j 0
rises_strictly least [] i j rise lt j_in = absurd (omega arith)
rises_strictly least (c ∷ cs) i zero rise lt j_in = absurd (omega arith)
rises_strictly least (c ∷ cs) zero (suc j) rise lt j_in = let above = rises-least (c + 1) cs j rise.1 (omega arith) in omega arith
rises_strictly least (c ∷ cs) (suc i) (suc j) rise lt j_in = rises_strictly (c + 1) cs i j rise.1 (omega arith) (omega arith)

pub first_place : (numbers : List ℕ) → Rises 1 numbers → IsPlaceOf numbers 0 0
first_place numbers rise = record { before = λ m lt. absurd (omega arith); after = λ m ge lt. rises-least 1 numbers m rise lt }

module _ (rows : List SourcedRow) (x : ℕ) (numbers words : List ℕ) (set : IsColumnSet rows x numbers words) (least from : ℕ) (place_is : IsPlaceOf numbers least from) where
  -- a row from there on that has the column has its bit there
  found_at : (k : ℕ) → least ≤ k → k < length rows → has (row_at rows k) x ≡ true
      → (m : ℕ) × (from ≤ m) × (m < length numbers) × (get_or numbers m 0 ≡ k + 1) × (is_picked words 0 m ≡ true)
  found_at k ge lt has_k =
      let l = set.all k lt has_k in
      let at = l.2 in
      let back : get_or numbers l.0 0 - 1 ≡ k = omega arith in
      let zero : 0 + l.0 ≡ l.0 = omega arith in (
        l.0,
        elim (cases_lt l.0 from) [
          | inl small ↦ absurd (let h = place_is.before l.0 small in omega arith)
          | inr le ↦ le
        ],
        l.1,
        l.2,
        ap (bit_of words) zero ∙ set.bits l.0 l.1 ∙ ap (λ r. has (row_at rows r) x) back ∙ has_k,
      )

  pub next_none : HoldsNowhere (is_picked words 0) from (length numbers) → IsNextWith rows x least None
  next_none none k ge lt =
      elim (cases_Bool (has (row_at rows k) x)) [
        | inl on ↦ absurd (let f = found_at k ge lt on in true≢false (sym f.4 ∙ none f.0 f.1 f.2))
        | inr off ↦ off
      ]

  pub next_some : (m next : ℕ) → m < length numbers → get_or numbers m 0 ≡ next + 1 → IsFirstPlace (is_picked words 0) from (length numbers) m
      → IsNextWith rows x least (Some next) × IsPlaceOf numbers (next + 1) (m + 1)
  next_some m next m_in at first =
      let above = place_is.after m first.low m_in in
      let top = set.high m m_in in
      let back : get_or numbers m 0 - 1 ≡ next = omega arith in
      let zero : 0 + m ≡ m = omega arith in (
        (
          omega arith,
          omega arith,
          ap (λ r. has (row_at rows r) x) (sym back) ∙ sym (set.bits m m_in) ∙ ap (bit_of words) (sym zero) ∙ first.hit m_in,
          λ k k_ge k_lt.
              elim (cases_Bool (has (row_at rows k) x)) [
                | inr off ↦ off
                | inl on ↦
                    let f = found_at k k_ge (omega arith) on in
                    let f_at = f.3 in
                    elim (cases_lt f.0 m) [
                      | inl small ↦ absurd (true≢false (sym f.4 ∙ first.before f.0 f.1 small))
                      | inr le ↦ absurd (let h = rises_along 1 numbers m f.0 set.rise le f.2 in omega arith)
                    ]
              ],
        ),
        record {
          before = λ k k_lt. let h = rises_along 1 numbers k m set.rise (omega arith) m_in in omega arith;
          after = λ k k_ge k_in. let h = rises_strictly 1 numbers m k set.rise (omega arith) k_in in omega arith;
        },
      )
