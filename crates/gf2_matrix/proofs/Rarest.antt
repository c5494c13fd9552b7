-- A walk over the columns of a row that stand outside a mask, to one that the fewest rows have.
use Rattle.std.proofs.Common.{◌≡◌, ℕ, ◌+◌, ◌-◌, ◌<◌, ◌≤◌, true, cond, List, Some, None, length, get_or, take, sym, ap, ◌∙◌, arith, inl, inr, true≢false}
use Rattle.std.specs.List.{count_by}
use Rattle.std.proofs.lemmas.Bool.{cases_lt}
use Rattle.std.proofs.lemmas.List.Sums.{count_by_more_yes, sum_by-take-le}
use Rattle.gf2_matrix.specs.Content.{Content, IsNextOutside, IsOutside, IsRarestOutside, SourcedRow, has, no_row, row_at, rows_with}

-- how many rows have column k
abbrev pub count_of : Content → ℕ → ℕ
count_of c k = rows_with c.rows (get_or c.columns k 0 - 1)

-- a column that a row has is counted
pub some_row : (rows : List SourcedRow) (r x : ℕ) → r < length rows → has (row_at rows r) x ≡ true → 1 ≤ rows_with rows x
some_row rows r x r_in on =
    let p = λ (row : SourcedRow). has row x in
    let more : count_by p (take (r + 1) rows) ≡ count_by p (take r rows) + 1 = count_by_more_yes p rows r no_row r_in on in
    let part : count_by p (take (r + 1) rows) ≤ count_by p rows = sum_by-take-le (λ row. cond (has row x) 1 0) rows (r + 1) in
    omega arith

-- of the columns from `first` on, before `next`, none has fewer rows than this one, which has so many
pub record IsRarestSoFar (c : Content) (mask : List ℕ) (r first next rarest fewest : ℕ) : Type 0 where
  pub outside : IsOutside c mask r rarest
  pub count : fewest ≡ count_of c rarest
  pub least : (k : ℕ) → first ≤ k → k < next → IsOutside c mask r k → fewest ≤ count_of c k

pub rarest_first : (c : Content) (mask : List ℕ) (r first fewest : ℕ) → IsOutside c mask r first → fewest ≡ count_of c first → IsRarestSoFar c mask r first (first + 1) first fewest
rarest_first c mask r first fewest out count = record {
  outside = out;
  count = count;
  least = λ k ge lt _. let same : k ≡ first = omega arith in let e : count_of c k ≡ count_of c first = ap (count_of c) same in omega arith;
}

module _ (c : Content) (mask : List ℕ) (r first next rarest fewest : ℕ) (so : IsRarestSoFar c mask r first next rarest fewest) where
  -- no column is outside between `next` and the one that was found
  until : (column : ℕ) → IsNextOutside c mask r next (Some column) → (bound : ℕ) → bound ≤ fewest → bound ≤ count_of c column
      → (k : ℕ) → first ≤ k → k < column + 1 → IsOutside c mask r k → bound ≤ count_of c k
  until column is bound low here k ge lt out =
      elim (cases_lt k next) [
        | inl before ↦ let l = so.least k ge before out in omega arith
        | inr behind ↦
            elim (cases_lt k column) [
              | inl passed ↦ absurd (true≢false (sym out.2 ∙ is.2 k behind passed out.1))
              | inr at ↦ let same : k ≡ column = omega arith in let e : count_of c k ≡ count_of c column = ap (count_of c) same in omega arith
            ]
      ]

  pub rarest_taken : (column rows : ℕ) → IsNextOutside c mask r next (Some column) → rows ≡ count_of c column → rows < fewest → IsRarestSoFar c mask r first (column + 1) column rows
  rarest_taken column rows is count fewer = record { outside = is.1; count = count; least = until column is rows (omega arith) (omega arith) }

  pub rarest_stays : (column rows : ℕ) → IsNextOutside c mask r next (Some column) → rows ≡ count_of c column → fewest ≤ rows → IsRarestSoFar c mask r first (column + 1) rarest fewest
  rarest_stays column rows is count fewer = record { outside = so.outside; count = so.count; least = until column is fewest (omega arith) (omega arith) }

  pub rarest_of_all : IsNextOutside c mask r next None → (k : ℕ) → first ≤ k → IsOutside c mask r k → count_of c rarest ≤ count_of c k
  rarest_of_all none k ge out =
      elim (cases_lt k next) [
        | inl before ↦ let l = so.least k ge before out in let e = so.count in omega arith
        | inr behind ↦ absurd (true≢false (sym out.2 ∙ none k behind out.0 out.1))
      ]

  pub rarest_alone : r < length c.rows → fewest ≤ 1 → (k : ℕ) → first ≤ k → IsOutside c mask r k → count_of c rarest ≤ count_of c k
  rarest_alone r_in alone k ge out = let one = some_row c.rows r (get_or c.columns k 0 - 1) r_in out.2 in let e = so.count in omega arith

-- columns before the first one outside are not outside
pub rarest_from_first : (c : Content) (mask : List ℕ) (r first rarest : ℕ) → IsNextOutside c mask r 0 (Some first) → IsOutside c mask r rarest
    → ((k : ℕ) → first ≤ k → IsOutside c mask r k → count_of c rarest ≤ count_of c k) → IsRarestOutside c mask r rarest
rarest_from_first c mask r first rarest is out least = (
  out,
  λ k here.
      elim (cases_lt k first) [
        | inl before ↦ absurd (true≢false (sym here.2 ∙ is.2 k (omega arith) before here.1))
        | inr behind ↦ least k behind here
      ],
)
