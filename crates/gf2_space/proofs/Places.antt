-- A row has a variable where it has its column.
use Rattle.std.proofs.Common.{◌≡◌, ℕ, ◌+◌, ◌-◌, ◌<◌, ◌≤◌, zero, suc, Bool, true, false, List, [], ◌∷◌, length, get_or, refl, ◌∙◌, arith, inl, inr}
use Rattle.std.proofs.lemmas.Bool.{cases_eq, eq-eqb, ne_eqb}
use Rattle.gf2_matrix.specs.Columns.{place}
use Rattle.gf2_matrix.specs.Content.{Content, row_at, has}
use Rattle.gf2_lists.specs.Echelon.{SayGiven}

pub place_in : (columns : List ℕ) (v k : ℕ) → k < length columns → get_or columns k 0 ≡ v → place columns v < length columns
place_in [] v k lt is = absurd (omega arith)
place_in (c ∷ cs) v zero lt is = let here : place (c ∷ cs) v ≡ 0 = rw (eq-eqb c v is) refl in omega arith
place_in (c ∷ cs) v (suc k) lt is =
    elim (cases_eq c v) [
      | inl e ↦ let here : place (c ∷ cs) v ≡ 0 = rw (eq-eqb c v e) refl in omega arith
      | inr ne ↦
          let skip : place (c ∷ cs) v ≡ suc (place cs v) = rw (ne_eqb c v ne) (omega arith) in
          let rest = place_in cs v k (omega arith) is in
          omega arith
    ]

-- a variable without a column is in no row
pub none_without_place : (c : Content) (r v : ℕ) → SayGiven c → r < length c.rows → 1 ≤ v → length c.columns ≤ place c.columns v → has (row_at c.rows r) (v - 1) ≡ false
none_without_place c r v say lt low past = go (has (row_at c.rows r) (v - 1)) refl
  where
    go : (b : Bool) → has (row_at c.rows r) (v - 1) ≡ b → b ≡ false
    go false e = refl
    go true e =
        let col = say.in_columns r lt (v - 1) e in
        let back : v - 1 + 1 ≡ v = omega arith in
        absurd (let h = place_in c.columns v col.0 col.1 (col.2 ∙ back) in omega arith)
