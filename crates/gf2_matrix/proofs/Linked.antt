-- Columns of linked variables.
use Rattle.std.proofs.Common.{◌≡◌, ℕ, ◌+◌, ◌<◌, zero, suc, true, false, true≢false, List, [], length, get_or, sym, ap, ◌∙◌, subst, arith, inl, inr}
use Rattle.std.specs.FinSet as set
use Rattle.std.proofs.lemmas.Bool.{cases_lt}
use Rattle.cx_base.specs.Literals.{Literal}
use Rattle.cx_base.specs.Parity.{normal_form}
use Rattle.parity_engine.proofs.Rising.{columns_rise, rises_along}
use Rattle.gf2_matrix.specs.Columns.{place}
use Rattle.gf2_matrix.specs.Content.{AreColumns}
use Rattle.gf2_matrix.specs.Packed.{Window, window_at, AreWindows}
use Rattle.gf2_matrix.specs.Made.{AreLinked, share, chain, RiseInParts}
use Rattle.gf2_matrix.proofs.PlaceLaws.{found_column}
use Rattle.gf2_matrix.proofs.Rows.{place-holds}

module _ (vars count : ℕ) (given : List (List Literal)) (columns : List ℕ) (windows : List Window) (home : ℕ → ℕ)
    (are : AreColumns vars columns) (apart : AreWindows vars count columns windows)
    (at_home : (k : ℕ) → k < length given → home k < length windows)
    (none : (k : ℕ) → k < length given → set.contains (normal_form (get_or given k [])).variables 0 ≡ false)
    (placed : (k x : ℕ) → k < length given → set.contains (normal_form (get_or given k [])).variables (x + 1) ≡ true
    → place (window_at windows (home k)).columns (x + 1) < length (window_at windows (home k)).columns) where
  -- the variable has a column of the part
  IsIn : ℕ → ℕ → Type 0
  IsIn p v = place (window_at windows p).columns v < length (window_at windows p).columns

  placed_at : (k v : ℕ) → k < length given → set.contains (normal_form (get_or given k [])).variables v ≡ true → IsIn (home k) v
  unfolding IsIn
  placed_at k zero lt on = absurd (true≢false (sym on ∙ none k lt))
  placed_at k (suc x) lt on =
      let e : x + 1 ≡ suc x = omega arith in
      subst (λ v. place (window_at windows (home k)).columns v < length (window_at windows (home k)).columns) e
      (placed k x lt (subst (λ v. set.contains (normal_form (get_or given k [])).variables v ≡ true) (sym e) on))

  -- a variable has columns of one part alone
  one_part : (p q v : ℕ) → p < length windows → q < length windows → IsIn p v → IsIn q v → p ≡ q
  unfolding IsIn
  one_part p q v p_in q_in a b =
      sym (apart.labelled p (place (window_at windows p).columns v) p_in a) ∙ ap apart.label (place-holds (window_at windows p).columns v a ∙ sym (place-holds (window_at windows q).columns v b))
      ∙ apart.labelled q (place (window_at windows q).columns v) q_in b

  -- linked variables have columns of one part
  in_one : (v w : ℕ) → AreLinked given v w → (p : ℕ) × (p < length windows) × IsIn p v × IsIn p w
  in_one v w (share k lt a b) = (home k, at_home k lt, placed_at k v lt a, placed_at k w lt b)
  in_one v w (chain u a b) =
      let first = in_one v u a in
      let second = in_one u w b in
      let same = one_part second.0 first.0 u second.1 first.1 second.2 first.3 in
      (first.0, first.1, first.2, subst (λ p. IsIn p w) same second.3)

  -- the column of a variable among all columns
  place_of : (p v : ℕ) → p < length windows → IsIn p v → place columns v ≡ (window_at windows p).base + place (window_at windows p).columns v
  unfolding IsIn
  place_of p v p_in a =
      let room = apart.room p p_in in
      found_column columns v ((window_at windows p).base + place (window_at windows p).columns v) are.apart (omega arith)
      (apart.read p (place (window_at windows p).columns v) p_in a ∙ place-holds (window_at windows p).columns v a)

  pub rise_in_parts : RiseInParts given columns
  unfolding IsIn
  rise_in_parts v w linked less =
      let at = in_one v w linked in
      let cs : List ℕ = (window_at windows at.0).columns in
      let ev = place_of at.0 v at.1 at.2 in
      let ew = place_of at.0 w at.1 at.3 in
      elim (cases_lt (place cs v) (place cs w)) [
        | inl lt ↦ omega arith
        | inr ge ↦
            let falls = rises_along 1 cs (place cs w) (place cs v) (columns_rise 1 vars cs (apart.rise at.0 at.1)) ge at.2 in
            let hv = place-holds cs v at.2 in
            let hw = place-holds cs w at.3 in
            absurd (omega arith)
      ]
