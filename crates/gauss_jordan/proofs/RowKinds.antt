-- From the masks of columns to what follows from the parities.
use Rattle.std.proofs.Common.{◌≡◌, ◌≢◌, ℕ, ◌+◌, ◌-◌, ◌<◌, Bool, true, false, not, List, [], map, length, get_or, Option, Some, None, ◌⊎◌, inl, inr, refl, sym, ap, ◌∙◌, subst, arith}
use Rattle.std.specs.List.{list_all, AllByRecursion}
use Rattle.std.proofs.lemmas.Bool.{cases_eq, cases_lt, ne_eqb, eqb-false, cases_Bool}
use Rattle.std.proofs.lemmas.List.{length-map, get_or-map}
use Rattle.cx_base.specs.Literals.{differ}
use Rattle.cx_base.specs.Problem.{AreWithin, parity_met}
use Rattle.cx_base.proofs.Differences.{same-differ}
use Rattle.gf2_rows.specs.Bits.{bit_of, is_skipped}
use Rattle.parity_engine.specs.Equations.{Equation, has_term, form_of}
use Rattle.gf2_matrix.specs.Totals.{total, MeetsEquation}
use Rattle.gf2_matrix.specs.Content.{Content, no_row, row_at, equation, form, has, IsOpenAt, IsReducedRow, IsOfGiven, AreColumns}
use Rattle.gauss_jordan.specs.declared.found.RowKind.TheVariants.{Met, Unmet, Unit, Open}
use Rattle.gauss_jordan.specs.Rows.{IsFinished, IsUnfinished, part_at}
use Rattle.parity_engine.specs.State.{State, is_unassigned, IsSilent, IsImplied, IsBroken}
use Rattle.gauss_jordan.specs.System.{part, equation_at, has_term_at, total_at, right_at, IsSystemOf, filled, IsWhole, IsOneOpen}
use Rattle.gauss_jordan.specs.Found.{IsClosed, IsClosedBut, SumsTo, IsKind, IsMasked}
use Rattle.gauss_jordan.proofs.Events.{silent_from_quiet, implied_from_unit, broken_from_whole, finished_from_whole, part-at, none_from, length-filled}

-- ---- columns
-- different columns are different variables
pub columns-differ : (vars : ℕ) (cols : List ℕ) (j k : ℕ) → AreColumns vars cols → j < length cols → k < length cols → j ≢ k → get_or cols j 0 - 1 ≢ get_or cols k 0 - 1
columns-differ vars cols j k are jl kl ne e =
    let lowj = are.low j jl in
    let lowk = are.low k kl in
    ne (are.apart j k jl kl (omega arith))

-- ---- one row
-- a search that found no column
pub closed_from : (c : Content) (assigned : List ℕ) (r : ℕ)
    → ((k : ℕ) → k < length c.columns → bit_of assigned k ≡ false → is_skipped None k ≡ false → has (row_at c.rows r) (get_or c.columns k 0 - 1) ≡ false) → IsClosed c assigned r
closed_from c assigned r none x o = subst (λ y. has (row_at c.rows r) y ≡ false) o.3 (none o.0 o.1 o.2 refl)

pub closed_but : (c : Content) (assigned : List ℕ) (r j : ℕ)
    → ((k : ℕ) → k < length c.columns → bit_of assigned k ≡ false → is_skipped (Some j) k ≡ false → has (row_at c.rows r) (get_or c.columns k 0 - 1) ≡ false) → IsClosedBut c assigned r j
closed_but c assigned r j none x o ne =
    let k : ℕ = o.0 in
    let other : j ≡ k → ⊥ = λ e. ne (sym o.3 ∙ ap (λ i. get_or c.columns i 0 - 1) (sym e)) in
    subst (λ y. has (row_at c.rows r) y ≡ false) o.3 (none k o.1 o.2 (ne_eqb j k other))

-- a column that a search found
abbrev pub IsSeen : Content → List ℕ → ℕ → Option ℕ → ℕ → Type 0
IsSeen c assigned r skip k = (k < length c.columns) × (bit_of assigned k ≡ false) × (is_skipped skip k ≡ false) × (has (row_at c.rows r) (get_or c.columns k 0 - 1) ≡ true)

pub two_open : (c : Content) (assigned : List ℕ) (r j k : ℕ) → IsOfGiven c → IsSeen c assigned r None j → IsSeen c assigned r (Some j) k → IsKind c assigned [] r Open
two_open c assigned r j k of_given a b = (
  get_or c.columns j 0 - 1,
  get_or c.columns k 0 - 1,
  (j, a.0, a.1, refl),
  (k, b.0, b.1, refl),
  (λ e. columns-differ c.vars c.columns j k of_given.columns_are a.0 b.0 (eqb-false j k b.2) (sym e)),
  a.3,
  b.3,
)

-- ---- all rows
module _ (c : Content) (of_given : IsOfGiven c) (assigned truths : List ℕ) (s : State) (masked : IsMasked s c assigned truths) where
  pub rows : List Equation
  rows = map equation c.rows

  pub length-rows : length rows ≡ length c.rows
  unfolding rows
  length-rows = length-map c.rows equation

  pub row-is : (i : ℕ) → i < length c.rows → equation_at rows i ≡ equation (row_at c.rows i)
  unfolding rows
  row-is i lt = get_or-map equation c.rows i no_row (record { terms = []; right = false }) lt

  pub system : IsSystemOf s rows
  system = record {
    long = λ i lt. ap (λ (e : Equation). length e.terms) (row-is i (omega (arith, length-rows))) ∙ (of_given.long i (omega (arith, length-rows))).0 ∙ sym masked.vars;
    sound = λ v long met i lt.
        subst (MeetsEquation v) (sym (row-is i (omega (arith, length-rows))))
        (of_given.sound v (long ∙ masked.vars) (subst (λ ps. list_all (parity_met v) ps ≡ true) masked.parities met) i (omega (arith, length-rows)));
    complete = λ v long met.
        subst (λ ps. list_all (parity_met v) ps ≡ true) (sym masked.parities)
        (of_given.complete v (long ∙ masked.vars) (λ i lt. subst (MeetsEquation v) (row-is i lt) (met i (omega (arith, length-rows)))));
  }

  pub within : AllByRecursion (AreWithin s.vars) s.parities
  within = subst (λ n. AllByRecursion (AreWithin n) s.parities) (sym masked.vars) (subst (AllByRecursion (AreWithin c.vars)) (sym masked.parities) of_given.within)

  not-flip : (b d : Bool) → b ≡ not d → b ≡ true → d ≡ false
  not-flip b true e h = let clash : true ≡ false = sym h ∙ e in cc
  not-flip b false e h = refl

  not-back : (b d : Bool) → b ≡ not d → b ≡ false → d ≡ true
  not-back b true e h = refl
  not-back b false e h = let clash : true ≡ false = sym e ∙ h in cc

  -- an open column is an unassigned variable
  open_unassigned : (x : ℕ) → IsOpenAt c assigned x → is_unassigned (get_or s.values x None) ≡ true
  open_unassigned x o =
      subst (λ y. is_unassigned (get_or s.values y None) ≡ true) o.3
      (not-back (bit_of assigned o.0) (is_unassigned (get_or s.values (get_or c.columns o.0 0 - 1) None)) (masked.masks o.0 o.1) o.2)

  -- a variable of a row that is not open is assigned
  pub assigned_unless : (i : ℕ) → i < length c.rows → (x : ℕ) → has (row_at c.rows i) x ≡ true → (IsOpenAt c assigned x → ⊥) → is_unassigned (get_or s.values x None) ≡ false
  assigned_unless i lt x has_x closed =
      let place = of_given.in_columns i lt x has_x in
      let k : ℕ = place.0 in
      let at : get_or c.columns k 0 - 1 ≡ x = let e = place.2 in omega arith in
      elim (cases_Bool (bit_of assigned k)) [
        | inl on ↦
            subst (λ y. is_unassigned (get_or s.values y None) ≡ false) at
            (not-flip (bit_of assigned k) (is_unassigned (get_or s.values (get_or c.columns k 0 - 1) None)) (masked.masks k place.1) on)
        | inr free ↦ absurd (closed (k, place.1, free, at))
      ]

  whole : (i : ℕ) → i < length c.rows → IsClosed c assigned i → IsWhole s (has_term (equation_at rows i))
  whole i lt closed =
      subst (λ (e : Equation). IsWhole s (has_term e)) (sym (row-is i lt))
      (λ x has_x. assigned_unless i lt x has_x (λ o. let clash : true ≡ false = sym has_x ∙ closed x o in cc))

  pub filled_sum : (i : ℕ) (b : Bool) → i < length c.rows → SumsTo c truths i b → differ (total_at rows i (filled s)) (right_at rows i) ≡ b
  filled_sum i b lt sums =
      subst (λ (e : Equation). differ (total e (filled s)) e.right ≡ b) (sym (row-is i lt))
      (sums (filled s) (length-filled s ∙ masked.wide ∙ masked.vars) masked.holds)

  differ-unlike : (a b : Bool) → differ a b ≡ true → a ≡ b → ⊥
  differ-unlike true true h e = let clash : true ≡ false = sym h in cc
  differ-unlike true false h e = let clash : true ≡ false = e in cc
  differ-unlike false true h e = let clash : true ≡ false = sym e in cc
  differ-unlike false false h e = let clash : true ≡ false = sym h in cc

  pub finished : (i : ℕ) → i < length c.rows → IsKind c assigned truths i Met → IsFinished s.vars (total_at rows) (right_at rows) (part s) i
  finished i lt kind =
      finished_from_whole s rows within masked.wide system i (omega (arith, length-rows)) (whole i lt kind.0)
      (same-differ (total_at rows i (filled s)) (right_at rows i) (filled_sum i false lt kind.1))

  pub in_vars : (x : ℕ) → IsOpenAt c assigned x → x < s.vars
  in_vars x o =
      let low = of_given.columns_are.low o.0 o.1 in
      let high = of_given.columns_are.high o.0 o.1 in
      let at = o.3 in
      let v = masked.vars in
      omega arith

  pub none_at : (x : ℕ) → IsOpenAt c assigned x → part_at (part s) x ≡ None
  none_at x o = part-at s x ∙ none_from (get_or s.values x None) (open_unassigned x o)

  unfinished : (i : ℕ) → i < length c.rows → IsKind c assigned truths i Open → IsReducedRow c assigned i
      → (b : ℕ) × (o : ℕ) × IsUnfinished (length rows) s.vars (has_term_at rows) (part s) i b o
  unfinished i lt kind reduced =
      let x : ℕ = kind.0 in
      let y : ℕ = kind.1 in
      elim reduced [
        | inl closed ↦ absurd (let clash : true ≡ false = sym kind.5 ∙ closed x kind.2 in cc)
        | inr b ↦
            let made : (o : ℕ) → IsOpenAt c assigned o → has (row_at c.rows i) o ≡ true → o ≢ b.0 → IsUnfinished (length rows) s.vars (has_term_at rows) (part s) i b.0 o =
            λ o open_o has_o apart. record {
              basic_in = in_vars b.0 b.1;
              has_basic = ap (λ (e : Equation). has_term e b.0) (row-is i lt) ∙ b.2;
              basic_open = none_at b.0 b.1;
              alone = λ j small ne. ap (λ (e : Equation). has_term e b.0) (row-is j (omega (arith, length-rows))) ∙ b.3 j (omega (arith, length-rows)) ne;
              other_in = in_vars o open_o;
              has_other = ap (λ (e : Equation). has_term e o) (row-is i lt) ∙ has_o;
              other_open = none_at o open_o;
              apart = apart;
            } in
            elim (cases_eq x b.0) [
              | inl e ↦ (b.0, y, made y kind.3 kind.6 (λ h. kind.4 (h ∙ sym e)))
              | inr ne ↦ (b.0, x, made x kind.2 kind.5 ne)
            ]
      ]

  pub silent : ((r : ℕ) → r < length c.rows → IsReducedRow c assigned r) → ((r : ℕ) → r < length c.rows → IsKind c assigned truths r Met ⊎ IsKind c assigned truths r Open) → IsSilent s
  silent reduced kinds =
      let P : ℕ → Type 0 = IsFinished s.vars (total_at rows) (right_at rows) (part s) in
      let Q : ℕ → ℕ → ℕ → Type 0 = IsUnfinished (length rows) s.vars (has_term_at rows) (part s) in
      let pick : (i : ℕ) → (b : ℕ) × (o : ℕ) × (i < length rows → P i ⊎ Q i b o) =
      λ i.
      elim (cases_lt i (length c.rows)) [
        | inl lt ↦
            elim (kinds i lt) [
              | inl met ↦ (0, 0, λ h. inl (finished i lt met))
              | inr open' ↦ let u = unfinished i lt open' (reduced i lt) in (u.0, u.1, λ h. inr u.2)
            ]
        | inr ge ↦ (0, 0, λ h. absurd (omega (arith, length-rows)))
      ] in
      silent_from_quiet s rows (λ i. (pick i).0) (λ i. (pick i).1) masked.wide system (λ i lt. (pick i).2 lt)

  pub contradicted : (r : ℕ) → r < length c.rows → IsKind c assigned truths r Unmet → IsBroken s (form (row_at c.rows r))
  contradicted r lt kind =
      subst (λ (e : Equation). IsBroken s (form_of e)) (row-is r lt)
      (broken_from_whole s rows r within masked.wide system (omega (arith, length-rows)) (whole r lt kind.0)
      (differ-unlike (total_at rows r (filled s)) (right_at rows r) (filled_sum r true lt kind.1)))

  pub implied : (r k : ℕ) (b : Bool) → r < length c.rows → IsKind c assigned truths r (Unit k b)
      → IsImplied s (record { variable = get_or c.columns k 0; negative = not b }) (form (row_at c.rows r))
  implied r k b lt kind =
      let x : ℕ = get_or c.columns k 0 - 1 in
      let o : IsOpenAt c assigned x = (k, kind.0, kind.1, refl) in
      let low = of_given.columns_are.low k kind.0 in
      let at : x + 1 ≡ get_or c.columns k 0 = omega arith in
      let unit : IsOneOpen s (has_term (equation_at rows r)) x =
      subst (λ (e : Equation). IsOneOpen s (has_term e) x) (sym (row-is r lt))
      (record {
        within = in_vars x o;
        has_it = kind.2;
        unassigned = open_unassigned x o;
        others = λ y ne has_y. assigned_unless r lt y has_y (λ oy. let clash : true ≡ false = sym has_y ∙ kind.3 y oy ne in cc);
      }) in
      let made = implied_from_unit s rows r x within masked.wide system (omega (arith, length-rows)) unit in
      subst (λ v. IsImplied s (record { variable = v; negative = not b }) (form (row_at c.rows r))) at
      (subst (λ d. IsImplied s (record { variable = x + 1; negative = not d }) (form (row_at c.rows r))) (filled_sum r b lt kind.4)
      (subst (λ (e : Equation). IsImplied s (record { variable = x + 1; negative = not (differ (total_at rows r (filled s)) (right_at rows r)) }) (form_of e)) (row-is r lt) made))

-- ---- the loop over the rows
pub one_more : (c : Content) (assigned truths : List ℕ) (r : ℕ) → IsKind c assigned truths r Met ⊎ IsKind c assigned truths r Open
    → ((i : ℕ) → i < r → IsKind c assigned truths i Met ⊎ IsKind c assigned truths i Open)
    → (i : ℕ) → i < r + 1 → IsKind c assigned truths i Met ⊎ IsKind c assigned truths i Open
one_more c assigned truths r here before i lt =
    elim (cases_eq i r) [
      | inl e ↦ subst (λ j. IsKind c assigned truths j Met ⊎ IsKind c assigned truths j Open) (sym e) here
      | inr ne ↦ before i (omega arith)
    ]
