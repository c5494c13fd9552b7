-- Rows that are finished or have two unassigned columns force nothing.
use Rattle.std.proofs.Common.{◌≡◌, ◌≢◌, ℕ, ◌<◌, ◌≤◌, zero, suc, Bool, true, false, not, List, map, length, get_or, set, Option, Some, None, ◌⊎◌, inl, inr, refl, sym, ap, ◌∙◌, subst, arith}
use Rattle.std.proofs.lemmas.List.{get_or-set_same, get_or-set_other, length-map}
use Rattle.std.proofs.Math.ListN.{length-set, get_or-map}
use Rattle.std.proofs.lemmas.Bool.{cases_eq}
use Rattle.cx_base.specs.Literals.{differ}
use Rattle.cx_base.proofs.ParityLaws.{differ_false}
use Rattle.cx_base.proofs.Differences.{differ_twice}
use Rattle.gauss_jordan.specs.Rows.{value_at, part_at, Agrees, IsFinished, IsUnfinished, IsQuiet}

-- the sum of a row turns over with each value that the row has, and with no other
abbrev pub IsLinear : ℕ → ℕ → (ℕ → ℕ → Bool) → (ℕ → List Bool → Bool) → Type 0
IsLinear rows width has total =
    (i x : ℕ) (v : List Bool) → i < rows → length v ≡ width → x < width → total i (set v x (not (value_at v x))) ≡ differ (total i v) (has i x)

-- values that agree with the part and meet all rows
pub record IsSolution (rows width : ℕ) (total : ℕ → List Bool → Bool) (right : ℕ → Bool) (part : List (Option Bool)) (v : List Bool) : Type 0 where
  pub long : length v ≡ width
  pub agrees : Agrees part v
  pub meets : (i : ℕ) → i < rows → total i v ≡ right i

-- each unassigned position takes both values in solutions, and there is a solution
abbrev pub TakesBothValues : ℕ → ℕ → (ℕ → List Bool → Bool) → (ℕ → Bool) → List (Option Bool) → Type 0
TakesBothValues rows width total right part =
    ((v : List Bool) × IsSolution rows width total right part v)
    × ((x : ℕ) (b : Bool) → x < width → part_at part x ≡ None → (v : List Bool) × IsSolution rows width total right part v × (value_at v x ≡ b))

-- two bits that differ
unlike : (a b : Bool) → (a ≡ b → ⊥) → differ a true ≡ b
unlike true true h = absurd (h refl)
unlike true false h = refl
unlike false true h = refl
unlike false false h = absurd (h refl)

same_or_not : (a b : Bool) → (a ≡ b) ⊎ (a ≡ b → ⊥)
same_or_not true true = inl refl
same_or_not true false = inr (λ e. cc)
same_or_not false true = inr (λ e. cc)
same_or_not false false = inl refl

not_same : (a b : Bool) → (a ≡ b → ⊥) → not a ≡ b
not_same true true h = absurd (h refl)
not_same true false h = refl
not_same false true h = refl
not_same false false h = absurd (h refl)

-- the value turned over at a position
turn : List Bool → ℕ → List Bool
turn v x = set v x (not (get_or v x false))

length-turn : (v : List Bool) (x : ℕ) → length (turn v x) ≡ length v
unfolding turn
length-turn v x = length-set v x (not (get_or v x false))

turn-same : (v : List Bool) (x : ℕ) → x < length v → get_or (turn v x) x false ≡ not (get_or v x false)
unfolding turn
turn-same v x lt = get_or-set_same v x (not (get_or v x false)) false lt

turn-other : (v : List Bool) (x y : ℕ) → y ≢ x → get_or (turn v x) y false ≡ get_or v y false
unfolding turn
turn-other v x y ne = get_or-set_other v x y (not (get_or v x false)) false ne

agrees-turn : (part : List (Option Bool)) (v : List Bool) (x : ℕ) → part_at part x ≡ None → Agrees part v → Agrees part (turn v x)
agrees-turn part v x free agrees y b is =
    elim (cases_eq y x) [
      | inl e ↦ let at : part_at part x ≡ Some b = subst (λ z. part_at part z ≡ Some b) e is in cc
      | inr ne ↦ turn-other v x y ne ∙ agrees y b is
    ]

module _ (rows width : ℕ) (has : ℕ → ℕ → Bool) (total : ℕ → List Bool → Bool) (right : ℕ → Bool) (linear : IsLinear rows width has total)
    (part : List (Option Bool)) (basic other : ℕ → ℕ) (quiet : IsQuiet rows width has total right part basic other) where
  total-turn : (i x : ℕ) (v : List Bool) → i < rows → length v ≡ width → x < width → total i (turn v x) ≡ differ (total i v) (has i x)
  unfolding turn
  total-turn i x v in' long lt = linear i x v in' long lt

  -- the values as they are where they meet row n, and otherwise with its basic column turned over
  choose : (w : List Bool) (n : ℕ) → (total n w ≡ right n) ⊎ (total n w ≡ right n → ⊥) → List Bool
  choose w n (inl met) = w
  choose w n (inr unmet) = turn w (basic n)

  -- the first n rows are met in turn, each by its basic column
  solve : ℕ → List Bool → List Bool
  solve zero v = v
  solve (suc n) v = choose (solve n v) n (same_or_not (total n (solve n v)) (right n))

  unmet_row : (n : ℕ) → n < rows → (w : List Bool) → length w ≡ width → Agrees part w → (total n w ≡ right n → ⊥)
      → IsUnfinished rows width has part n (basic n) (other n)
  unmet_row n lt w long agrees unmet = elim (quiet n lt) [ inl finished ↦ absurd (unmet (finished w long agrees)) | inr u ↦ u ]

  turned_other : (n m : ℕ) (w : List Bool) → length w ≡ width → IsUnfinished rows width has part n (basic n) (other n) → m < rows → m ≢ n
      → total m (turn w (basic n)) ≡ total m w
  turned_other n m w long u lt ne =
      total-turn m (basic n) w lt long u.basic_in ∙ ap (differ (total m w)) (u.alone m lt ne) ∙ differ_false (total m w)

  record Solved (n : ℕ) (w : List Bool) : Type 0 where
    long : length w ≡ width
    agrees : Agrees part w
    meets : (i : ℕ) → i < n → total i w ≡ right i

  chosen : (n : ℕ) (w : List Bool) → n < rows → Solved n w → (s : (total n w ≡ right n) ⊎ (total n w ≡ right n → ⊥)) → Solved (suc n) (choose w n s)
  unfolding choose
  chosen n w lt before (inl met) = record {
    long = before.long;
    agrees = before.agrees;
    meets = λ i small. elim (cases_eq i n) [ inl e ↦ subst (λ k. total k w ≡ right k) (sym e) met | inr ne ↦ before.meets i (omega arith) ];
  }
  chosen n w lt before (inr unmet) =
      let u = unmet_row n lt w before.long before.agrees unmet in
      record {
        long = length-turn w (basic n) ∙ before.long;
        agrees = agrees-turn part w (basic n) u.basic_open before.agrees;
        meets = λ i small.
            elim (cases_eq i n) [
              | inl e ↦
                  subst (λ k. total k (turn w (basic n)) ≡ right k) (sym e)
                  (total-turn n (basic n) w lt before.long u.basic_in ∙ ap (differ (total n w)) u.has_basic ∙ unlike (total n w) (right n) unmet)
              | inr ne ↦ turned_other n i w before.long u (omega arith) ne ∙ before.meets i (omega arith)
            ];
      }

  solved : (n : ℕ) → n ≤ rows → (v : List Bool) → length v ≡ width → Agrees part v → Solved n (solve n v)
  unfolding solve
  solved zero le v long agrees = record { long = long; agrees = agrees; meets = λ i small. absurd (omega arith) }
  solved (suc n) le v long agrees = chosen n (solve n v) (omega arith) (solved n (omega arith) v long agrees) (same_or_not (total n (solve n v)) (right n))

  -- each row whose basic column is x is met
  Guards : ℕ → List Bool → Type 0
  Guards x w = (m : ℕ) → m < rows → basic m ≡ x → total m w ≡ right m

  kept_by : (n : ℕ) (w : List Bool) (x : ℕ) → n < rows → Solved n w → Guards x w → (s : (total n w ≡ right n) ⊎ (total n w ≡ right n → ⊥))
      → (get_or (choose w n s) x false ≡ get_or w x false) × Guards x (choose w n s)
  unfolding choose Guards
  kept_by n w x lt before guards (inl met) = (refl, guards)
  kept_by n w x lt before guards (inr unmet) =
      let u = unmet_row n lt w before.long before.agrees unmet in
      let away : basic n ≡ x → ⊥ = λ e. unmet (guards n lt e) in (
        turn-other w (basic n) x (λ e. away (sym e)),
        λ m small is.
            let ne : m ≡ n → ⊥ = λ e. away (subst (λ k. basic k ≡ x) e is) in
            turned_other n m w before.long u small ne ∙ guards m small is,
      )

  kept : (n : ℕ) → n ≤ rows → (v : List Bool) → length v ≡ width → Agrees part v → (x : ℕ) → Guards x v
      → (get_or (solve n v) x false ≡ get_or v x false) × Guards x (solve n v)
  unfolding solve
  kept zero le v long agrees x guards = (refl, guards)
  kept (suc n) le v long agrees x guards =
      let before = kept n (omega arith) v long agrees x guards in
      let now = kept_by n (solve n v) x (omega arith) (solved n (omega arith) v long agrees) before.1 (same_or_not (total n (solve n v)) (right n)) in
      (now.0 ∙ before.0, now.1)

  -- of the first n rows, one that is unfinished has x for its basic column, or each that has it is met by all values
  search_basic : (x n : ℕ) → n ≤ rows
      → ((i : ℕ) × (i < rows) × (basic i ≡ x) × IsUnfinished rows width has part i (basic i) (other i))
      ⊎ ((m : ℕ) → m < n → basic m ≡ x → IsFinished width total right part m)
  search_basic x zero le = inr (λ m small. absurd (omega arith))
  search_basic x (suc n) le =
      elim (search_basic x n (omega arith)) [
        | inl found ↦ inl found
        | inr none ↦
            elim (cases_eq (basic n) x) [
              | inl e ↦
                  elim (quiet n (omega arith)) [
                    | inl finished ↦ inr (λ m small is. elim (cases_eq m n) [ inl same ↦ subst (IsFinished width total right part) (sym same) finished | inr ne ↦ none m (omega arith) is ])
                    | inr u ↦ inl (n, omega arith, e, u)
                  ]
              | inr away ↦ inr (λ m small is. elim (cases_eq m n) [ inl same ↦ absurd (away (subst (λ k. basic k ≡ x) same is)) | inr ne ↦ none m (omega arith) is ])
            ]
      ]

  given : Option Bool → Bool
  given None = false
  given (Some b) = b

  fill : List Bool
  fill = map given part

  fill_agrees : Agrees part fill
  unfolding fill given
  fill_agrees x b is = get_or-map given part x None ∙ ap given is

  module _ (wide : length part ≡ width) where
    length-fill : length fill ≡ width
    unfolding fill
    length-fill = length-map part given ∙ wide

    solution : (v : List Bool) → length v ≡ width → Agrees part v → IsSolution rows width total right part (solve rows v)
    solution v long agrees =
        let s = solved rows (omega arith) v long agrees in
        record { long = s.long; agrees = s.agrees; meets = s.meets }

    -- from a solution, one with the other value at x
    other_value : (x : ℕ) (b : Bool) → x < width → part_at part x ≡ None → (s : List Bool) → IsSolution rows width total right part s
        → (get_or s x false ≡ b → ⊥) → (v : List Bool) × IsSolution rows width total right part v × (value_at v x ≡ b)
    unfolding Guards
    other_value x b in' free s is differs =
        let t : List Bool = turn s x in
        let long : length t ≡ width = length-turn s x ∙ is.long in
        let agrees : Agrees part t = agrees-turn part s x free is.agrees in
        let turned : get_or t x false ≡ b = turn-same s x (omega (arith, is.long)) ∙ not_same (get_or s x false) b differs in
        elim (search_basic x rows (omega arith)) [
          | inr none ↦ (solve rows t, solution t long agrees, (kept rows (omega arith) t long agrees x (λ m small e. none m small e t long agrees)).0 ∙ turned)
          | inl found ↦
              let i : ℕ = found.0 in
              let u = found.3 in
              let apart : x ≡ other i → ⊥ = λ e. u.apart (sym (found.2 ∙ e)) in
              let w : List Bool = turn t (other i) in
              let longw : length w ≡ width = length-turn t (other i) ∙ long in
              let agreesw : Agrees part w = agrees-turn part t (other i) u.other_open agrees in
              let has_x : has i x ≡ true = subst (λ k. has i k ≡ true) found.2 u.has_basic in
              let met : total i w ≡ right i =
              total-turn i (other i) t found.1 long u.other_in ∙ ap (λ h. differ (total i t) h) u.has_other
              ∙ ap (λ h. differ h true) (total-turn i x s found.1 is.long in' ∙ ap (λ h. differ (total i s) h) has_x) ∙ differ_twice (total i s) true ∙ is.meets i found.1 in
              let guards : (m : ℕ) → m < rows → basic m ≡ x → total m w ≡ right m =
              λ m small e.
              elim (cases_eq m i) [
                | inl same ↦ subst (λ k. total k w ≡ right k) (sym same) met
                | inr ne ↦
                    elim (quiet m small) [
                      | inl finished ↦ finished w longw agreesw
                      | inr um ↦
                          let no : has m (basic m) ≡ false = subst (λ k. has m k ≡ false) (found.2 ∙ sym e) (u.alone m small ne) in
                          let yes : has m (basic m) ≡ true = um.has_basic in
                          let clash : true ≡ false = sym yes ∙ no in
                          cc
                    ]
              ] in
              (solve rows w, solution w longw agreesw, (kept rows (omega arith) w longw agreesw x guards).0 ∙ turn-other t (other i) x apart ∙ turned)
        ]

    pub open_from_quiet : TakesBothValues rows width total right part
    open_from_quiet =
        let s : List Bool = solve rows fill in
        let is = solution fill length-fill fill_agrees in (
          (s, is),
          λ x b in' free.
              elim (same_or_not (get_or s x false) b) [
                | inl e ↦ (s, is, e)
                | inr ne ↦ other_value x b in' free s is ne
              ],
        )
