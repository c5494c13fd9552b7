-- Rows of a list, read and written.
use Rattle.std.proofs.Common.{◌≡◌, ◌≢◌, ℕ, ◌+◌, ◌<◌, zero, suc, Bool, false, List, [], ◌∷◌, ◌++◌, map, length, get_or, set, refl, sym, ap, ◌∙◌, arith}
use Rattle.std.proofs.lemmas.List.{get_or-map, length-map, map-set, get_or-set_same, get_or-set_other}
use Rattle.gf2_lists.specs.declared.row.ListedRow.{ListedRow}
use Rattle.gf2_lists.specs.Listed.{vars_at, right_at}

pub read_vars : (rows : List ListedRow) (i : ℕ) (d : ListedRow) → i < length rows → d ≡ get_or rows i d → vars_at rows i ≡ d.vars.items
read_vars rows i d lt is = get_or-map (λ (r : ListedRow). r.vars.items) rows i d [] lt ∙ ap (λ (r : ListedRow). r.vars.items) (sym is)

pub read_right : (rows : List ListedRow) (i : ℕ) (d : ListedRow) → i < length rows → d ≡ get_or rows i d → right_at rows i ≡ d.right
read_right rows i d lt is = get_or-map (λ (r : ListedRow). r.right) rows i d false lt ∙ ap (λ (r : ListedRow). r.right) (sym is)

pub length-set : (rows : List ListedRow) (i : ℕ) (y : ListedRow) → length (set rows i y) ≡ length rows
length-set [] i y = refl
length-set (x ∷ rows) zero y = refl
length-set (x ∷ rows) (suc i) y = ap suc (length-set rows i y)

pub vars_same : (rows : List ListedRow) (i : ℕ) (y : ListedRow) → i < length rows → vars_at (set rows i y) i ≡ y.vars.items
vars_same rows i y lt =
    let long = length-map rows (λ (r : ListedRow). r.vars.items) in
    ap (λ (xs : List (List ℕ)). get_or xs i []) (map-set (λ (r : ListedRow). r.vars.items) rows i y)
    ∙ get_or-set_same (map (λ (r : ListedRow). r.vars.items) rows) i y.vars.items [] (omega arith)

pub vars_other : (rows : List ListedRow) (i j : ℕ) (y : ListedRow) → j ≢ i → vars_at (set rows i y) j ≡ vars_at rows j
vars_other rows i j y ne =
    ap (λ (xs : List (List ℕ)). get_or xs j []) (map-set (λ (r : ListedRow). r.vars.items) rows i y)
    ∙ get_or-set_other (map (λ (r : ListedRow). r.vars.items) rows) i j y.vars.items [] ne

pub right_same : (rows : List ListedRow) (i : ℕ) (y : ListedRow) → i < length rows → right_at (set rows i y) i ≡ y.right
right_same rows i y lt =
    let long = length-map rows (λ (r : ListedRow). r.right) in
    ap (λ (xs : List Bool). get_or xs i false) (map-set (λ (r : ListedRow). r.right) rows i y)
    ∙ get_or-set_same (map (λ (r : ListedRow). r.right) rows) i y.right false (omega arith)

pub right_other : (rows : List ListedRow) (i j : ℕ) (y : ListedRow) → j ≢ i → right_at (set rows i y) j ≡ right_at rows j
right_other rows i j y ne =
    ap (λ (xs : List Bool). get_or xs j false) (map-set (λ (r : ListedRow). r.right) rows i y)
    ∙ get_or-set_other (map (λ (r : ListedRow). r.right) rows) i j y.right false ne

-- ---- one more row
pub length_push : (rows : List ListedRow) (y : ListedRow) → length (rows ++ y ∷ []) ≡ length rows + 1
length_push [] y = refl
length_push (x ∷ rows) y = let h = length_push rows y in omega arith

pub vars_front : (rows : List ListedRow) (y : ListedRow) (i : ℕ) → i < length rows → vars_at (rows ++ y ∷ []) i ≡ vars_at rows i
vars_front [] y i lt = absurd (omega arith)
vars_front (x ∷ rows) y zero lt = refl
vars_front (x ∷ rows) y (suc i) lt = vars_front rows y i (omega arith)

pub right_front : (rows : List ListedRow) (y : ListedRow) (i : ℕ) → i < length rows → right_at (rows ++ y ∷ []) i ≡ right_at rows i
right_front [] y i lt = absurd (omega arith)
right_front (x ∷ rows) y zero lt = refl
right_front (x ∷ rows) y (suc i) lt = right_front rows y i (omega arith)

pub vars_last : (rows : List ListedRow) (y : ListedRow) (i : ℕ) → i ≡ length rows → vars_at (rows ++ y ∷ []) i ≡ y.vars.items
vars_last [] y zero e = refl
vars_last [] y (suc i) e = absurd (omega arith)
vars_last (x ∷ rows) y zero e = absurd (omega arith)
vars_last (x ∷ rows) y (suc i) e = vars_last rows y i (omega arith)

pub right_last : (rows : List ListedRow) (y : ListedRow) (i : ℕ) → i ≡ length rows → right_at (rows ++ y ∷ []) i ≡ y.right
right_last [] y zero e = refl
right_last [] y (suc i) e = absurd (omega arith)
right_last (x ∷ rows) y zero e = absurd (omega arith)
right_last (x ∷ rows) y (suc i) e = right_last rows y i (omega arith)
