-- Rows in echelon form give a basis.
use Rattle.std.proofs.Common.{◌≡◌, ◌≢◌, ℕ, ◌+◌, ◌-◌, ◌<◌, ◌≤◌, zero, suc, Bool, true, false, cond, ◌&&◌, List, [], ◌∷◌, map, length, get_or, refl, sym, ap, ◌∙◌, subst, arith, inl, inr, ◌⊎◌, true≢false}
use Rattle.std.specs.List.{range_with_len}
use Rattle.std.proofs.lemmas.List.{get_or_past}
use Rattle.std.proofs.lemmas.List.FromFn.{get_or-map-range_with_len, length-map-range_with_len}
use Rattle.std.proofs.lemmas.Bool.{cases_lt, cases_eq, eq-eqb, ne_eqb}
use Rattle.cx_base.specs.Literals.{differ}
use Rattle.parity_engine.proofs.Rising.{column-low, column-high}
use Rattle.gf2_matrix.specs.Content.{Content, row_at, has, IsLeastOf}
use Rattle.gf2_lists.specs.Echelon.{SayGiven}
use Rattle.gf2_matrix.proofs.Rows.{rising_apart}
use Rattle.gf2_space.specs.Solutions.{Solves, IsFree}
use Rattle.gf2_space.specs.Spaces.{plus, IsSpaceOf}
use Rattle.gf2_space.specs.Kept.{AreOwners, IsKept, HasClash, by_owner, point_value, vector_bit, vector_of, space_of}
use Rattle.gf2_space.proofs.Arising.{length-plus}
use Rattle.gf2_space.proofs.SpaceLaws.{IsBasis, space_of_basis}
use Rattle.gf2_space.proofs.RowSums.{products, product, products_none, products_one, products_two, products_plus, same_least}

pub zero_or : (n : ℕ) → (n ≡ 0) ⊎ ((r : ℕ) × (n ≡ r + 1))
zero_or zero = inl refl
zero_or (suc n) = inr (n, omega arith)

and_none : (b : Bool) → (b && false) ≡ false
and_none true = refl
and_none false = refl

differ_same : (b : Bool) → differ (true && b) (b && true) ≡ false
differ_same true = refl
differ_same false = refl

pub read-map : {X Y : Type 0} (f : X → Y) (d : X) (e : Y) (xs : List X) (i : ℕ) → i < length xs → get_or (map f xs) i e ≡ f (get_or xs i d)
read-map f d e [] i lt = absurd (omega arith)
read-map f d e (x ∷ xs) zero lt = refl
read-map f d e (x ∷ xs) (suc i) lt = read-map f d e xs i (omega arith)

length-map : {X Y : Type 0} (f : X → Y) (xs : List X) → length (map f xs) ≡ length xs
length-map f [] = refl
length-map f (x ∷ xs) = ap suc (length-map f xs)

pub by_owner-none : (owners : List ℕ) (f : ℕ → Bool) (x : ℕ) → get_or owners x 0 ≡ 0 → by_owner owners f x ≡ false
by_owner-none owners f x e = rw (eq-eqb (get_or owners x 0) 0 e) refl

pub by_owner-row : (owners : List ℕ) (f : ℕ → Bool) (x r : ℕ) → get_or owners x 0 ≡ r + 1 → by_owner owners f x ≡ f r
by_owner-row owners f x r e =
    let back : get_or owners x 0 - 1 ≡ r = omega arith in
    rw (ne_eqb (get_or owners x 0) 0 (λ q. omega arith)) (ap f back)

pub least_unique : (c : Content) (r x y : ℕ) → IsLeastOf c r x → IsLeastOf c r y → x ≡ y
least_unique c r x y lx ly =
    elim (cases_lt x y) [
      | inl lower ↦ absurd (true≢false (sym lx.0 ∙ ly.1 x lower))
      | inr ge ↦ elim (cases_lt y x) [ inl lower ↦ absurd (true≢false (sym ly.0 ∙ lx.1 y lower)) | inr le ↦ omega arith ]
    ]

module _ (c : Content) (owners free : List ℕ) (kept : IsKept c owners free) where
  terms : ℕ → List Bool
  terms r = (row_at c.rows r).terms

  inside : (r x : ℕ) → r < length c.rows → has (row_at c.rows r) x ≡ true → x < c.vars
  inside r x lt on =
      let long = kept.say.long r lt in
      elim (cases_lt x c.vars) [
        | inl small ↦ small
        | inr large ↦ absurd (true≢false (sym on ∙ get_or_past (row_at c.rows r).terms x false (omega arith)))
      ]

  -- no other row has the variable of a row's number
  alone : (x r : ℕ) → r < length c.rows → IsLeastOf c r x → (j : ℕ) → j < length c.rows → j ≢ r → has (row_at c.rows j) x ≡ false
  alone x r lt least =
      elim (kept.echelon r lt) as (λ _. (j : ℕ) → j < length c.rows → j ≢ r → has (row_at c.rows j) x ≡ false) [
        | inl closed ↦ absurd (true≢false (sym least.0 ∙ closed x))
        | inr own ↦ subst (λ y. (j : ℕ) → j < length c.rows → j ≢ r → has (row_at c.rows j) y ≡ false) (least_unique c r own.0 x own.1 least) own.2
      ]

  -- all but the least variable of a row are free
  unowned_in : (r p x : ℕ) → r < length c.rows → IsLeastOf c r p → has (row_at c.rows r) x ≡ true → x ≢ p → get_or owners x 0 ≡ 0
  unowned_in r p x lt least on ne =
      elim (zero_or (get_or owners x 0)) [
        | inl none ↦ none
        | inr some ↦
            let s : ℕ = some.0 in
            let of_s = kept.owners_are.owned x s (inside r x lt on) some.1 in
            elim (cases_eq r s) [
              | inl same ↦ absurd (ne (least_unique c r x p (subst (λ j. IsLeastOf c j x) (sym same) of_s.1) least))
              | inr other ↦ absurd (true≢false (sym on ∙ alone x s of_s.0 of_s.1 r lt other))
            ]
      ]

  -- a product is false where the values are false at the free variables of the row
  product_false : (r p x : ℕ) (v : List Bool) → r < length c.rows → IsLeastOf c r p → x ≢ p → (x < c.vars → get_or owners x 0 ≡ 0 → get_or v x false ≡ false)
      → product (row_at c.rows r).terms v x ≡ false
  product_false r p x v lt least ne off = go (has (row_at c.rows r) x) refl
    where
      go : (b : Bool) → has (row_at c.rows r) x ≡ b → product (row_at c.rows r).terms v x ≡ false
      go false e = ap (λ b. b && get_or v x false) e
      go true e =
          ap (λ b. get_or (row_at c.rows r).terms x false && b) (off (inside r x lt e) (unowned_in r p x lt least e ne)) ∙ and_none (get_or (row_at c.rows r).terms x false)

  products_closed : (r : ℕ) (v : List Bool) → ((x : ℕ) → has (row_at c.rows r) x ≡ false) → products (row_at c.rows r).terms v ≡ false
  products_closed r v closed = products_none (row_at c.rows r).terms v (λ x. ap (λ b. b && get_or v x false) (closed x))

  -- ---- the point
  point : List Bool
  point = map (point_value c owners) (range_with_len 0 c.vars)

  read_point : (x : ℕ) → x < c.vars → get_or point x false ≡ point_value c owners x
  unfolding point
  read_point x lt = get_or-map-range_with_len (point_value c owners) 0 c.vars x x false (omega arith) (omega arith)

  point_row : (r : ℕ) → r < length c.rows → products (row_at c.rows r).terms point ≡ (row_at c.rows r).right
  point_row r lt =
      elim (kept.echelon r lt) [
        | inl closed ↦ products_closed r point closed ∙ sym (kept.no_clash r lt closed)
        | inr own ↦
            let p : ℕ = own.0 in
            let p_in : p < c.vars = inside r p lt own.1.0 in
            products_one (row_at c.rows r).terms point p
            (λ x ne. product_false r p x point lt own.1 ne (λ x_in none. read_point x x_in ∙ by_owner-none owners (λ j. (row_at c.rows j).right) x none))
            ∙ (λ i. own.1.0 i && (read_point p p_in ∙ by_owner-row owners (λ j. (row_at c.rows j).right) p r (kept.owners_are.found p r lt own.1)) i)
      ]

  point_solves : Solves c.vars c.given point
  unfolding point
  point_solves =
      let long : length (map (point_value c owners) (range_with_len 0 c.vars)) ≡ c.vars = length-map-range_with_len (point_value c owners) 0 c.vars in
      record {
        one_each = long;
        all_met = kept.say.complete (map (point_value c owners) (range_with_len 0 c.vars)) long point_row;
      }

  -- ---- the vectors
  module _ (v : ℕ) (v_in : v - 1 < c.vars) (unowned : get_or owners (v - 1) 0 ≡ 0) where
    read_vector : (x : ℕ) → x < c.vars → get_or (vector_of c owners v) x false ≡ vector_bit c owners v x
    read_vector x lt = get_or-map-range_with_len (vector_bit c owners v) 0 c.vars x x false (omega arith) (omega arith)

    length-vector : length (vector_of c owners v) ≡ c.vars
    length-vector = length-map-range_with_len (vector_bit c owners v) 0 c.vars

    vector_own : get_or (vector_of c owners v) (v - 1) false ≡ true
    vector_own = read_vector (v - 1) v_in ∙ rw (eq-eqb (v - 1) (v - 1) refl) refl

    vector_other : (x : ℕ) → x < c.vars → x ≢ v - 1 → get_or (vector_of c owners v) x false ≡ by_owner owners (λ r. has (row_at c.rows r) (v - 1)) x
    vector_other x lt ne = read_vector x lt ∙ ap (λ b. cond b true (by_owner owners (λ r. has (row_at c.rows r) (v - 1)) x)) (ne_eqb x (v - 1) ne)

    vector_unowned : (x : ℕ) → x < c.vars → x ≢ v - 1 → get_or owners x 0 ≡ 0 → get_or (vector_of c owners v) x false ≡ false
    vector_unowned x lt ne none = vector_other x lt ne ∙ by_owner-none owners (λ r. has (row_at c.rows r) (v - 1)) x none

    vector_above : (x : ℕ) → v - 1 < x → get_or (vector_of c owners v) x false ≡ false
    vector_above x above =
        elim (cases_lt x c.vars) [
          | inr large ↦ let long = length-vector in get_or_past (vector_of c owners v) x false (omega arith)
          | inl small ↦
              elim (zero_or (get_or owners x 0)) [
                | inl none ↦ vector_unowned x small (λ e. omega arith) none
                | inr some ↦
                    vector_other x small (λ e. omega arith)
                    ∙ by_owner-row owners (λ r. has (row_at c.rows r) (v - 1)) x some.0 some.1
                    ∙ (kept.owners_are.owned x some.0 small some.1).1.1 (v - 1) above
              ]
        ]

    vector_row : (r : ℕ) → r < length c.rows → products (row_at c.rows r).terms (vector_of c owners v) ≡ false
    vector_row r lt =
        elim (kept.echelon r lt) [
          | inl closed ↦ products_closed r (vector_of c owners v) closed
          | inr own ↦
              let p : ℕ = own.0 in
              let p_in : p < c.vars = inside r p lt own.1.0 in
              let owner : get_or owners p 0 ≡ r + 1 = kept.owners_are.found p r lt own.1 in
              let ne : p ≢ v - 1 = λ e. let same : get_or owners p 0 ≡ get_or owners (v - 1) 0 = ap (λ x. get_or owners x 0) e in omega arith in
              let at_p : get_or (vector_of c owners v) p false ≡ has (row_at c.rows r) (v - 1) =
              vector_other p p_in ne ∙ by_owner-row owners (λ j. has (row_at c.rows j) (v - 1)) p r owner in
              products_two (row_at c.rows r).terms (vector_of c owners v) p (v - 1) ne
              (λ x a b. product_false r p x (vector_of c owners v) lt own.1 a (λ x_in none. vector_unowned x x_in b none))
              ∙ (λ i. differ (own.1.0 i && at_p i) (has (row_at c.rows r) (v - 1) && vector_own i))
              ∙ differ_same (has (row_at c.rows r) (v - 1))
        ]

    vector_keeps : (w : List Bool) → Solves c.vars c.given w → Solves c.vars c.given (plus (vector_of c owners v) w)
    vector_keeps w sw =
        let same : length (vector_of c owners v) ≡ length w = length-vector ∙ sym sw.one_each in
        let long : length (plus (vector_of c owners v) w) ≡ c.vars = length-plus (vector_of c owners v) w same ∙ sw.one_each in
        record {
          one_each = long;
          all_met =
              kept.say.complete (plus (vector_of c owners v) w) long
              (λ r lt.
              products_plus (row_at c.rows r).terms (vector_of c owners v) w same
              ∙ ap (λ b. differ b (products (row_at c.rows r).terms w)) (vector_row r lt)
              ∙ kept.say.sound w sw.one_each sw.all_met r lt);
        }

  -- ---- the free variables
  free_low : (i : ℕ) → i < length free → 1 ≤ get_or free i 0
  free_low i lt = column-low 1 c.vars free i kept.free_are.rising lt

  free_in : (i : ℕ) → i < length free → get_or free i 0 - 1 < c.vars
  free_in i lt =
      let low = free_low i lt in
      let high = column-high 1 c.vars free i kept.free_are.rising lt in
      omega arith

  -- a free variable has no row
  free_unowned : (x : ℕ) → IsFree c.vars c.given x → (1 ≤ x) × (x - 1 < c.vars) × (get_or owners (x - 1) 0 ≡ 0)
  free_unowned x f = (low, high, none)
    where
      low : 1 ≤ x
      low = elim (zero_or x) [ inl e ↦ absurd (f.differ_here (subst (λ y. get_or f.one (y - 1) false ≡ get_or f.other (y - 1) false) (sym e) (f.agree_above 1 (omega arith)))) | inr s ↦ let h = s.1 in omega arith ]

      high : x - 1 < c.vars
      high =
          elim (cases_lt (x - 1) c.vars) [
            | inl small ↦ small
            | inr large ↦
                let a = f.one_solves.one_each in
                let b = f.other_solves.one_each in
                absurd (f.differ_here (get_or_past f.one (x - 1) false (omega arith) ∙ sym (get_or_past f.other (x - 1) false (omega arith))))
          ]

      none : get_or owners (x - 1) 0 ≡ 0
      none =
          elim (zero_or (get_or owners (x - 1) 0)) [
            | inl e ↦ e
            | inr some ↦
                let r : ℕ = some.0 in
                let of_r = kept.owners_are.owned (x - 1) r high some.1 in
                let long = kept.say.long r of_r.0 in
                absurd (f.differ_here
                (same_least (row_at c.rows r).terms f.one f.other (x - 1) (long ∙ sym f.one_solves.one_each) (long ∙ sym f.other_solves.one_each) of_r.1.0 of_r.1.1
                (λ y above. subst (λ z. get_or f.one z false ≡ get_or f.other z false) (let back : suc y - 1 ≡ y = omega arith in back) (f.agree_above (suc y) (let l = low in omega arith)))
                (kept.say.sound f.one f.one_solves.one_each f.one_solves.all_met r of_r.0 ∙ sym (kept.say.sound f.other f.other_solves.one_each f.other_solves.all_met r of_r.0))))
          ]

  all_free : (x : ℕ) → IsFree c.vars c.given x → (i : ℕ) × (i < length free) × (get_or free i 0 ≡ x)
  all_free x f =
      let at = free_unowned x f in
      let low = at.0 in
      let found = kept.free_are.all (x - 1) at.1 at.2 in
      let back : x - 1 + 1 ≡ x = omega arith in
      (found.0, found.1, found.2 ∙ back)

  vectors : List (List Bool)
  vectors = map (vector_of c owners) free

  vector_at : (i : ℕ) → i < length free → get_or vectors i [] ≡ vector_of c owners (get_or free i 0)
  unfolding vectors
  vector_at i lt = read-map (vector_of c owners) 0 [] free i lt

  pub vector_read : (i x : ℕ) → i < length free → x < c.vars → get_or (get_or (map (vector_of c owners) free) i []) x false ≡ vector_bit c owners (get_or free i 0) x
  unfolding vectors
  vector_read i x lt x_in = ap (λ u. get_or u x false) (vector_at i lt) ∙ read_vector (get_or free i 0) (free_in i lt) (kept.free_are.unowned i lt) x x_in

  pub point_read : (x : ℕ) → x < c.vars → get_or (map (point_value c owners) (range_with_len 0 c.vars)) x false ≡ point_value c owners x
  unfolding point
  point_read x x_in = read_point x x_in

  pub basis_of_kept : IsBasis c.vars c.given (space_of c owners free)
  unfolding point vectors
  basis_of_kept = record {
    vars_are = refl;
    parities_are = refl;
    rising = kept.free_are.rising;
    all_free = all_free;
    point_solves = point_solves;
    point_false = λ i lt. read_point (get_or free i 0 - 1) (free_in i lt) ∙ by_owner-none owners (λ r. (row_at c.rows r).right) (get_or free i 0 - 1) (kept.free_are.unowned i lt);
    one_each = length-map (vector_of c owners) free;
    long = λ j lt.
        let count = length-map (vector_of c owners) free in
        let j_in : j < length free = omega arith in
        ap length (vector_at j j_in) ∙ length-vector (get_or free j 0) (free_in j j_in) (kept.free_are.unowned j j_in);
    keep = λ j w lt sw.
        let count = length-map (vector_of c owners) free in
        let j_in : j < length free = omega arith in
        subst (λ u. Solves c.vars c.given (plus u w)) (sym (vector_at j j_in)) (vector_keeps (get_or free j 0) (free_in j j_in) (kept.free_are.unowned j j_in) w sw);
    own = λ i lt.
        ap (λ u. get_or u (get_or free i 0 - 1) false) (vector_at i lt) ∙ vector_own (get_or free i 0) (free_in i lt) (kept.free_are.unowned i lt);
    no_other = λ i j lt j_in ne.
        let li = free_low i lt in
        let lj = free_low j j_in in
        ap (λ u. get_or u (get_or free j 0 - 1) false) (vector_at i lt)
        ∙ vector_unowned (get_or free i 0) (free_in i lt) (kept.free_are.unowned i lt) (get_or free j 0 - 1) (free_in j j_in)
        (λ e. ne (rising_apart 1 c.vars free j i kept.free_are.rising j_in lt (omega arith))) (kept.free_are.unowned j j_in);
    none_above = λ i x lt above.
        let li = free_low i lt in
        ap (λ u. get_or u (x - 1) false) (vector_at i lt)
        ∙ vector_above (get_or free i 0) (free_in i lt) (kept.free_are.unowned i lt) (x - 1) (omega arith);
  }

pub space_of_kept : (c : Content) (owners free : List ℕ) → IsKept c owners free → IsSpaceOf c.vars c.given (space_of c owners free)
space_of_kept c owners free kept = space_of_basis c.vars c.given (space_of c owners free) (basis_of_kept c owners free kept)

-- a row that says that 0 is 1 has no solution
pub clash_unmet : (c : Content) → SayGiven c → HasClash c → (v : List Bool) → Solves c.vars c.given v → ⊥
clash_unmet c say clash v sv =
    true≢false
    (sym clash.3 ∙ sym (say.sound v sv.one_each sv.all_met clash.0 clash.1)
    ∙ products_none (row_at c.rows clash.0).terms v (λ x. ap (λ b. b && get_or v x false) (clash.2 x)))

pub owner_in : (c : Content) (owners : List ℕ) (x : ℕ) → AreOwners c owners → x < c.vars → get_or owners x 0 ≢ 0 → get_or owners x 0 - 1 < length c.rows
owner_in c owners x are lt ne =
    elim (zero_or (get_or owners x 0)) [
      | inl none ↦ absurd (ne none)
      | inr some ↦ let h = (are.owned x some.0 lt some.1).0 in let e = some.1 in omega arith
    ]
