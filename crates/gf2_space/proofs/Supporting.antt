-- The variables of each column, as they are found.
use Rattle.std.proofs.Common.{◌≡◌, ℕ, ◌+◌, ◌-◌, ◌<◌, ◌≤◌, zero, suc, Bool, true, false, cond, List, [], ◌∷◌, ◌++◌, map, length, get_or, set, refl, sym, ap, ◌∙◌, arith, inl, inr, ◌⊎◌, append-nil}
use Rattle.std.specs.List.{range_with_len}
use Rattle.std.proofs.lemmas.List.{get_or-set_same, get_or-set_other, get_or_push, get_or_past}
use Rattle.std.proofs.lemmas.Bool.{cases_lt, cases_eq, eq-eqb, ne_eqb}
use Rattle.parity_engine.specs.Equations.{numbers_from}
use Rattle.gf2_matrix.specs.Content.{Content, row_at, has}
use Rattle.gf2_lists.specs.Echelon.{SayGiven}
use Rattle.gf2_matrix.specs.Columns.{place}
use Rattle.gf2_space.proofs.Places.{none_without_place}
use Rattle.gf2_space.specs.declared.supports.Support.{Support}
use Rattle.gf2_space.specs.Kept.{AreOwners, vector_bit, vector_of}
use Rattle.gf2_space.specs.Supports.{is_support, support, AreEmpty, AreSupports, TakeRow}
use Rattle.gf2_space.proofs.Echelons.{zero_or, by_owner-none, by_owner-row}

-- ---- one more position
numbers_more : (f : ℕ → Bool) (k a n : ℕ) → k ≡ a + 1 → numbers_from k (map f (range_with_len a (suc n))) ≡ numbers_from k (map f (range_with_len a n)) ++ cond (f (a + n)) ((a + n + 1) ∷ []) []
numbers_more f k a zero e =
    let at : a + 0 ≡ a = omega arith in
    rw at (go (f a))
  where
    go : (b : Bool) → cond b (k ∷ []) [] ≡ cond b ((a + 1) ∷ []) []
    go true = ap (λ i. i ∷ []) e
    go false = refl
numbers_more f k a (suc n) e =
    let rest = numbers_more f (k + 1) (a + 1) n (omega arith) in
    let at : a + 1 + n ≡ a + suc n = omega arith in
    go (f a) (rest ∙ ap (λ i. numbers_from (k + 1) (map f (range_with_len (a + 1) n)) ++ cond (f i) ((i + 1) ∷ []) []) at)
  where
    go : (b : Bool) → numbers_from (k + 1) (map f (range_with_len (a + 1) (suc n))) ≡ numbers_from (k + 1) (map f (range_with_len (a + 1) n)) ++ cond (f (a + suc n)) ((a + suc n + 1) ∷ []) []
        → cond b (k ∷ numbers_from (k + 1) (map f (range_with_len (a + 1) (suc n)))) (numbers_from (k + 1) (map f (range_with_len (a + 1) (suc n))))
        ≡ cond b (k ∷ numbers_from (k + 1) (map f (range_with_len (a + 1) n))) (numbers_from (k + 1) (map f (range_with_len (a + 1) n))) ++ cond (f (a + suc n)) ((a + suc n + 1) ∷ []) []
    go true h = ap (λ l. k ∷ l) h
    go false h = h

pub numbers_next : (f : ℕ → Bool) (n : ℕ) → numbers_from 1 (map f (range_with_len 0 (n + 1))) ≡ numbers_from 1 (map f (range_with_len 0 n)) ++ cond (f n) ((n + 1) ∷ []) []
numbers_next f n =
    let next : n + 1 ≡ suc n = omega arith in
    let at : 0 + n ≡ n = omega arith in
    ap (λ m. numbers_from 1 (map f (range_with_len 0 m))) next ∙ numbers_more f 1 0 n (omega arith)
    ∙ ap (λ i. numbers_from 1 (map f (range_with_len 0 n)) ++ cond (f i) ((i + 1) ∷ []) []) at

-- ---- lists
read_front : (xs : List Support) (y : Support) (i : ℕ) (d : Support) → i < length xs → get_or (xs ++ y ∷ []) i d ≡ get_or xs i d
read_front [] y i d lt = absurd (omega arith)
read_front (x ∷ xs) y zero d lt = refl
read_front (x ∷ xs) y (suc i) d lt = read_front xs y i d (omega arith)

length_push : (xs : List Support) (y : Support) → length (xs ++ y ∷ []) ≡ length xs + 1
length_push [] y = refl
length_push (x ∷ xs) y = let h = length_push xs y in omega arith

pub empty_none : AreEmpty [] 0
empty_none = record { long = refl; empty = λ k d lt. absurd (omega arith) }

pub empty_more : (supports : List Support) (n : ℕ) (s : Support) → AreEmpty supports n → s.vars.items ≡ [] → AreEmpty (supports ++ s ∷ []) (n + 1)
empty_more supports n s far none =
    let long = far.long in
    record {
      long = let h = length_push supports s in omega arith;
      empty = λ k d lt.
          elim (cases_lt k (length supports)) [
            | inl front ↦ ap (λ (t : Support). t.vars.items) (read_front supports s k d front) ∙ far.empty k d (omega arith)
            | inr last ↦ ap (λ (t : Support). t.vars.items) (get_or_push supports s d k (omega arith)) ∙ none
          ];
    }

-- ---- the columns of a row
-- the variable was added to those of the columns from `first` up to n that the row has
pub record RowSoFar (c : Content) (row var first n : ℕ) (old new : List Support) : Type 0 where
  pub long : length new ≡ length old
  pub done : (k : ℕ) (d : Support) → first ≤ k → k < n → (get_or new k d).vars.items ≡ (get_or old k d).vars.items ++ cond (has (row_at c.rows row) (get_or c.columns k 0 - 1)) (var ∷ []) []
  pub before : (k : ℕ) (d : Support) → k < first → get_or new k d ≡ get_or old k d
  pub left : (k : ℕ) (d : Support) → n ≤ k → get_or new k d ≡ get_or old k d

pub row_none : (c : Content) (row var first : ℕ) (old : List Support) → RowSoFar c row var first first old old
row_none c row var first old = record { long = refl; done = λ k d low high. absurd (omega arith); before = λ k d lt. refl; left = λ k d le. refl }

pub row_passed : (c : Content) (row var first n : ℕ) (old new : List Support) → RowSoFar c row var first n old new → has (row_at c.rows row) (get_or c.columns n 0 - 1) ≡ false → RowSoFar c row var first (n + 1) old new
row_passed c row var first n old new far lacks = record {
  long = far.long;
  done = λ k d low high.
      elim (cases_eq k n) [
        | inl same ↦
            ap (λ (t : Support). t.vars.items) (far.left k d (omega arith)) ∙ sym (append-nil (get_or old k d).vars.items)
            ∙ ap (λ b. (get_or old k d).vars.items ++ cond b (var ∷ []) []) (sym (ap (λ i. has (row_at c.rows row) (get_or c.columns i 0 - 1)) same ∙ lacks))
        | inr other ↦ far.done k d low (omega arith)
      ];
  before = far.before;
  left = λ k d le. far.left k d (omega arith);
}

length-set : (xs : List Support) (i : ℕ) (y : Support) → length (set xs i y) ≡ length xs
length-set [] i y = refl
length-set (x ∷ xs) zero y = refl
length-set (x ∷ xs) (suc i) y = ap suc (length-set xs i y)

pub row_taken : (c : Content) (row var first n : ℕ) (old new : List Support) (e s : Support) → RowSoFar c row var first n old new → first ≤ n → n < length new → e ≡ get_or new n e
    → s.vars.items ≡ e.vars.items ++ var ∷ [] → has (row_at c.rows row) (get_or c.columns n 0 - 1) ≡ true → RowSoFar c row var first (n + 1) old (set new n s)
row_taken c row var first n old new e s far low_n n_in is pushed on = record {
  long = length-set new n s ∙ far.long;
  done = λ k d low high.
      elim (cases_eq k n) [
        | inl same ↦
            ap (λ i. (get_or (set new n s) i d).vars.items) same ∙ ap (λ (t : Support). t.vars.items) (get_or-set_same new n s d n_in) ∙ pushed
            ∙ ap (λ (t : Support). t.vars.items ++ var ∷ []) (is ∙ default new n e d n_in ∙ far.left n d (omega arith))
            ∙ (λ i. (get_or old (same' k n same i) d).vars.items ++ cond (on' k same i) (var ∷ []) [])
        | inr other ↦ ap (λ (t : Support). t.vars.items) (get_or-set_other new n k s d other) ∙ far.done k d low (omega arith)
      ];
  before = λ k d lt. get_or-set_other new n k s d (λ q. omega arith) ∙ far.before k d lt;
  left = λ k d le. get_or-set_other new n k s d (λ q. omega arith) ∙ far.left k d (omega arith);
}
  where
    same' : (k m : ℕ) → k ≡ m → m ≡ k
    same' k m q = sym q

    on' : (k : ℕ) → k ≡ n → true ≡ has (row_at c.rows row) (get_or c.columns k 0 - 1)
    on' k q = sym (ap (λ i. has (row_at c.rows row) (get_or c.columns i 0 - 1)) q ∙ on)

    default : (xs : List Support) (i : ℕ) (d f : Support) → i < length xs → get_or xs i d ≡ get_or xs i f
    default [] i d f lt = absurd (omega arith)
    default (x ∷ xs) zero d f lt = refl
    default (x ∷ xs) (suc i) d f lt = default xs i d f (omega arith)

pub row_all : (c : Content) (row var first n : ℕ) (old new : List Support) → RowSoFar c row var first n old new
    → ((k : ℕ) → k < length c.columns → has (row_at c.rows row) (get_or c.columns k 0 - 1) ≡ true → (first ≤ k) × (k < n)) → TakeRow c row var old new
row_all c row var first n old new far inside = record {
  long = far.long;
  each = λ k d lt. go k d lt (has (row_at c.rows row) (get_or c.columns k 0 - 1)) refl;
}
  where
    out : (k : ℕ) (d : Support) → get_or new k d ≡ get_or old k d → (b : Bool) → has (row_at c.rows row) (get_or c.columns k 0 - 1) ≡ b → b ≡ false
        → (get_or new k d).vars.items ≡ (get_or old k d).vars.items ++ cond (has (row_at c.rows row) (get_or c.columns k 0 - 1)) (var ∷ []) []
    out k d same b e off =
        ap (λ (t : Support). t.vars.items) same ∙ sym (append-nil (get_or old k d).vars.items)
        ∙ ap (λ x. (get_or old k d).vars.items ++ cond x (var ∷ []) []) (sym (e ∙ off))

    go : (k : ℕ) (d : Support) → k < length c.columns → (b : Bool) → has (row_at c.rows row) (get_or c.columns k 0 - 1) ≡ b
        → (get_or new k d).vars.items ≡ (get_or old k d).vars.items ++ cond (has (row_at c.rows row) (get_or c.columns k 0 - 1)) (var ∷ []) []
    go k d lt true e = let h = inside k lt e in far.done k d h.0 h.1
    go k d lt false e =
        elim (cases_lt k first) [
          | inl below ↦ out k d (far.before k d below) false e refl
          | inr from ↦ elim (cases_lt k n) [ inl low ↦ far.done k d from low | inr past ↦ out k d (far.left k d past) false e refl ]
        ]

-- columns that the row lacks
row_skipped : (c : Content) (row var first n m : ℕ) (old new : List Support) → RowSoFar c row var first n old new → n ≤ m
    → ((k : ℕ) → n ≤ k → k < m → has (row_at c.rows row) (get_or c.columns k 0 - 1) ≡ false) → RowSoFar c row var first m old new
row_skipped c row var first n m old new far le lacks = record {
  long = far.long;
  done = λ k d low high.
      elim (cases_lt k n) [
        | inl before ↦ far.done k d low before
        | inr from ↦
            ap (λ (t : Support). t.vars.items) (far.left k d from) ∙ sym (append-nil (get_or old k d).vars.items)
            ∙ ap (λ b. (get_or old k d).vars.items ++ cond b (var ∷ []) []) (sym (lacks k from high))
      ];
  before = far.before;
  left = λ k d ge. far.left k d (omega arith);
}

-- the next column that the row has
pub row_next : (c : Content) (row var n m : ℕ) (old new : List Support) (e s : Support) → RowSoFar c row var 0 n old new → n ≤ m → m < length new → e ≡ get_or new m e
    → s.vars.items ≡ e.vars.items ++ var ∷ [] → has (row_at c.rows row) (get_or c.columns m 0 - 1) ≡ true
    → ((k : ℕ) → n ≤ k → k < m → has (row_at c.rows row) (get_or c.columns k 0 - 1) ≡ false) → RowSoFar c row var 0 (m + 1) old (set new m s)
row_next c row var n m old new e s far le lt is pushed on lacks =
    row_taken c row var 0 m old new e s (row_skipped c row var 0 n m old new far le lacks) (omega arith) lt is pushed on

pub row_ends : (c : Content) (row var n : ℕ) (old new : List Support) → RowSoFar c row var 0 n old new → n ≤ length c.columns
    → ((k : ℕ) → n ≤ k → k < length c.columns → has (row_at c.rows row) (get_or c.columns k 0 - 1) ≡ false) → TakeRow c row var old new
row_ends c row var n old new far le lacks =
    row_all c row var 0 (length c.columns) old new (row_skipped c row var 0 n (length c.columns) old new far le lacks) (λ k lt on. (omega arith, lt))

-- ---- all rows
pub supports_none : (c : Content) (owners : List ℕ) (supports : List Support) → AreEmpty supports (length c.columns) → AreSupports c owners supports 0
supports_none c owners supports empty = record { long = empty.long; each = empty.empty }

pub supports_passed : (c : Content) (owners : List ℕ) (supports : List Support) (n : ℕ) → AreSupports c owners supports n → get_or owners n 0 ≡ 0 → AreSupports c owners supports (n + 1)
supports_passed c owners supports n far none = record {
  long = far.long;
  each = λ k d lt.
      let v : ℕ = get_or c.columns k 0 in
      far.each k d lt ∙ sym (append-nil (support c owners v n))
      ∙ ap (λ b. support c owners v n ++ cond b ((n + 1) ∷ []) []) (sym (by_owner-none owners (λ r. has (row_at c.rows r) (v - 1)) n none))
      ∙ sym (numbers_next (is_support c owners v) n);
}

pub supports_more : (c : Content) (owners : List ℕ) (old new : List Support) (n r : ℕ) → AreSupports c owners old n → get_or owners n 0 ≡ r + 1 → TakeRow c r (n + 1) old new → AreSupports c owners new (n + 1)
supports_more c owners old new n r far owner taken = record {
  long = taken.long ∙ far.long;
  each = λ k d lt.
      let v : ℕ = get_or c.columns k 0 in
      taken.each k d lt
      ∙ (λ i. far.each k d lt i ++ cond (sym (by_owner-row owners (λ j. has (row_at c.rows j) (v - 1)) n r owner) i) ((n + 1) ∷ []) [])
      ∙ sym (numbers_next (is_support c owners v) n);
}

-- ---- the line of a vector
numbers_past : (f : ℕ → Bool) (m n : ℕ) → ((x : ℕ) → m ≤ x → f x ≡ false) → numbers_from 1 (map f (range_with_len 0 (m + n))) ≡ numbers_from 1 (map f (range_with_len 0 m))
numbers_past f m zero off = let e : m + 0 ≡ m = omega arith in ap (λ k. numbers_from 1 (map f (range_with_len 0 k))) e
numbers_past f m (suc n) off =
    let e : m + suc n ≡ m + n + 1 = omega arith in
    ap (λ k. numbers_from 1 (map f (range_with_len 0 k))) e ∙ numbers_next f (m + n)
    ∙ ap (λ b. numbers_from 1 (map f (range_with_len 0 (m + n))) ++ cond b ((m + n + 1) ∷ []) []) (off (m + n) (omega arith))
    ∙ append-nil (numbers_from 1 (map f (range_with_len 0 (m + n)))) ∙ numbers_past f m n off

numbers_same : (f g : ℕ → Bool) (m : ℕ) → ((x : ℕ) → x < m → f x ≡ g x) → numbers_from 1 (map f (range_with_len 0 m)) ≡ numbers_from 1 (map g (range_with_len 0 m))
numbers_same f g zero same = refl
numbers_same f g (suc m) same =
    let e : suc m ≡ m + 1 = omega arith in
    ap (λ k. numbers_from 1 (map f (range_with_len 0 k))) e ∙ numbers_next f m
    ∙ (λ i. numbers_same f g m (λ x lt. same x (omega arith)) i ++ cond (same m (omega arith) i) ((m + 1) ∷ []) [])
    ∙ sym (numbers_next g m) ∙ ap (λ k. numbers_from 1 (map g (range_with_len 0 k))) (sym e)

-- the greatest of the set bits comes last
pub numbers_last : (f g : ℕ → Bool) (m n : ℕ) → m < n → f m ≡ true → g m ≡ false → ((x : ℕ) → x < m → f x ≡ g x) → ((x : ℕ) → m < x → f x ≡ false) → ((x : ℕ) → m < x → g x ≡ false)
    → numbers_from 1 (map f (range_with_len 0 n)) ≡ numbers_from 1 (map g (range_with_len 0 n)) ++ (m + 1) ∷ []
numbers_last f g m n lt on off same f_past g_past =
    let e : n ≡ m + 1 + (n - (m + 1)) = omega arith in
    let k : ℕ = n - (m + 1) in
    ap (λ j. numbers_from 1 (map f (range_with_len 0 j))) e ∙ numbers_past f (m + 1) k (λ x le. f_past x (omega arith)) ∙ numbers_next f m
    ∙ (λ i. numbers_same f g m same i ++ cond (on i) ((m + 1) ∷ []) [])
    ∙ ap (λ l. l ++ (m + 1) ∷ [])
    (sym (ap (λ j. numbers_from 1 (map g (range_with_len 0 j))) e ∙ numbers_past g (m + 1) k (λ x le. g_past x (omega arith)) ∙ numbers_next g m
    ∙ ap (λ b. numbers_from 1 (map g (range_with_len 0 m)) ++ cond b ((m + 1) ∷ []) []) off ∙ append-nil (numbers_from 1 (map g (range_with_len 0 m)))))

pub no_numbers : (f : ℕ → Bool) (n : ℕ) → ((x : ℕ) → f x ≡ false) → numbers_from 1 (map f (range_with_len 0 n)) ≡ []
no_numbers f n off = let e : 0 + n ≡ n = omega arith in ap (λ k. numbers_from 1 (map f (range_with_len 0 k))) (sym e) ∙ numbers_past f 0 n (λ x le. off x)

-- a vector has its free variable last
pub vector_line : (c : Content) (owners : List ℕ) (v : ℕ) → AreOwners c owners → 1 ≤ v → v ≤ c.vars → get_or owners (v - 1) 0 ≡ 0
    → numbers_from 1 (vector_of c owners v) ≡ support c owners v c.vars ++ v ∷ []
vector_line c owners v are low high none =
    let back : v - 1 + 1 ≡ v = omega arith in
    let f : ℕ → Bool = vector_bit c owners v in
    let g : ℕ → Bool = is_support c owners v in
    let g_past : (x : ℕ) → v - 1 < x → g x ≡ false = λ x above. past x above (zero_or (get_or owners x 0)) in
    numbers_last f g (v - 1) c.vars (omega arith) (ap (λ b. cond b true (g (v - 1))) (eq-eqb (v - 1) (v - 1) refl)) (by_owner-none owners (λ r. has (row_at c.rows r) (v - 1)) (v - 1) none)
    (λ x lt. ap (λ b. cond b true (g x)) (ne_eqb x (v - 1) (λ e. omega arith)))
    (λ x above. ap (λ b. cond b true (g x)) (ne_eqb x (v - 1) (λ e. omega arith)) ∙ g_past x above)
    g_past
    ∙ ap (λ k. support c owners v c.vars ++ k ∷ []) back
  where
    past : (x : ℕ) → v - 1 < x → (get_or owners x 0 ≡ 0) ⊎ ((r : ℕ) × (get_or owners x 0 ≡ r + 1)) → is_support c owners v x ≡ false
    past x above (inl e) = by_owner-none owners (λ r. has (row_at c.rows r) (v - 1)) x e
    past x above (inr s) =
        by_owner-row owners (λ r. has (row_at c.rows r) (v - 1)) x s.0 s.1
        ∙ elim (cases_lt x c.vars) [
          | inl small ↦ (are.owned x s.0 small s.1).1.1 (v - 1) above
          | inr large ↦ absurd (let long = are.long in let e = s.1 in let z = get_or_past owners x 0 (omega arith) in omega arith)
        ]

-- no row has a variable without a column
pub support_none : (c : Content) (owners : List ℕ) (v n : ℕ) → SayGiven c → AreOwners c owners → 1 ≤ v → length c.columns ≤ place c.columns v → support c owners v n ≡ []
support_none c owners v n say are low missing = no_numbers (is_support c owners v) n (λ x. off x (zero_or (get_or owners x 0)))
  where
    off : (x : ℕ) → (get_or owners x 0 ≡ 0) ⊎ ((r : ℕ) × (get_or owners x 0 ≡ r + 1)) → is_support c owners v x ≡ false
    off x (inl e) = by_owner-none owners (λ r. has (row_at c.rows r) (v - 1)) x e
    off x (inr s) =
        by_owner-row owners (λ r. has (row_at c.rows r) (v - 1)) x s.0 s.1
        ∙ elim (cases_lt x c.vars) [
          | inl small ↦ none_without_place c s.0 v say (are.owned x s.0 small s.1).0 low missing
          | inr large ↦ absurd (let long = are.long in let e = s.1 in let z = get_or_past owners x 0 (omega arith) in omega arith)
        ]
