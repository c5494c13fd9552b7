-- Heads and the pool.
use Rattle.std.proofs.Common.{◌≡◌, ◌≢◌, ℕ, zero, suc, ◌+◌, ◌-◌, ◌*◌, ◌<◌, ◌≤◌, List, [], ◌∷◌, ◌++◌, take, drop, length, get_or, set, replicate, refl, sym, ap, ◌∙◌, subst, min, Some, None, true, false, ◌⊎◌, arith, inl, inr}
use Rattle.std.specs.Prelude.{sum_by}
use Rattle.std.proofs.lemmas.List.{get_or-append_right, length-append, length-take, length-drop, get_or-take, get_or-drop, ext_get_or, get_or-set_same, get_or-set_other, length-set, get_or-map, length-map, map-set, get_or_push, length_push, length-replicate}
use Rattle.std.proofs.lemmas.List.Sums.{sum_by-set, sum_by_push}
use Rattle.std.proofs.Math.ListN.{get_or-append, get_or-eq_default}
use Rattle.std.proofs.Math.Seq.{drop-append_seam, take-length}
use Rattle.std.proofs.lemmas.Bool.{cases_eq, cases_lt}
use Rattle.gf2_rows.specs.declared.few.TheConstants.{FEW}
use Rattle.gf2_rows.specs.declared.head.Layout.{Layout}
use Rattle.gf2_rows.specs.declared.head.Layout.TheVariants.{Few, Short, Whole}
use Rattle.gf2_rows.specs.declared.head.TableHead.{TableHead}
use Rattle.gf2_rows.specs.Few.{padded}
use Rattle.gf2_rows.specs.Heads.{words_from, row_in, rows_in, begin_of, extent_in, is_whole, room_in, room_for, need_of, blank, layout_at, begin_at, width_at, extent_at, IsShort, AreRows, AreWide, IsLaidAtEnd, StayLaid}
use Rattle.gf2_rows.specs.Tables.{words_at, IsChangedAt}
use Rattle.gf2_rows.proofs.Entries.{zeros_at}

-- ---- tables
pub changed_by_set : (old : List (List ℕ)) (row : ℕ) (words : List ℕ) → row < length old → length words ≡ length (words_at old row) → IsChangedAt row old (set old row words)
changed_by_set old row words lt same = record {
  rows = length-set old row words;
  others = λ r ne. get_or-set_other old row r words [] ne;
  words = ap length (get_or-set_same old row words [] lt) ∙ same;
}

pub words_set : (old : List (List ℕ)) (row : ℕ) (words : List ℕ) → row < length old → words_at (set old row words) row ≡ words
words_set old row words lt = get_or-set_same old row words [] lt

-- ---- rows
pub length-rows : (pool : List ℕ) (heads : List TableHead) → length (rows_in pool heads) ≡ length heads
length-rows pool heads = length-map heads (row_in pool)

pub row_at : (pool : List ℕ) (heads : List TableHead) (r : ℕ) (d : TableHead) → r < length heads → words_at (rows_in pool heads) r ≡ row_in pool (get_or heads r d)
row_at pool heads r d lt = get_or-map (row_in pool) heads r d [] lt

-- so many words of the pool
pub length-part : (pool : List ℕ) (n s : ℕ) → s + n ≤ length pool → length (take n (drop s pool)) ≡ n
length-part pool n s room = length-take n (drop s pool) ∙ (let e = length-drop s pool in let f : min n (length (drop s pool)) ≡ n = omega arith in f)

pub get_or-part : (pool : List ℕ) (n s i : ℕ) → i < n → get_or (take n (drop s pool)) i 0 ≡ get_or pool (s + i) 0
get_or-part pool n s i lt = get_or-take n (drop s pool) i 0 lt ∙ get_or-drop s pool i 0

pub length-padded : (n : ℕ) (xs : List ℕ) → length xs ≤ n → length (padded n xs) ≡ n
length-padded n xs room = omega (arith, length-append xs (replicate (n - length xs) 0), length-replicate {A = ℕ} (n - length xs) 0)

pub padded_at : (n : ℕ) (xs : List ℕ) (i : ℕ) → get_or (padded n xs) i 0 ≡ get_or xs i 0
padded_at n xs i =
    elim (cases_lt i (length xs)) [
      | inl lt ↦ get_or-append xs (replicate (n - length xs) 0) 0 i lt
      | inr ge ↦ get_or-append_right xs (replicate (n - length xs) 0) (length xs) i 0 refl ge ∙ zeros_at (n - length xs) (i - length xs) ∙ sym (get_or-eq_default xs 0 ge)
    ]

pub length-words_from : (pool few : List ℕ) (layout : Layout) → ((s : ℕ) → begin_of layout ≡ Some s → s + extent_in few layout ≤ length pool) → IsShort few layout
    → length (words_from pool few layout) ≡ length few
length-words_from pool few Few room short = refl
length-words_from pool few (Short s n) room short =
    length-padded (length few) (take n (drop s pool)) (omega (arith, length-part pool n s (room s refl), short s n refl))
length-words_from pool few (Whole s) room short = length-part pool (length few) s (room s refl)

-- words that are the same in two pools
part_same : (pool new : List ℕ) (n s : ℕ) → s + n ≤ length pool → length pool ≤ length new → ((i : ℕ) → i < n → get_or new (s + i) 0 ≡ get_or pool (s + i) 0)
    → take n (drop s new) ≡ take n (drop s pool)
part_same pool new n s room more same =
    let long : length (take n (drop s new)) ≡ n = length-part new n s (omega arith) in
    let before : length (take n (drop s pool)) ≡ n = length-part pool n s room in
    ext_get_or 0 (take n (drop s new)) (take n (drop s pool)) (long ∙ sym before)
    (λ i lt.
    let in' : i < n = omega arith in
    get_or-part new n s i in' ∙ same i in' ∙ sym (get_or-part pool n s i in'))

words_same : (pool new few : List ℕ) (layout : Layout) → ((s : ℕ) → begin_of layout ≡ Some s → s + extent_in few layout ≤ length pool) → length pool ≤ length new
    → ((s : ℕ) → begin_of layout ≡ Some s → (i : ℕ) → i < extent_in few layout → get_or new (s + i) 0 ≡ get_or pool (s + i) 0) → words_from new few layout ≡ words_from pool few layout
words_same pool new few Few room more same = refl
words_same pool new few (Short s n) room more same = ap (padded (length few)) (part_same pool new n s (room s refl) more (same s refl))
words_same pool new few (Whole s) room more same = part_same pool new (length few) s (room s refl) more (same s refl)

pub length-row : (capacity : ℕ) (pool : List ℕ) (heads : List TableHead) (r : ℕ) → AreRows capacity pool heads → length (row_in pool (get_or heads r blank)) ≡ width_at heads r
length-row capacity pool heads r rows = length-words_from pool ((get_or heads r blank).few) (layout_at heads r) (λ s e. rows.within r s e) (rows.short r)

-- ---- a head changes, but not how its row is laid out, nor how many words it has
module _ (heads : List TableHead) (row : ℕ) (head : TableHead) (lt : row < length heads)
    (layouts : head.layout ≡ layout_at heads row) (widths : length (head.few) ≡ width_at heads row) where
  layout_kept : (r : ℕ) → layout_at (set heads row head) r ≡ layout_at heads r
  layout_kept r =
      elim (cases_eq r row) [
        | inl e ↦ rw e (ap (λ h. h.layout) (get_or-set_same heads row head blank lt) ∙ layouts)
        | inr ne ↦ ap (λ h. h.layout) (get_or-set_other heads row r head blank ne)
      ]

  width_kept : (r : ℕ) → width_at (set heads row head) r ≡ width_at heads r
  width_kept r =
      elim (cases_eq r row) [
        | inl e ↦ rw e (ap (λ h. length (h.few)) (get_or-set_same heads row head blank lt) ∙ widths)
        | inr ne ↦ ap (λ h. length (h.few)) (get_or-set_other heads row r head blank ne)
      ]

  extent_by : (xs ys : List ℕ) (layout : Layout) → length xs ≡ length ys → extent_in xs layout ≡ extent_in ys layout
  extent_by xs ys Few e = refl
  extent_by xs ys (Short s n) e = refl
  extent_by xs ys (Whole s) e = e

  extent_kept : (r : ℕ) → extent_at (set heads row head) r ≡ extent_at heads r
  extent_kept r =
      ap (extent_in ((get_or (set heads row head) r blank).few)) (layout_kept r)
      ∙ extent_by ((get_or (set heads row head) r blank).few) ((get_or heads r blank).few) (layout_at heads r) (width_kept r)

  room_by : (xs ys : List ℕ) (layout : Layout) → length xs ≡ length ys → room_in xs layout ≡ room_in ys layout
  room_by xs ys Few e = ap (λ n. 2 * n) e
  room_by xs ys (Short s n) e = e
  room_by xs ys (Whole s) e = refl

  begin_kept : (r s : ℕ) → begin_at (set heads row head) r ≡ Some s → begin_at heads r ≡ Some s
  begin_kept r s e = sym (ap begin_of (layout_kept r)) ∙ e

  pub head_wide : AreWide heads → AreWide (set heads row head)
  head_wide wide r lt few = rw (width_kept r) (wide r (omega (arith, length-set heads row head)) (sym (ap is_whole (layout_kept r)) ∙ few))

  pub head_changed : (capacity : ℕ) (pool : List ℕ) → AreRows capacity pool heads → AreRows capacity pool (set heads row head)
  head_changed capacity pool rows =
      let old : TableHead = get_or heads row blank in
      let sums : sum_by room_for (set heads row head) + room_for old ≡ sum_by room_for heads + room_for head = sum_by-set room_for heads row head blank lt in
      let same : room_for head ≡ room_for old = ap (room_in (head.few)) layouts ∙ room_by (head.few) (old.few) (old.layout) widths in
      let all = rows.room in
      record {
        room = omega arith;
        short = λ r s n e. rw (width_kept r) (rows.short r s n (sym (layout_kept r) ∙ e));
        within = λ r s e. rw (extent_kept r) (rows.within r s (begin_kept r s e));
        apart = λ q r s t ne e f. rw (extent_kept q, extent_kept r) (rows.apart q r s t ne (begin_kept q s e) (begin_kept r t f));
      }

-- two rows that are apart
apart_by : (p q g h : TableHead) (s t : ℕ) → g ≡ p → h ≡ q → (s + extent_in (p.few) (p.layout) ≤ t) ⊎ (t + extent_in (q.few) (q.layout) ≤ s)
    → (s + extent_in (g.few) (g.layout) ≤ t) ⊎ (t + extent_in (h.few) (h.layout) ≤ s)
apart_by p q g h s t e f apart =
    subst (λ (x : TableHead). (s + extent_in (x.few) (x.layout) ≤ t) ⊎ (t + extent_in (h.few) (h.layout) ≤ s)) (sym e)
    (subst (λ (x : TableHead). (s + extent_in (p.few) (p.layout) ≤ t) ⊎ (t + extent_in (x.few) (x.layout) ≤ s)) (sym f) apart)

-- ---- a row is laid out at the end of the pool
-- words and zeros after them are as many words of a row of which the others are zero
pub padded_front : (n : ℕ) (xs : List ℕ) → n ≤ length xs → ((i : ℕ) → n ≤ i → get_or xs i 0 ≡ 0) → padded (length xs) (take n xs) ≡ xs
padded_front n xs room zeros =
    let front : length (take n xs) ≡ n = length-take n xs ∙ (let f : min n (length xs) ≡ n = omega arith in f) in
    let m : ℕ = length xs - length (take n xs) in
    let long : length (padded (length xs) (take n xs)) ≡ length xs = length-padded (length xs) (take n xs) (omega arith) in
    ext_get_or 0 (padded (length xs) (take n xs)) xs long
    (λ i lt.
    elim (cases_lt i n) [
      | inl in' ↦ get_or-append (take n xs) (replicate m 0) 0 i (omega arith) ∙ get_or-take n xs i 0 in'
      | inr past ↦ get_or-append_right (take n xs) (replicate m 0) (length (take n xs)) i 0 refl (omega arith) ∙ zeros_at m (i - length (take n xs)) ∙ sym (zeros i past)
    ])

-- the words that a row has, once those up to the last that is not zero are laid out
laid_words : (pool ws few : List ℕ) (layout : Layout) → begin_of layout ≡ Some (length pool) → IsShort few layout → length ws ≡ length few
    → ((i : ℕ) → extent_in few layout ≤ i → get_or ws i 0 ≡ 0) → words_from (pool ++ take (extent_in few layout) ws) few layout ≡ ws
laid_words pool ws few Few begin short long zeros = absurd (cc)
laid_words pool ws few (Short s n) begin short long zeros =
    let at : s ≡ length pool = let b : Some s ≡ Some (length pool) = begin in cc in
    let front : length (take n ws) ≡ n = length-take n ws ∙ (let lt = short s n refl in let f : min n (length ws) ≡ n = omega arith in f) in
    ap (λ k. padded (length few) (take n (drop k (pool ++ take n ws)))) at
    ∙ ap (λ l. padded (length few) (take n l)) (drop-append_seam pool (take n ws))
    ∙ ap (λ k. padded (length few) (take k (take n ws))) (sym front) ∙ ap (padded (length few)) (take-length (take n ws))
    ∙ ap (λ k. padded k (take n ws)) (sym long) ∙ padded_front n ws (let lt = short s n refl in omega arith) zeros
laid_words pool ws few (Whole s) begin short long zeros =
    let at : s ≡ length pool = let b : Some s ≡ Some (length pool) = begin in cc in
    let all : take (length few) ws ≡ ws = ap (λ k. take k ws) (sym long) ∙ take-length ws in
    ap (λ k. take (length few) (drop k (pool ++ take (length few) ws))) at
    ∙ ap (take (length few)) (drop-append_seam pool (take (length few) ws) ∙ all) ∙ all

module _ (capacity : ℕ) (pool new : List ℕ) (heads : List TableHead) (row : ℕ) (head : TableHead) (lt : row < length heads)
    (laid : IsLaidAtEnd pool (get_or heads row blank) new head) (rows : AreRows capacity pool heads) where
  others_kept : (r : ℕ) → r ≢ row → get_or (set heads row head) r blank ≡ get_or heads r blank
  others_kept r ne = get_or-set_other heads row r head blank ne

  own_kept : get_or (set heads row head) row blank ≡ head
  own_kept = get_or-set_same heads row head blank lt

  words_long : length (row_in pool (get_or heads row blank)) ≡ length (head.few)
  words_long = length-row capacity pool heads row rows ∙ sym (ap length (laid.few))

  extent_fits : (few : List ℕ) (layout : Layout) → IsShort few layout → extent_in few layout ≤ length few
  extent_fits few Few short = omega arith
  extent_fits few (Short s n) short = let l = short s n refl in omega arith
  extent_fits few (Whole s) short = omega arith

  longer : length new ≡ length pool + extent_in (head.few) (head.layout)
  longer =
      let n : ℕ = extent_in (head.few) (head.layout) in
      let ws : List ℕ = row_in pool (get_or heads row blank) in
      let fits : n ≤ length (head.few) = extent_fits (head.few) (head.layout) (laid.short) in
      let w = words_long in
      let front : length (take n ws) ≡ n = length-take n ws ∙ (let f : min n (length ws) ≡ n = omega arith in f) in
      ap length (laid.words) ∙ length-append pool (take n ws) ∙ ap (λ k. length pool + k) front

  own_begin : (s : ℕ) → begin_at (set heads row head) row ≡ Some s → s ≡ length pool
  own_begin s e = let f : Some (length pool) ≡ Some s = sym (laid.begin) ∙ sym (ap (λ h. begin_of (h.layout)) own_kept) ∙ e in cc

  own_extent : extent_at (set heads row head) row ≡ extent_in (head.few) (head.layout)
  own_extent = ap (λ h. extent_in (h.few) (h.layout)) own_kept

  begin_of_other : (r s : ℕ) → r ≢ row → begin_at (set heads row head) r ≡ Some s → s + extent_at (set heads row head) r ≤ length pool
  begin_of_other r s ne e =
      subst (λ (h : TableHead). s + extent_in (h.few) (h.layout) ≤ length pool) (sym (others_kept r ne)) (rows.within r s (sym (ap (λ h. begin_of (h.layout)) (others_kept r ne)) ∙ e))

  pub laid_need : need_of new (set heads row head) ≤ need_of pool heads
  laid_need =
      let old : TableHead = get_or heads row blank in
      let sums : sum_by room_for (set heads row head) + room_for old ≡ sum_by room_for heads + room_for head = sum_by-set room_for heads row head blank lt in
      let freed = laid.room in
      let more = longer in
      omega arith

  pub laid_rows : AreRows capacity new (set heads row head)
  laid_rows =
      let need = laid_need in
      let all = rows.room in
      let more = longer in
      let own = own_extent in
      record {
        room = omega arith;
        short = λ r.
            elim (cases_eq r row) as (λ _. IsShort ((get_or (set heads row head) r blank).few) (layout_at (set heads row head) r)) [
              | inl e ↦
                  subst (λ k. IsShort ((get_or (set heads row head) k blank).few) (layout_at (set heads row head) k)) (sym e)
                  (subst (λ (h : TableHead). IsShort (h.few) (h.layout)) (sym own_kept) (laid.short))
              | inr ne ↦ subst (λ (h : TableHead). IsShort (h.few) (h.layout)) (sym (others_kept r ne)) (rows.short r)
            ];
        within = λ r s e.
            elim (cases_eq r row) [
              | inl q ↦
                  let at : s ≡ length pool = own_begin s (subst (λ k. begin_at (set heads row head) k ≡ Some s) q e) in
                  rw q (omega arith)
              | inr ne ↦ let o = begin_of_other r s ne e in omega arith
            ];
        apart = λ q r s t ne e f.
            elim (cases_eq q row) [
              | inl same_q ↦
                  let at : s ≡ length pool = own_begin s (subst (λ k. begin_at (set heads row head) k ≡ Some s) same_q e) in
                  let other : r ≢ row = λ g. ne (same_q ∙ sym g) in
                  let o = begin_of_other r t other f in
                  inr (omega arith)
              | inr ne_q ↦
                  let o = begin_of_other q s ne_q e in
                  elim (cases_eq r row) [
                    | inl same_r ↦ let at : t ≡ length pool = own_begin t (subst (λ k. begin_at (set heads row head) k ≡ Some t) same_r f) in inl (omega arith)
                    | inr ne_r ↦
                        apart_by (get_or heads q blank) (get_or heads r blank) (get_or (set heads row head) q blank) (get_or (set heads row head) r blank) s t (others_kept q ne_q) (others_kept r ne_r)
                        (rows.apart q r s t ne (sym (ap (λ h. begin_of (h.layout)) (others_kept q ne_q)) ∙ e) (sym (ap (λ h. begin_of (h.layout)) (others_kept r ne_r)) ∙ f))
                  ]
            ];
      }

  own_words : row_in new head ≡ row_in pool (get_or heads row blank)
  own_words =
      ap (λ p. words_from p (head.few) (head.layout)) (laid.words)
      ∙ laid_words pool (row_in pool (get_or heads row blank)) (head.few) (head.layout) (laid.begin) (laid.short) words_long (laid.zeros)

  pub laid_same_rows : rows_in new (set heads row head) ≡ rows_in pool heads
  laid_same_rows =
      ext_get_or [] (rows_in new (set heads row head)) (rows_in pool heads)
      (length-rows new (set heads row head) ∙ length-set heads row head ∙ sym (length-rows pool heads))
      (λ r in_rows.
      let in_new : r < length (set heads row head) = omega (arith, length-rows new (set heads row head)) in
      let in_old : r < length heads = omega (arith, length-set heads row head) in
      row_at new (set heads row head) r blank in_new
      ∙ elim (cases_eq r row) as (λ _. row_in new (get_or (set heads row head) r blank) ≡ row_in pool (get_or heads r blank)) [
        | inl e ↦ rw (e, own_kept) own_words
        | inr ne ↦
            ap (row_in new) (others_kept r ne)
            ∙ words_same pool new ((get_or heads r blank).few) (layout_at heads r) (λ s e. rows.within r s e) (let m = longer in omega arith)
            (λ s e i h.
            let w = rows.within r s e in
            ap (λ p. get_or p (s + i) 0) (laid.words)
            ∙ get_or-append pool (take (extent_in (head.few) (head.layout)) (row_in pool (get_or heads row blank))) 0 (s + i) (omega arith))
      ]
      ∙ sym (row_at pool heads r blank in_old))

-- ---- the words of one row change within the pool
module _ (capacity : ℕ) (pool new : List ℕ) (heads : List TableHead) (row start : ℕ) (lt : row < length heads) (begins : begin_at heads row ≡ Some start)
    (long : length new ≡ length pool) (outside : (i : ℕ) → (i < start) ⊎ (start + extent_at heads row ≤ i) → get_or new i 0 ≡ get_or pool i 0)
    (rows : AreRows capacity pool heads) where
  pub row_changed : rows_in new heads ≡ set (rows_in pool heads) row (row_in new (get_or heads row blank))
  row_changed =
      let words : List ℕ = row_in new (get_or heads row blank) in
      ext_get_or [] (rows_in new heads) (set (rows_in pool heads) row words)
      (length-rows new heads ∙ sym (length-rows pool heads) ∙ sym (length-set (rows_in pool heads) row words))
      (λ r in_rows.
      let in_heads : r < length heads = omega (arith, length-rows new heads) in
      let row_in_rows : row < length (rows_in pool heads) = omega (arith, length-rows pool heads) in
      row_at new heads r blank in_heads
      ∙ elim (cases_eq r row) as (λ _. row_in new (get_or heads r blank) ≡ words_at (set (rows_in pool heads) row words) r) [
        | inl e ↦ rw e (sym (get_or-set_same (rows_in pool heads) row words [] row_in_rows))
        | inr ne ↦
            words_same pool new ((get_or heads r blank).few) (layout_at heads r) (λ s e. rows.within r s e) (omega arith)
            (λ s e i h.
            outside (s + i)
            (elim (rows.apart r row s start ne e begins) [
              | inl before ↦ inl (omega arith)
              | inr after ↦ inr (omega arith)
            ]))
            ∙ sym (row_at pool heads r blank in_heads) ∙ sym (get_or-set_other (rows_in pool heads) row r words [] ne)
      ])

-- ---- one head changes
pub rows-set : (pool : List ℕ) (heads : List TableHead) (row : ℕ) (head : TableHead) → rows_in pool (set heads row head) ≡ set (rows_in pool heads) row (row_in pool head)
rows-set pool heads row head = map-set (row_in pool) heads row head

pub element : {X : Type 0} (xs : List X) (i : ℕ) (d e : X) → i < length xs → get_or xs i d ≡ get_or xs i e
element [] i d e lt = absurd (omega arith)
element (x ∷ xs) zero d e lt = refl
element (x ∷ xs) (suc i) d e lt = element xs i d e (omega arith)

-- ---- a zero row is appended
abbrev pub few_head : List ℕ → TableHead
few_head few = record { layout = Few; few = few }

abbrev pub zero_head : ℕ → TableHead
zero_head w = few_head (replicate w 0)

module _ (capacity : ℕ) (pool : List ℕ) (heads : List TableHead) (w : ℕ) (rows : AreRows capacity pool heads) where
  pushed_before : (r : ℕ) → r < length heads → get_or (heads ++ zero_head w ∷ []) r blank ≡ get_or heads r blank
  pushed_before r lt = get_or-append heads (zero_head w ∷ []) blank r lt

  pushed_after : (r : ℕ) → length heads ≤ r → layout_at (heads ++ zero_head w ∷ []) r ≡ Few
  pushed_after r ge =
      elim (cases_eq (length heads) r) [
        | inl e ↦ ap (λ h. h.layout) (get_or_push heads (zero_head w) blank r e)
        | inr ne ↦
            let out : length (heads ++ zero_head w ∷ []) ≤ r = omega (arith, length_push heads (zero_head w)) in
            ap (λ h. h.layout) (get_or-eq_default (heads ++ zero_head w ∷ []) blank out)
      ]

  -- a row that is laid out is one of those before
  pushed_old : (r s : ℕ) → begin_at (heads ++ zero_head w ∷ []) r ≡ Some s → get_or (heads ++ zero_head w ∷ []) r blank ≡ get_or heads r blank
  pushed_old r s e =
      elim (cases_lt r (length heads)) [
        | inl lt ↦ pushed_before r lt
        | inr ge ↦ let none : None ≡ Some s = sym (ap begin_of (pushed_after r ge)) ∙ e in absurd (cc)
      ]

  pushed_begin : (r s : ℕ) → begin_at (heads ++ zero_head w ∷ []) r ≡ Some s → begin_at heads r ≡ Some s
  pushed_begin r s e = sym (ap (λ h. begin_of (h.layout)) (pushed_old r s e)) ∙ e

  pub pushed_need : need_of pool (heads ++ zero_head w ∷ []) ≡ need_of pool heads + 2 * w
  pushed_need = omega (arith, sum_by_push room_for heads (zero_head w), length-replicate {A = ℕ} w 0)

  pub pushed_rows : need_of pool heads + 2 * w ≤ capacity → AreRows capacity pool (heads ++ zero_head w ∷ [])
  pushed_rows room = record {
    room = omega (arith, pushed_need);
    short = λ r s n e.
        let old = pushed_old r s (ap begin_of e) in
        rw old (rows.short r s n (sym (ap (λ h. h.layout) old) ∙ e));
    within = λ r s e. subst (λ (h : TableHead). s + extent_in (h.few) (h.layout) ≤ length pool) (sym (pushed_old r s e)) (rows.within r s (pushed_begin r s e));
    apart = λ q r s t ne e f.
        apart_by (get_or heads q blank) (get_or heads r blank) (get_or (heads ++ zero_head w ∷ []) q blank) (get_or (heads ++ zero_head w ∷ []) r blank) s t (pushed_old q s e) (pushed_old r t f)
        (rows.apart q r s t ne (pushed_begin q s e) (pushed_begin r t f));
  }

-- ---- rows that are not laid out whole
not_whole : (old new : Layout) → (is_whole old ≡ true → is_whole new ≡ true) → is_whole new ≡ false → is_whole old ≡ false
not_whole Few new stays e = refl
not_whole (Short s n) new stays e = refl
not_whole (Whole s) new stays e = let t = stays refl in cc

pub wide_kept : (heads new : List TableHead) → length new ≡ length heads → StayLaid heads new → AreWide heads → AreWide new
wide_kept heads new long laid wide r lt few =
    subst (λ n. FEW < n) (sym ((laid r).0)) (wide r (omega arith) (not_whole (layout_at heads r) (layout_at new r) ((laid r).1) few))

-- a row that is laid out to its end is laid out whole
whole_to_end : (few : List ℕ) (layout : Layout) (start : ℕ) → begin_of layout ≡ Some start → IsShort few layout → length few ≤ extent_in few layout → is_whole layout ≡ false → ⊥
whole_to_end few Few start begins short up e = let n : None ≡ Some start = begins in cc
whole_to_end few (Short s n) start begins short up e = let l = short s n refl in omega arith
whole_to_end few (Whole s) start begins short up e = cc

-- a row is appended, and laid out whole
pub wide_pushed : (capacity : ℕ) (pool : List ℕ) (heads new : List TableHead) (w start : ℕ) → length new ≡ length heads + 1 → StayLaid (heads ++ zero_head w ∷ []) new → AreRows capacity pool new
    → begin_at new (length heads) ≡ Some start → w ≤ extent_at new (length heads) → AreWide heads → AreWide new
wide_pushed capacity pool heads new w start long laid rows begins up wide r lt few =
    elim (cases_lt r (length heads)) [
      | inl in_heads ↦
          let same : get_or (heads ++ zero_head w ∷ []) r blank ≡ get_or heads r blank = get_or-append heads (zero_head w ∷ []) blank r in_heads in
          let width : width_at new r ≡ width_at heads r = (laid r).0 ∙ ap (λ h. length (h.few)) same in
          let stays : is_whole (layout_at heads r) ≡ true → is_whole (layout_at new r) ≡ true = λ e. (laid r).1 (ap (λ h. is_whole (h.layout)) same ∙ e) in
          subst (λ n. FEW < n) (sym width) (wide r in_heads (not_whole (layout_at heads r) (layout_at new r) stays few))
      | inr past ↦
          let at : r ≡ length heads = omega arith in
          let its : get_or (heads ++ zero_head w ∷ []) (length heads) blank ≡ zero_head w = get_or_push heads (zero_head w) blank (length heads) refl in
          let width : width_at new (length heads) ≡ w = (laid (length heads)).0 ∙ ap (λ h. length (h.few)) its ∙ length-replicate {A = ℕ} w 0 in
          let some : width_at new (length heads) ≤ extent_at new (length heads) = omega arith in
          absurd (whole_to_end ((get_or new (length heads) blank).few) (layout_at new (length heads)) start begins (rows.short (length heads)) some (subst (λ k. is_whole (layout_at new k) ≡ false) at few))
    ]

-- a wide row is appended
pub wide_more : (heads : List TableHead) (w : ℕ) → FEW < w → AreWide heads → AreWide (heads ++ zero_head w ∷ [])
wide_more heads w more wide r lt few =
    elim (cases_lt r (length heads)) [
      | inl in_heads ↦
          let same : get_or (heads ++ zero_head w ∷ []) r blank ≡ get_or heads r blank = get_or-append heads (zero_head w ∷ []) blank r in_heads in
          subst (λ (h : TableHead). FEW < length (h.few)) (sym same) (wide r in_heads (ap (λ h. is_whole (h.layout)) (sym same) ∙ few))
      | inr past ↦
          let at : length heads ≡ r = omega (arith, length_push heads (zero_head w)) in
          let same : get_or (heads ++ zero_head w ∷ []) r blank ≡ zero_head w = get_or_push heads (zero_head w) blank r at in
          subst (λ (h : TableHead). FEW < length (h.few)) (sym same) (subst (λ n. FEW < n) (sym (length-replicate {A = ℕ} w 0)) more)
    ]

-- ---- a head is laid out
pub stay_laid : (heads : List TableHead) → StayLaid heads heads
stay_laid heads r = (refl, λ e. e)

-- a row that is laid out now was not laid out whole
pub laid_stay : (pool new : List ℕ) (heads : List TableHead) (row : ℕ) (head : TableHead) → row < length heads → IsLaidAtEnd pool (get_or heads row blank) new head
    → is_whole (layout_at heads row) ≡ false → StayLaid heads (set heads row head)
laid_stay pool new heads row head lt laid none r =
    elim (cases_eq r row) as (λ _. (width_at (set heads row head) r ≡ width_at heads r) × (is_whole (layout_at heads r) ≡ true → is_whole (layout_at (set heads row head) r) ≡ true)) [
      | inl e ↦ rw e (ap (λ h. length (h.few)) (get_or-set_same heads row head blank lt) ∙ ap length (laid.few), λ t. let both : true ≡ false = sym t ∙ none in absurd (cc))
      | inr ne ↦
          let same = get_or-set_other heads row r head blank ne in
          (ap (λ h. length (h.few)) same, λ t. ap (λ h. is_whole (h.layout)) same ∙ t)
    ]

-- what holds once a row is laid out
pub laid_out_rows : (capacity : ℕ) (pool new : List ℕ) (heads : List TableHead) (row : ℕ) (old head : TableHead) → row < length heads → old ≡ get_or heads row old
    → is_whole (old.layout) ≡ false → IsLaidAtEnd pool old new head → AreRows capacity pool heads
    → AreRows capacity new (set heads row head) × (rows_in new (set heads row head) ≡ rows_in pool heads) × (need_of new (set heads row head) ≤ need_of pool heads) × StayLaid heads (set heads row head)
laid_out_rows capacity pool new heads row old head lt at none laid rows =
    let same : old ≡ get_or heads row blank = at ∙ element heads row old blank lt in
    let its : IsLaidAtEnd pool (get_or heads row blank) new head = subst (λ h. IsLaidAtEnd pool h new head) same laid in (
      laid_rows capacity pool new heads row head lt its rows,
      laid_same_rows capacity pool new heads row head lt its rows,
      laid_need capacity pool new heads row head lt its rows,
      laid_stay pool new heads row head lt its (ap (λ h. is_whole (h.layout)) (sym same) ∙ none),
    )

-- where a row begins, once a head is set
pub own_head : (heads : List TableHead) (row : ℕ) (head : TableHead) → row < length heads → get_or (set heads row head) row blank ≡ head
own_head heads row head lt = get_or-set_same heads row head blank lt
