-- The marked places of a trail.
use Rattle.std.proofs.Common.{◌≡◌, ◌≢◌, refl, sym, ap, ◌∙◌, subst, ℕ, zero, suc, ◌+◌, ◌<◌, ◌≤◌, Bool, true, false, List, [], ◌∷◌, ◌++◌, length, get_or, take, replicate, ◌-◌, set, inl, inr, true≢false, nat_eq, nat_lt, eqb-true, arith, if◌then◌else◌}
use Rattle.std.proofs.lemmas.Bool.{eqb-false, ltb-true, ltb-false}
use Rattle.std.proofs.lemmas.List.{get_or-set_same, get_or-set_other, get_or_append_left, get_or-append_right, get_or-replicate, get_or_past, length-replicate, take_all}
use Rattle.cx_trail.specs.Sequence.{TrailState, IsTrail}
use Rattle.conflict_learn.specs.Learning.{literal_at, level_at, has_place}
use Rattle.conflict_learn.specs.Marks.{is_marked, StandBetween}
use Rattle.conflict_learn.specs.Touching.{IsLastMarked, NoneIsMarked}
use Rattle.conflict_learn.proofs.ChainOfResolutions.{by_cases}
use Rattle.conflict_learn.proofs.AnalyseLaws.{place_pushed, place_kept, place_last}

abbrev pub var_of : TrailState → ℕ → ℕ
var_of trail p = (literal_at trail p).variable

-- the places below one whose variables are marked, rising
pub marked_below : TrailState → List Bool → ℕ → List ℕ
marked_below trail marks zero = []
marked_below trail marks (suc p) = if is_marked marks (var_of trail p) then marked_below trail marks p ++ p ∷ [] else marked_below trail marks p

module _ (trail : TrailState) (marks : List Bool) where
  one_more : (p : ℕ) → is_marked marks (var_of trail p) ≡ true → marked_below trail marks (suc p) ≡ marked_below trail marks p ++ p ∷ []
  unfolding marked_below
  one_more p h = ap (λ b. if b then marked_below trail marks p ++ p ∷ [] else marked_below trail marks p) h

  no_more : (p : ℕ) → is_marked marks (var_of trail p) ≡ false → marked_below trail marks (suc p) ≡ marked_below trail marks p
  unfolding marked_below
  no_more p h = ap (λ b. if b then marked_below trail marks p ++ p ∷ [] else marked_below trail marks p) h

  pub below_has : (n q : ℕ) → q < n → is_marked marks (var_of trail q) ≡ true → has_place (marked_below trail marks n) q ≡ true
  below_has zero q less m = absurd (omega (arith, less))
  below_has (suc n) q less m = by_cases (is_marked marks (var_of trail n))
      (λ e. ap (λ ks. has_place ks q) (one_more n e) ∙ by_cases (nat_eq q n)
      (λ same. ap (has_place (marked_below trail marks n ++ n ∷ [])) (eqb-true q n same) ∙ place_last (marked_below trail marks n) n)
      (λ apart. let other = eqb-false q n apart in place_kept (marked_below trail marks n) n q (below_has n q (omega (arith, less, other)) m)))
      (λ e. ap (λ ks. has_place ks q) (no_more n e) ∙ by_cases (nat_eq q n)
      (λ same. absurd (true≢false (sym m ∙ ap (λ x. is_marked marks (var_of trail x)) (eqb-true q n same) ∙ e)))
      (λ apart. let other = eqb-false q n apart in below_has n q (omega (arith, less, other)) m))

  pub below_from : (n q : ℕ) → has_place (marked_below trail marks n) q ≡ true → (q < n) × (is_marked marks (var_of trail q) ≡ true)
  unfolding marked_below
  below_from zero q h = absurd (true≢false (sym h))
  below_from (suc n) q h = by_cases (is_marked marks (var_of trail n))
      (λ e. elim (place_pushed (marked_below trail marks n) n q (ap (λ ks. has_place ks q) (sym (one_more n e)) ∙ h)) [
        | inl g ↦ let r = below_from n q g in (let less = r.0 in omega (arith, less), r.1)
        | inr same ↦ (omega (arith, same), ap (λ x. is_marked marks (var_of trail x)) same ∙ e)
      ])
      (λ e. let r = below_from n q (ap (λ ks. has_place ks q) (sym (no_more n e)) ∙ h) in (let less = r.0 in omega (arith, less), r.1))

  -- the last marked place comes after the others
  pub below_cut : (n p : ℕ) → p < n → is_marked marks (var_of trail p) ≡ true → ((q : ℕ) → p < q → q < n → is_marked marks (var_of trail q) ≡ false) → marked_below trail marks n ≡ marked_below trail marks p ++ p ∷ []
  below_cut zero p less m others = absurd (omega (arith, less))
  below_cut (suc n) p less m others = by_cases (nat_eq p n)
      (λ same. subst (λ x. marked_below trail marks (suc x) ≡ marked_below trail marks p ++ p ∷ []) (eqb-true p n same) (one_more p m))
      (λ apart.
      let other = eqb-false p n apart in
      no_more n (others n (omega (arith, less, other)) (omega arith)) ∙ below_cut n p (omega (arith, less, other)) m (λ q up down. others q up (omega (arith, down))))

  pub below_none : (n : ℕ) → ((q : ℕ) → q < n → is_marked marks (var_of trail q) ≡ false) → marked_below trail marks n ≡ []
  unfolding marked_below
  below_none zero none = refl
  below_none (suc n) none = no_more n (none n (omega arith)) ∙ below_none n (λ q less. none q (omega (arith, less)))

pub below_same : (trail : TrailState) (old new : List Bool) (n : ℕ) → ((q : ℕ) → q < n → is_marked old (var_of trail q) ≡ is_marked new (var_of trail q)) → marked_below trail old n ≡ marked_below trail new n
unfolding marked_below
below_same trail old new zero same = refl
below_same trail old new (suc n) same =
    ap (λ b. if b then marked_below trail old n ++ n ∷ [] else marked_below trail old n) (same n (omega arith))
    ∙ ap (λ ks. if is_marked new (var_of trail n) then ks ++ n ∷ [] else ks) (below_same trail old new n (λ q less. same q (omega (arith, less))))

-- ---- a mark that is set or cleared
pub set_mark : (marks : List Bool) (v : ℕ) (b : Bool) → v < length marks → is_marked (set marks v b) v ≡ b
set_mark marks v b less = get_or-set_same marks v b false less

pub other_mark : (marks : List Bool) (v w : ℕ) (b : Bool) → w ≢ v → is_marked (set marks v b) w ≡ is_marked marks w
other_mark marks v w b apart = get_or-set_other marks v w b false apart

-- a place that is not marked but below or above
module _ (trail : TrailState) (levels : IsTrail trail) where
  -- without the mark of the last marked place, marked variables are below it
  pub stand_cleared : (marks : List Bool) (lowest from p : ℕ) → from ≤ length trail.entries → var_of trail p < length marks → IsLastMarked trail marks from lowest p → StandBetween trail marks lowest from
      → StandBetween trail (set marks (var_of trail p) false) lowest p
  stand_cleared marks lowest from p bound wide last stand v h = by_cases (nat_eq v (var_of trail p))
      (λ same. absurd (true≢false (sym h ∙ ap (is_marked (set marks (var_of trail p) false)) (eqb-true v (var_of trail p) same) ∙ set_mark marks (var_of trail p) false wide)))
      (λ apart.
      let other = eqb-false v (var_of trail p) apart in
      let was : is_marked marks v ≡ true = sym (other_mark marks (var_of trail p) v false other) ∙ h in
      let r = stand v was in
      let q = r.0 in
      let is = r.3 in
      let not_p : q ≢ p = λ e. other (sym is ∙ ap (var_of trail) e) in
      let under : q < p = by_cases (Rattle.std.proofs.Common.nat_lt p q)
      (λ up. absurd (true≢false (sym (ap (is_marked marks) is ∙ was) ∙ last.others q (Rattle.std.proofs.lemmas.Bool.ltb-true p q up) r.2)))
      (λ n. let low = Rattle.std.proofs.lemmas.Bool.ltb-false p q n in omega (arith, low, not_p)) in
      (q, r.1, under, is))

  -- what is marked below is the same
  pub cleared_below : (marks : List Bool) (p : ℕ) → p < length trail.entries → marked_below trail marks p ≡ marked_below trail (set marks (var_of trail p) false) p
  cleared_below marks p within = below_same trail marks (set marks (var_of trail p) false) p (λ q less. sym (other_mark marks (var_of trail p) (var_of trail q) false
      (λ same. let e = levels.distinct q p (omega (arith, less, within)) within same in omega (arith, less, e))))

  -- a marked variable's place is that of any literal with the variable
  pub marked_place : (marks : List Bool) (lowest from q : ℕ) → from ≤ length trail.entries → q < length trail.entries → StandBetween trail marks lowest from → is_marked marks (var_of trail q) ≡ true → (lowest ≤ q) × (q < from)
  marked_place marks lowest from q bound within stand m =
      let r = stand (var_of trail q) m in
      let less = r.2 in
      let same : r.0 ≡ q = levels.distinct r.0 q (omega (arith, less, bound)) within r.3 in
      let low = r.1 in
      (omega (arith, low, same), omega (arith, less, same))

-- no marked one below the last is of a higher level
pub lower_before : (trail : TrailState) → IsTrail trail → (marks : List Bool) (lowest from p : ℕ) → from ≤ length trail.entries → IsLastMarked trail marks from lowest p
    → (q : ℕ) → q < from → is_marked marks (var_of trail q) ≡ true → level_at trail q ≤ level_at trail p
lower_before trail levels marks lowest from p bound last q less m = by_cases (nat_lt p q)
    (λ up. absurd (true≢false (sym m ∙ last.others q (ltb-true p q up) less)))
    (λ n. let below = last.below in levels.rising q p (ltb-false p q n) (omega (arith, below, bound)))

-- none is marked where each marked one would be between
pub all_clear : (trail : TrailState) (marks : List Bool) (lowest from : ℕ) → StandBetween trail marks lowest from → NoneIsMarked trail marks lowest from → (v : ℕ) → is_marked marks v ≡ false
all_clear trail marks lowest from stand none v = by_cases (is_marked marks v)
    (λ m. let r = stand v m in absurd (true≢false (sym (ap (is_marked marks) r.3 ∙ m) ∙ none r.0 r.1 r.2)))
    (λ n. n)

-- ---- a table that grows
open_past : (old : List Bool) (n v : ℕ) → length old ≤ v → is_marked (old ++ replicate n false) v ≡ false
open_past old n v past = get_or-append_right old (replicate n false) (length old) v false refl past
    ∙ by_cases (nat_lt (v - length old) n)
    (λ e. get_or-replicate n (v - length old) false false (ltb-true (v - length old) n e))
    (λ e. get_or_past (replicate n false) (v - length old) false (omega (arith, length-replicate n false, ltb-false (v - length old) n e)))

-- with clear marks after it, or not at all
pub marks_grow : (grown : Bool) (old new : List Bool) (n count v : ℕ) → length old ≤ count → new ≡ (if grown then take count old ++ replicate n false else old) → is_marked new v ≡ is_marked old v
marks_grow false old new n count v all is = ap (λ ms. is_marked ms v) is
marks_grow true old new n count v all is = ap (λ ms. is_marked ms v) (is ∙ ap (λ ms. ms ++ replicate n false) (take_all count old all))
    ∙ by_cases (nat_lt v (length old))
    (λ e. get_or_append_left old (replicate n false) false v (ltb-true v (length old) e))
    (λ e. open_past old n v (ltb-false v (length old) e) ∙ sym (get_or_past old v false (ltb-false v (length old) e)))
