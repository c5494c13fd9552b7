-- An analysis visits the marked places, from the newest to the oldest.
use Rattle.std.proofs.Common.{◌≡◌, refl, sym, ap, ◌∙◌, subst, ℕ, ◌<◌, ◌≤◌, Bool, true, false, List, [], ◌∷◌, ◌++◌, length, map, set, None, Some, ◌⊎◌, inl, inr, true≢false, nat_eq, nat_lt, arith, if◌then◌else◌}
use Rattle.std.specs.List.{AllByRecursion}
use Rattle.std.proofs.lemmas.Bool.{or_left, or_right, or_cases, ltb-true, ltb-false}
use Rattle.std.proofs.lemmas.List.{map-append}
use Rattle.cx_base.specs.Literals.{Literal, negate}
use Rattle.cx_base.proofs.LiteralLaws.{negate-negate}
use Rattle.cx_base.proofs.Elements.{all_push}
use Rattle.cx_semantics.specs.Chain.{has_literal}
use Rattle.cx_semantics.proofs.Members.{has_at_head, has_left, has_right, has_pushed}
use Rattle.cx_trail.specs.Sequence.{TrailState, IsTrail, IsFalseIn, IsTrueIn}
use Rattle.conflict_learn.specs.declared.learning.Resolved.{Resolved}
use Rattle.conflict_learn.specs.Learning.{literal_at, level_at, has_place, IsFalling, IsAntecedent, AreHeld, literals_of}
use Rattle.conflict_learn.specs.Marks.{is_marked, StandBetween}
use Rattle.conflict_learn.specs.Touching.{Touched, IsLastMarked, NoneIsMarked, is_met, AreTouched}
use Rattle.conflict_learn.proofs.ChainOfResolutions.{by_cases}
use Rattle.conflict_learn.proofs.Progress.{Analysing}
use Rattle.conflict_learn.proofs.AnalyseLaws.{AllByRecursion-weaker, falling_push, place_pushed, place_kept, place_last, analysing_begins, analysing_keeps, analysing_resolves}
use Rattle.conflict_learn.proofs.MarkLaws.{var_of, marked_below, below_has, below_from, below_cut, below_none, cleared_below, all_clear}

-- ---- what was touched so far
-- as AreTouched, of the places from one on
pub record IsTouching (trail : TrailState) (resolved lits : List Literal) (touched : List ℕ) (from : ℕ) : Type 0 where
  pub places : List ℕ
  pub are : touched ≡ map (λ p. (literal_at trail p).variable) places
  pub falling : IsFalling places
  pub high : AllByRecursion (λ p. from ≤ p) places
  pub within : AllByRecursion (λ p. p < length trail.entries) places
  pub only : (q : ℕ) → has_place places q ≡ true → (0 < level_at trail q) × (is_met trail resolved lits q ≡ true)
  pub all : (q : ℕ) → q < length trail.entries → 0 < level_at trail q → is_met trail resolved lits q ≡ true → has_place places q ≡ true

pub touching_begins : (trail : TrailState) (from : ℕ) → IsTouching trail [] [] [] from
touching_begins trail from = record {
  places = [];
  are = refl;
  falling = tt;
  high = tt;
  within = tt;
  only = λ q h. absurd (true≢false (sym h));
  all = λ q w l m. absurd (true≢false (sym m));
}

pub touching_ends : (trail : TrailState) (resolved lits : List Literal) (touched : List ℕ) (from : ℕ) → IsTouching trail resolved lits touched from → AreTouched trail resolved lits touched
touching_ends trail resolved lits touched from t = record { places = t.places; are = t.are; falling = t.falling; within = t.within; only = t.only; all = t.all }

module _ (trail : TrailState) (levels : IsTrail trail) (resolved lits more_resolved more_lits : List Literal) (touched : List ℕ) (from p : ℕ) (less : p < from) (within : p < length trail.entries)
    (grows : (q : ℕ) → is_met trail resolved lits q ≡ true → is_met trail more_resolved more_lits q ≡ true)
    (splits : (q : ℕ) → q < length trail.entries → is_met trail more_resolved more_lits q ≡ true → (is_met trail resolved lits q ≡ true) ⊎ (q ≡ p))
    (met : is_met trail more_resolved more_lits p ≡ true) (t : IsTouching trail resolved lits touched from) where
  lower : AllByRecursion (λ x. p < x) t.places
  lower = AllByRecursion-weaker (λ x. from ≤ x) (λ x. p < x) (λ x up. omega (arith, less, up)) t.places t.high

  not_below : AllByRecursion (λ x. p ≤ x) t.places
  not_below = AllByRecursion-weaker (λ x. from ≤ x) (λ x. p ≤ x) (λ x up. omega (arith, less, up)) t.places t.high

  touching_one : 0 < level_at trail p → IsTouching trail more_resolved more_lits (touched ++ (literal_at trail p).variable ∷ []) p
  touching_one up = record {
    places = t.places ++ p ∷ [];
    are = ap (λ vs. vs ++ (literal_at trail p).variable ∷ []) t.are ∙ sym (map-append (λ x. (literal_at trail x).variable) t.places (p ∷ []));
    falling = falling_push t.places p t.falling lower;
    high = all_push (λ x. p ≤ x) t.places p not_below (omega arith);
    within = all_push (λ x. x < length trail.entries) t.places p t.within within;
    only = λ q h. elim (place_pushed t.places p q h) [
      | inl g ↦ let r = t.only q g in (r.0, grows q r.1)
      | inr e ↦ (subst (λ x. 0 < level_at trail x) (sym e) up, ap (is_met trail more_resolved more_lits) e ∙ met)
    ];
    all = λ q w l m. elim (splits q w m) [
      | inl g ↦ place_kept t.places p q (t.all q w l g)
      | inr e ↦ ap (has_place (t.places ++ p ∷ [])) e ∙ place_last t.places p
    ];
  }

  touching_none : level_at trail p ≤ 0 → IsTouching trail more_resolved more_lits touched p
  touching_none down = record {
    places = t.places;
    are = t.are;
    falling = t.falling;
    high = not_below;
    within = t.within;
    only = λ q h. let r = t.only q h in (r.0, grows q r.1);
    all = λ q w l m. elim (splits q w m) [
      | inl g ↦ t.all q w l g
      | inr e ↦ let same = ap (level_at trail) e in absurd (omega (arith, l, same, down))
    ];
  }

  touching_more : (more : List ℕ) → more ≡ (if nat_lt 0 (level_at trail p) then touched ++ (literal_at trail p).variable ∷ [] else touched) → IsTouching trail more_resolved more_lits more p
  touching_more more is = by_cases (nat_lt 0 (level_at trail p))
      (λ e. subst (λ vs. IsTouching trail more_resolved more_lits vs p) (sym (is ∙ ap (λ b. if b then touched ++ (literal_at trail p).variable ∷ [] else touched) e)) (touching_one (ltb-true 0 (level_at trail p) e)))
      (λ e. subst (λ vs. IsTouching trail more_resolved more_lits vs p) (sym (is ∙ ap (λ b. if b then touched ++ (literal_at trail p).variable ∷ [] else touched) e)) (touching_none (ltb-false 0 (level_at trail p) e)))

module _ (trail : TrailState) (levels : IsTrail trail) (resolved lits : List Literal) (touched more : List ℕ) (from p : ℕ) (less : p < from) (within : p < length trail.entries)
    (is : more ≡ (if nat_lt 0 (level_at trail p) then touched ++ (literal_at trail p).variable ∷ [] else touched)) (t : IsTouching trail resolved lits touched from) where
  same_place : (q : ℕ) → q < length trail.entries → literal_at trail q ≡ literal_at trail p → q ≡ p
  same_place q w e = levels.distinct q p w within (ap (λ (x : Literal). x.variable) e)

  pub touching_kept : IsTouching trail resolved (lits ++ negate (literal_at trail p) ∷ []) more p
  touching_kept =
      let there = λ (q : ℕ). has_literal resolved (literal_at trail q) in
      let new = lits ++ negate (literal_at trail p) ∷ [] in
      touching_more trail levels resolved lits resolved new touched from p less within
      (λ q h. elim (or_cases (has_literal lits (negate (literal_at trail q))) (there q) h) [
        | inl g ↦ or_left (has_literal new (negate (literal_at trail q))) (there q) (has_left lits (negate (literal_at trail p) ∷ []) _ g)
        | inr g ↦ or_right (has_literal new (negate (literal_at trail q))) (there q) g
      ])
      (λ q w h. elim (or_cases (has_literal new (negate (literal_at trail q))) (there q) h) [
        | inl g ↦ elim (has_pushed lits (negate (literal_at trail p)) (negate (literal_at trail q)) g) [
          | inl k ↦ inl (or_left (has_literal lits (negate (literal_at trail q))) (there q) k)
          | inr e ↦ inr (same_place q w (sym (negate-negate (literal_at trail q)) ∙ ap negate e ∙ negate-negate (literal_at trail p)))
        ]
        | inr g ↦ inl (or_right (has_literal lits (negate (literal_at trail q))) (there q) g)
      ])
      (or_left (has_literal new (negate (literal_at trail p))) (there p) (has_right lits (negate (literal_at trail p) ∷ []) _ (has_at_head (negate (literal_at trail p)) [])))
      t more is

  pub touching_resolved : IsTouching trail (resolved ++ literal_at trail p ∷ []) lits more p
  touching_resolved =
      let there = λ (q : ℕ). has_literal lits (negate (literal_at trail q)) in
      let new = resolved ++ literal_at trail p ∷ [] in
      touching_more trail levels resolved lits new lits touched from p less within
      (λ q h. elim (or_cases (there q) (has_literal resolved (literal_at trail q)) h) [
        | inl g ↦ or_left (there q) (has_literal new (literal_at trail q)) g
        | inr g ↦ or_right (there q) (has_literal new (literal_at trail q)) (has_left resolved (literal_at trail p ∷ []) _ g)
      ])
      (λ q w h. elim (or_cases (there q) (has_literal new (literal_at trail q)) h) [
        | inl g ↦ inl (or_left (there q) (has_literal resolved (literal_at trail q)) g)
        | inr g ↦ elim (has_pushed resolved (literal_at trail p) (literal_at trail q) g) [
          | inl k ↦ inl (or_right (there q) (has_literal resolved (literal_at trail q)) k)
          | inr e ↦ inr (same_place q w e)
        ]
      ])
      (or_right (there p) (has_literal new (literal_at trail p)) (has_right resolved (literal_at trail p ∷ []) _ (has_at_head (literal_at trail p) [])))
      t more is

-- ---- the resolved literals
pub one_more_resolved : (resolved more : List Resolved) (l : Literal) (n : ℕ) → more ≡ resolved ++ record { literal = l; id = n } ∷ [] → literals_of more ≡ literals_of resolved ++ l ∷ []
one_more_resolved resolved more l n is = ap literals_of is ∙ map-append (λ (r : Resolved). r.literal) resolved (record { literal = l; id = n } ∷ [])

-- they are true
pub true_more : (trail : TrailState) (resolved : List Literal) (p : ℕ) → p < length trail.entries → ((m : Literal) → has_literal resolved m ≡ true → IsTrueIn trail.entries m)
    → (m : Literal) → has_literal (resolved ++ literal_at trail p ∷ []) m ≡ true → IsTrueIn trail.entries m
true_more trail resolved p within old m h = elim (has_pushed resolved (literal_at trail p) m h) [
  | inl g ↦ old m g
  | inr e ↦ (p, (within, sym e))
]

-- ---- the analysis over marks
module _ (trail : TrailState) (levels : IsTrail trail) (conflict : List Literal) (above : 0 < trail.level) where
  pub visiting_begins : (holds : List Literal → ℕ → Type 0) (old marks : List Bool) → Touched None old marks conflict → ((m : Literal) → has_literal conflict m ≡ true → IsFalseIn trail.entries m)
      → (m : Literal) → has_literal conflict m ≡ true → ((q : ℕ) → q < length trail.entries → literal_at trail q ≡ negate m → level_at trail q ≡ trail.level)
      → Analysing trail conflict holds [] [] (marked_below trail marks (length trail.entries))
  visiting_begins holds old marks t all_false m in_it now =
      analysing_begins trail conflict levels above holds (marked_below trail marks (length trail.entries))
      (λ q h. (below_from trail marks (length trail.entries) q h).0)
      (λ x h. let f = all_false x h in (f.0, below_has trail marks (length trail.entries) f.0 f.1.0 (ap (is_marked marks) (ap (λ (y : Literal). y.variable) f.1.1) ∙ t.has x h refl), f.1.1))
      m in_it now

  -- the last marked place and those below it, once it is cleared
  pub visited : (marks : List Bool) (lowest from p : ℕ) → from ≤ length trail.entries → IsLastMarked trail marks from lowest p → marked_below trail marks from ≡ marked_below trail (set marks (var_of trail p) false) p ++ p ∷ []
  visited marks lowest from p bound last =
      let less = last.below in
      below_cut trail marks from p last.below last.marked last.others ∙ ap (λ ks. ks ++ p ∷ []) (cleared_below trail levels marks p (omega (arith, less, bound)))

  module _ (holds : List Literal → ℕ → Type 0) (resolved : List Resolved) (lits : List Literal) (marks : List Bool) (p : ℕ) (within : p < length trail.entries)
      (a : Analysing trail conflict holds resolved lits (marked_below trail marks p ++ p ∷ [])) (is_first : Bool) (first_is : is_first ≡ nat_eq (length lits) 0) where
    low : (q : ℕ) → has_place (marked_below trail marks p) q ≡ true → q < p
    low q h = (below_from trail marks p q h).0

    pub visiting_keeps : (is_first ≡ true → (q : ℕ) → q < p → is_marked marks (var_of trail q) ≡ true → level_at trail q < trail.level) → (is_first ≡ false → 0 < level_at trail p)
        → Analysing trail conflict holds resolved (lits ++ negate (literal_at trail p) ∷ []) (marked_below trail marks p)
    visiting_keeps first later = analysing_keeps trail conflict levels above holds resolved lits (marked_below trail marks p) p a low is_first first_is
        (λ e q h. let r = below_from trail marks p q h in first e q r.0 r.1) later

    pub visiting_resolves : (after : List Literal → ℕ → Type 0) (new : List Bool) (clause : List Literal) (n : ℕ) → AreHeld holds after → after clause n → IsAntecedent trail (literal_at trail p) clause → Touched (Some (literal_at trail p)) marks new clause
        → (is_first ≡ true → (q : ℕ) × (q < p) × (is_marked marks (var_of trail q) ≡ true) × (level_at trail q ≡ trail.level))
        → Analysing trail conflict after (resolved ++ record { literal = literal_at trail p; id = n } ∷ []) lits (marked_below trail new p)
    visiting_resolves after new clause n held_on k implied t more = analysing_resolves trail conflict levels above holds resolved lits (marked_below trail marks p) p a low after (marked_below trail new p) clause n held_on k implied
        (λ q h. let r = below_from trail marks p q h in below_has trail new p q r.0 (t.keeps (var_of trail q) r.1))
        (λ q h. (below_from trail new p q h).0)
        (λ m h n. let f = (implied p within refl).others_false m h n in (f.0, below_has trail new p f.0 f.1 (ap (is_marked new) (ap (λ (y : Literal). y.variable) f.2) ∙ t.has m h n), f.2))
        is_first first_is
        (λ e. let r = more e in (r.0, below_has trail marks p r.0 r.1 r.2, r.3))

-- ---- none is marked any more
module _ (trail : TrailState) (marks : List Bool) (lowest from : ℕ) (stand : StandBetween trail marks lowest from) (none : NoneIsMarked trail marks lowest from) where
  pub nothing_left : marked_below trail marks from ≡ []
  nothing_left = below_none trail marks from (λ q less. all_clear trail marks lowest from stand none (var_of trail q))
