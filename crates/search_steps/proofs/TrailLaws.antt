-- Trails: no clash, levels, and taking levels back.
use Rattle.std.proofs.Common.{◌≡◌, refl, sym, ap, ◌∙◌, subst, ℕ, ◌+◌, ◌<◌, ◌≤◌, nat_le, Bool, true, false, cond, not, ◌||◌, nat_eq, List, [], ◌∷◌, arith, inl, inr}
use Rattle.std.proofs.lemmas.Bool.{leb-true, leb-false, and_right, and_from}
use Rattle.cx_base.specs.Literals.{Literal, negate, same_literal, differ}
use Rattle.cx_base.proofs.LiteralLaws.{negate-negate, are_one}
use Rattle.cx_semantics.specs.Chain.{has_literal, is_inside}
use Rattle.cx_semantics.specs.Tables.{Table}
use Rattle.cx_semantics.proofs.Closure.{has_by_inside, inside_more}
use Rattle.cx_semantics.proofs.Members.{has_at_head, has_split}
use Rattle.search_steps.specs.Quiet.{HasNoClash}
use Rattle.search_steps.specs.Trail.{Why, decided, by_clause, by_row, Entry, all_held, held, back_to, level_of, IsSetBy, IsTrail, IsUnassigned}
use Rattle.conflict_learn.proofs.ChainOfResolutions.{by_cases}
use Rattle.search_steps.proofs.Sets.{not_both}

signs : (b : Bool) → not (differ (not b) b) ≡ false
signs true = refl
signs false = refl

not_same_false : (l : Literal) → same_literal (negate l) l ≡ false
not_same_false l = and_right (nat_eq l.variable l.variable) (not (differ (not l.negative) l.negative)) (signs l.negative)

pub one_more_no_clash : (u : List Literal) (l : Literal) → HasNoClash u → IsUnassigned u l → HasNoClash (l ∷ u)
one_more_no_clash u l c n x h = elim (has_split l u x h) [
  | inl e ↦ subst (λ y. has_literal (l ∷ u) (negate y) ≡ false) (sym e) (ap (λ b. b || has_literal u (negate l)) (not_same_false l) ∙ n.1)
  | inr g ↦ by_cases (same_literal (negate x) l)
      (λ e. not_both (has_literal u x) g (ap (has_literal u) (sym (negate-negate x) ∙ ap negate (are_one (negate x) l e)) ∙ n.1))
      (λ e. ap (λ b. b || has_literal u (negate x)) e ∙ c x g)
]

le_by : (a b : ℕ) → nat_le a b ≡ true → a ≤ b
le_by a b h = leb-true a b h

gt_by : (a b : ℕ) → nat_le a b ≡ false → b < a
gt_by a b h = leb-false a b h

le_is : (a b : ℕ) → a ≤ b → nat_le a b ≡ true
le_is a b h = by_cases (nat_le a b) (λ e. e) (λ e. absurd (omega (arith, h, gt_by a b e)))

gt_is : (a b : ℕ) → b < a → nat_le a b ≡ false
gt_is a b h = by_cases (nat_le a b) (λ e. absurd (omega (arith, h, le_by a b e))) (λ e. e)

pub held_inside : (k : ℕ) (es : List Entry) → is_inside (held k es) (all_held es) ≡ true
held_inside k [] = refl
held_inside k (e ∷ es) = elim (nat_le e.level k) as (λ b. is_inside (cond b (e.literal ∷ held k es) (held k es)) (all_held (e ∷ es)) ≡ true) [
  | true ↦ and_from _ _ (has_at_head e.literal (all_held es)) (inside_more (held k es) (all_held es) e.literal (held_inside k es))
  | false ↦ inside_more (held k es) (all_held es) e.literal (held_inside k es)
]

-- a higher level holds more
pub held_rises : (j k : ℕ) (es : List Entry) → j ≤ k → is_inside (held j es) (held k es) ≡ true
held_rises j k [] h = refl
held_rises j k (e ∷ es) h = by_cases (nat_le e.level j)
    (λ a. let b : nat_le e.level k ≡ true = le_is e.level k (omega (arith, h, le_by e.level j a)) in
    subst (λ x. is_inside (cond x (e.literal ∷ held j es) (held j es)) (cond (nat_le e.level k) (e.literal ∷ held k es) (held k es)) ≡ true) (sym a)
    (subst (λ x. is_inside (e.literal ∷ held j es) (cond x (e.literal ∷ held k es) (held k es)) ≡ true) (sym b)
    (and_from _ _ (has_at_head e.literal (held k es)) (inside_more (held j es) (held k es) e.literal (held_rises j k es h)))))
    (λ a. subst (λ x. is_inside (cond x (e.literal ∷ held j es) (held j es)) (cond (nat_le e.level k) (e.literal ∷ held k es) (held k es)) ≡ true) (sym a)
    (more (nat_le e.level k) (held_rises j k es h)))
  where
    more : (x : Bool) → is_inside (held j es) (held k es) ≡ true → is_inside (held j es) (cond x (e.literal ∷ held k es) (held k es)) ≡ true
    more true r = inside_more (held j es) (held k es) e.literal r
    more false r = r

-- an entry above level k adds nothing to what is held there
pub held_over : (k : ℕ) (e : Entry) (es : List Entry) → k < e.level → held k (e ∷ es) ≡ held k es
held_over k e es h = ap (λ b. cond b (e.literal ∷ held k es) (held k es)) (gt_is e.level k h)

pub part_no_clash : (a u : List Literal) → is_inside a u ≡ true → HasNoClash u → HasNoClash a
part_no_clash a u h c l k = by_cases (has_literal a (negate l)) (λ e. not_both (has_literal u (negate l)) (has_by_inside a u (negate l) h e) (c l (has_by_inside a u l h k))) (λ e. e)

-- taking levels back leaves the lower ones
pub held_back : (k b : ℕ) (es : List Entry) → k ≤ b → held k (back_to b es) ≡ held k es
held_back k b [] h = refl
held_back k b (e ∷ es) h = by_cases (nat_le e.level b)
    (λ a. ap (λ x. held k (cond x (e ∷ es) (back_to b es))) a)
    (λ a. ap (λ x. held k (cond x (e ∷ es) (back_to b es))) a ∙ held_back k b es h ∙ sym (held_over k e es (omega (arith, h, gt_by e.level b a))))

module _ (table : Table) (IsRow : List Literal → Type 0) where
  pub trail_no_clash : (es : List Entry) → IsTrail table IsRow es → HasNoClash (all_held es)
  trail_no_clash [] t = λ l h. refl
  trail_no_clash (e ∷ es) t = one_more_no_clash (all_held es) e.literal (trail_no_clash es t.2) t.0

  pub stands_low : (why : Why) (l : Literal) (level : ℕ) (es : List Entry) → IsSetBy table IsRow why l level es → level_of es ≤ level
  stands_low decided l level es s = omega (arith, s)
  stands_low (by_clause n) l level es s = omega (arith, s.0)
  stands_low (by_row c) l level es s = omega (arith, s.0)

  stands_high : (why : Why) (l : Literal) (level : ℕ) (es : List Entry) → IsSetBy table IsRow why l level es → level ≤ level_of es + 1
  stands_high decided l level es s = omega (arith, s)
  stands_high (by_clause n) l level es s = omega (arith, s.0)
  stands_high (by_row c) l level es s = omega (arith, s.0)

  -- up to its level or a higher one, all of a trail is held
  pub held_all : (k : ℕ) (es : List Entry) → IsTrail table IsRow es → level_of es ≤ k → held k es ≡ all_held es
  held_all k [] t h = refl
  held_all k (e ∷ es) t h =
      let low : level_of es ≤ e.level = stands_low e.why e.literal e.level es t.1 in
      ap (λ b. cond b (e.literal ∷ held k es) (held k es)) (le_is e.level k h) ∙ ap (λ x. e.literal ∷ x) (held_all k es t.2 (omega (arith, h, low)))

  -- what is left is a trail of just that level, and holds what was held there
  pub back_is_trail : (b : ℕ) (es : List Entry) → IsTrail table IsRow es → IsTrail table IsRow (back_to b es)
  back_is_trail b [] t = t
  back_is_trail b (e ∷ es) t = elim (nat_le e.level b) as (λ x. IsTrail table IsRow (cond x (e ∷ es) (back_to b es))) [ true ↦ t | false ↦ back_is_trail b es t.2 ]

  pub back_level : (b : ℕ) (es : List Entry) → IsTrail table IsRow es → b ≤ level_of es → level_of (back_to b es) ≡ b
  back_level b [] t h = omega (arith, h)
  back_level b (e ∷ es) t h = elim (nat_le e.level b) as (λ x. nat_le e.level b ≡ x → level_of (cond x (e ∷ es) (back_to b es)) ≡ b) [
    | true ↦ λ a. omega (arith, h, le_by e.level b a)
    | false ↦ λ a. let high = stands_high e.why e.literal e.level es t.1 in back_level b es t.2 (omega (arith, high, gt_by e.level b a))
  ] refl

  pub back_holds : (b : ℕ) (es : List Entry) → IsTrail table IsRow es → b ≤ level_of es → all_held (back_to b es) ≡ held b es
  back_holds b es t h = sym (held_all b (back_to b es) (back_is_trail b es t) (omega (arith, back_level b es t h))) ∙ held_back b b es (omega arith)
