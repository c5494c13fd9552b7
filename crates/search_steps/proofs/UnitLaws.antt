-- A literal of level 0 whose unit clause is logged rests on that clause from then on, so the clause that forced it may go.
use Rattle.std.proofs.Common.{◌≡◌, refl, sym, ap, ◌∙◌, subst, ℕ, suc, nat_le, cond, List, [], ◌∷◌, ◌++◌, Some, arith, inl, inr, true≢false}
use Rattle.cx_base.specs.Literals.{Literal, same_literal}
use Rattle.cx_semantics.specs.Tables.{Table, get}
use Rattle.cx_base.proofs.LiteralLaws.{same_literal-itself}
use Rattle.cx_semantics.proofs.Members.{has_at_head, has_split}
use Rattle.search_steps.specs.Trail.{Entry, rests_on, Why, decided, by_clause, by_row, held, all_held, level_of, IsTrail, IsSetBy, Forces}
use Rattle.search_steps.proofs.Sets.{not_both}

all_same : (newer older : List Entry) (e : Entry) (n : ℕ) → all_held (newer ++ rests_on e n ∷ older) ≡ all_held (newer ++ e ∷ older)
all_same [] older e n = refl
all_same (x ∷ newer) older e n = ap (λ lits. x.literal ∷ lits) (all_same newer older e n)

pub held_same : (k : ℕ) (newer older : List Entry) (e : Entry) (n : ℕ) → held k (newer ++ rests_on e n ∷ older) ≡ held k (newer ++ e ∷ older)
held_same k [] older e n = refl
held_same k (x ∷ newer) older e n = ap (λ lits. cond (nat_le x.level k) (x.literal ∷ lits) lits) (held_same k newer older e n)

pub level_same : (newer older : List Entry) (e : Entry) (n : ℕ) → level_of (newer ++ rests_on e n ∷ older) ≡ level_of (newer ++ e ∷ older)
level_same [] older e n = refl
level_same (x ∷ newer) older e n = refl

module _ (table : Table) (IsRow : List Literal → Type 0) where
  level_zero : (why : Why) (l : Literal) (es : List Entry) → IsSetBy table IsRow why l 0 es → 0 ≡ level_of es
  level_zero decided l es s = absurd (omega (arith, s))
  level_zero (by_clause n) l es s = s.0
  level_zero (by_row c) l es s = s.0

  unit_forces : (l : Literal) (known : List Literal) → Forces (l ∷ []) known l
  unit_forces l known = record {
    has_it = has_at_head l [];
    others_false = λ m h n. elim (has_split l [] m h) [
      | inl e ↦ not_both (same_literal l m) (ap (same_literal l) e ∙ same_literal-itself l) n
      | inr g ↦ absurd (true≢false (sym g))
    ];
  }

  pub trail_rests_on : (newer older : List Entry) (e : Entry) (n : ℕ) → e.level ≡ 0 → get table n ≡ Some (e.literal ∷ []) → IsTrail table IsRow (newer ++ e ∷ older) → IsTrail table IsRow (newer ++ rests_on e n ∷ older)
  trail_rests_on [] older e n low live t =
      let zero_level : 0 ≡ level_of older = level_zero e.why e.literal older (subst (λ k. IsSetBy table IsRow e.why e.literal k older) low t.1) in
      (t.0, (low ∙ zero_level, (e.literal ∷ [], live, unit_forces e.literal (all_held older))), t.2)
  trail_rests_on (x ∷ newer) older e n low live t =
      (subst (λ lits. Rattle.search_steps.specs.Trail.IsUnassigned lits x.literal) (sym (all_same newer older e n)) t.0, stands x.why t.1, trail_rests_on newer older e n low live t.2)
    where
      stands : (why : Why) → IsSetBy table IsRow why x.literal x.level (newer ++ e ∷ older) → IsSetBy table IsRow why x.literal x.level (newer ++ rests_on e n ∷ older)
      stands decided s = s ∙ ap suc (sym (level_same newer older e n))
      stands (by_clause k) (a, (c, l, f)) = (a ∙ sym (level_same newer older e n), (c, l, subst (λ lits. Forces c lits x.literal) (sym (all_same newer older e n)) f))
      stands (by_row c) (a, (r, f)) = (a ∙ sym (level_same newer older e n), (r, subst (λ lits. Forces c lits x.literal) (sym (all_same newer older e n)) f))
