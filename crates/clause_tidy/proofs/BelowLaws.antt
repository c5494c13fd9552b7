-- Clauses of the first references that are tidy.
use Rattle.std.proofs.Common.{◌≡◌, ap, ◌∙◌, ℕ, ◌<◌, ◌≤◌, inl, inr, arith, List}
use Rattle.std.proofs.lemmas.Bool.{or_cases}
use Rattle.cx_base.specs.Literals.{Literal}
use Rattle.cx_semantics.specs.Chain.{is_inside}
use Rattle.cx_semantics.specs.Fresh.{is_tautology}
use Rattle.clause_arena.specs.Clauses.{ArenaState, IsLive, literals_at, literals_in}
use Rattle.tidy_rules.specs.Below.{TidiedBelow}
use Rattle.tidy_rules.specs.Relations.{strengthens}
use Rattle.clause_tidy.specs.Pairs.{Bears}
use Rattle.clause_tidy.specs.Tautologies.{IsLeft, IsFreeAt}
use Rattle.clause_tidy.proofs.LeftLaws.{was_there}
use Rattle.clause_tidy.proofs.Literals.{not_both}

pub none_bears_below : (a : ArenaState) (from : ℕ) → TidiedBelow a from → (p q : ℕ) → p < from → q < from → IsLive a q → Bears a p q → ⊥
none_bears_below a from tidy p q low_p low_q live (ne, live_p, bears) = elim (or_cases (is_inside (literals_at a p) (literals_at a q)) (strengthens (literals_at a p) (literals_at a q)) bears) [
  | inl i ↦ not_both _ i (tidy.none_inside p q (low_p, live_p) (low_q, live) ne)
  | inr s ↦ not_both _ s (tidy.none_strengthened p q (low_p, live_p) (low_q, live) ne)
]

pub free_below : (a : ArenaState) (from : ℕ) → TidiedBelow a from → (r : ℕ) → r < from → IsFreeAt a r
free_below a from tidy r low live = tidy.no_tautology r (low, live)

pub fewer_below : (a : ArenaState) (from fewer : ℕ) → fewer ≤ from → TidiedBelow a from → TidiedBelow a fewer
fewer_below a from fewer less tidy = record {
  no_tautology = λ n h. let low = h.0 in tidy.no_tautology n (omega (arith, low, less), h.1);
  none_inside = λ m n h k ne. let low = h.0 in let low_n = k.0 in tidy.none_inside m n (omega (arith, low, less), h.1) (omega (arith, low_n, less), k.1) ne;
  none_strengthened = λ m n h k ne. let low = h.0 in let low_n = k.0 in tidy.none_strengthened m n (omega (arith, low, less), h.1) (omega (arith, low_n, less), k.1) ne;
}

pub none_below : (a : ArenaState) → TidiedBelow a 0
none_below a = record {
  no_tautology = λ n h. let low = h.0 in absurd (omega (arith, low));
  none_inside = λ m n h k ne. let low = h.0 in absurd (omega (arith, low));
  none_strengthened = λ m n h k ne. let low = h.0 in absurd (omega (arith, low));
}

-- what is left of tidy clauses
module _ (a b : ArenaState) (left : IsLeft a b) where
  same_literals : (q : ℕ) → IsLive b q → literals_at b q ≡ literals_at a q
  same_literals q live = ap literals_in (left.same q live)

  pub below_left : (from : ℕ) → TidiedBelow a from → TidiedBelow b from
  below_left from tidy = record {
    no_tautology = λ n h. ap is_tautology (same_literals n h.1) ∙ tidy.no_tautology n (h.0, was_there a b left n h.1);
    none_inside = λ m n h k ne.
        ap (λ (x : List Literal). is_inside x (literals_at b n)) (same_literals m h.1) ∙ ap (is_inside (literals_at a m)) (same_literals n k.1)
        ∙ tidy.none_inside m n (h.0, was_there a b left m h.1) (k.0, was_there a b left n k.1) ne;
    none_strengthened = λ m n h k ne.
        ap (λ (x : List Literal). strengthens x (literals_at b n)) (same_literals m h.1) ∙ ap (strengthens (literals_at a m)) (same_literals n k.1)
        ∙ tidy.none_strengthened m n (h.0, was_there a b left m h.1) (k.0, was_there a b left n k.1) ne;
  }
