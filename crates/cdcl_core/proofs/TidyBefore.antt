-- Clauses of an arena that stay tidy.
use Rattle.std.proofs.Common.{◌≡◌, ◌≢◌, refl, sym, ap, ◌∙◌, subst, ℕ, ◌+◌, ◌<◌, ◌≤◌, List, [], ◌∷◌, ◌++◌, length, set, get_or, Option, Some, None, ⊎_elim, arith}
use Rattle.std.specs.Prelude.{IsSome}
use Rattle.std.proofs.lemmas.Bool.{cases_eq, cases_lt}
use Rattle.std.proofs.lemmas.List.{get_or_append_left, length-append}
use Rattle.cx_base.specs.Literals.{Literal}
use Rattle.cx_base.specs.declared.moved.Move.{Move}
use Rattle.cx_base.specs.Moved.{moved_to}
use Rattle.cx_semantics.specs.Chain.{is_inside}
use Rattle.cx_semantics.specs.Fresh.{is_tautology}
use Rattle.clause_arena.specs.Clauses.{ArenaState, Stored, IsLive, clause_at, literals_at, literals_in}
use Rattle.clause_arena.specs.Compact.{IsRenamed}
use Rattle.clause_arena.proofs.PackingLaws.{live_within}
use Rattle.tidy_rules.specs.declared.part.TidyPart.{TidyPart}
use Rattle.tidy_rules.specs.declared.part.TidyPart.TheVariants.{Clause as APart}
use Rattle.tidy_rules.specs.Parts.{Tidied}
use Rattle.tidy_rules.specs.Relations.{strengthens}
use Rattle.watch_lists.proofs.RenamedLaws.{clause_moved, some_same}
use Rattle.cdcl_search.specs.Ties.{AreTidyBefore}
use Rattle.cdcl_core.specs.Compacting.{IsFirstLive, MovesBelow}

pub none_before : (a : ArenaState) → AreTidyBefore a 0
none_before a = record {
  tidy = record {
    no_tautology = λ n h. let low = h.0 in absurd (omega (arith, low));
    none_inside = λ m n h k ne. let low = h.0 in absurd (omega (arith, low));
    none_strengthened = λ m n h k ne. let low = h.0 in absurd (omega (arith, low));
  };
  within = omega arith;
}

same_part : (r q : ℕ) → APart r ≡ APart q → r ≡ q
same_part r q e = cc

-- clauses that are tidy together with units
pub all_are_tidy : (b : ArenaState) (units : List Literal) → Tidied b units → AreTidyBefore b (length b.clauses)
all_are_tidy b units t = record {
  tidy = record {
    no_tautology = λ n h. t.no_tautology (APart n) h.1;
    none_inside = λ m n h k ne. t.none_inside (APart m) (APart n) h.1 k.1 (λ e. ne (same_part m n e));
    none_strengthened = λ m n h k ne. t.none_strengthened (APart m) (APart n) h.1 k.1 (λ e. ne (same_part m n e));
  };
  within = omega arith;
}

-- ---- each was a tidy one
-- the clause was one of the first ones
record WasBefore (a b : ArenaState) (m s : ℕ) : Type 0 where
  r : ℕ
  low : r < m
  live : IsLive a r
  same : literals_at b s ≡ literals_at a r

module _ (a b : ArenaState) (m n : ℕ) (tidy : AreTidyBefore a m) (within : n ≤ length b.clauses) (was : (s : ℕ) → s < n → IsLive b s → WasBefore a b m s)
    (apart : (s t : ℕ) (s_low : s < n) (s_live : IsLive b s) (t_low : t < n) (t_live : IsLive b t) → (was s s_low s_live).r ≡ (was t t_low t_live).r → s ≡ t) where
  tidy_by : AreTidyBefore b n
  tidy_by = record {
    tidy = record {
      no_tautology = λ s h. let w = was s h.0 h.1 in ap is_tautology w.same ∙ tidy.tidy.no_tautology w.r (w.low, w.live);
      none_inside = λ s t h k ne.
          let w = was s h.0 h.1 in
          let v = was t k.0 k.1 in
          ap (λ (x : List Literal). is_inside x (literals_at b t)) w.same ∙ ap (is_inside (literals_at a w.r)) v.same ∙ tidy.tidy.none_inside w.r v.r (w.low, w.live) (v.low, v.live) (λ e. ne (apart s t h.0 h.1 k.0 k.1 e));
      none_strengthened = λ s t h k ne.
          let w = was s h.0 h.1 in
          let v = was t k.0 k.1 in
          ap (λ (x : List Literal). strengthens x (literals_at b t)) w.same ∙ ap (strengthens (literals_at a w.r)) v.same ∙ tidy.tidy.none_strengthened w.r v.r (w.low, w.live) (v.low, v.live) (λ e. ne (apart s t h.0 h.1 k.0 k.1 e));
    };
    within = within;
  }

-- each is as it was under its reference
pub tidy_still : (a b : ArenaState) (m : ℕ) → AreTidyBefore a m → m ≤ length b.clauses → ((s : ℕ) → s < m → IsLive b s → clause_at b s ≡ clause_at a s) → AreTidyBefore b m
tidy_still a b m tidy within same = tidy_by a b m m tidy within
    (λ s low live. record { r = s; low = low; live = subst (λ (o : Option Stored). IsSome o) (same s low live) live; same = ap literals_in (same s low live) }) (λ s t s_low s_live t_low t_live e. e)

-- one clause more
pub tidy_added : (a b : ArenaState) (m : ℕ) (x : Option Stored) → b.clauses ≡ a.clauses ++ x ∷ [] → AreTidyBefore a m → AreTidyBefore b m
tidy_added a b m x is tidy =
    let within = tidy.within in
    let long : length b.clauses ≡ length a.clauses + length (x ∷ []) = ap (λ (xs : List (Option Stored)). length xs) is ∙ length-append a.clauses (x ∷ []) in
    tidy_still a b m tidy (omega (arith, within, long)) (λ s low live. ap (λ (xs : List (Option Stored)). get_or xs s None) is ∙ get_or_append_left a.clauses (x ∷ []) None s (omega (arith, low, within)))

-- ---- new references
module _ (a b : ArenaState) (moves : List Move) (f : IsRenamed a b moves) (m n : ℕ) (below : MovesBelow moves b m n) where
  moved_before : (s : ℕ) → s < n → IsLive b s → WasBefore a b m s
  moved_before s low live =
      let was = f.whole s (live_within b s live) in
      let moved = clause_moved a b moves was.0 s f was.1 in
      record { r = was.0; low = below.before was.0 s was.1 low; live = moved.0; same = ap literals_in moved.1 }

  pub tidy_moved : AreTidyBefore a m → AreTidyBefore b n
  unfolding moved_before
  tidy_moved tidy = tidy_by a b m n tidy below.within moved_before
      (λ s t s_low s_live t_low t_live e. some_same s t (sym (f.whole s (live_within b s s_live)).1 ∙ ap (moved_to moves) e ∙ (f.whole t (live_within b t t_live)).1))

-- the place after the clauses before the first live one of the others
module _ (a b : ArenaState) (moves : List Move) (f : IsRenamed a b moves) (m : ℕ) where
  pub moves_all : IsFirstLive a m None → MovesBelow moves b m (length b.clauses)
  moves_all none = record {
    before = λ r s is low. ⊎_elim (λ (old : r < m). old) (λ (past : m ≤ r). absurd (none r past (clause_moved a b moves r s f is).0)) (cases_lt r m);
    within = omega arith;
  }

  pub moves_to : (q : ℕ) → IsFirstLive a m (Some q) → (t : ℕ) → moved_to moves q ≡ Some t → MovesBelow moves b m t
  moves_to q first t goes =
      let moved = clause_moved a b moves q t f goes in
      record {
        before = λ r s is low. ⊎_elim (λ (old : r < m). old)
            (λ (past : m ≤ r). ⊎_elim (λ (less : r < q). absurd (first.2 r past less (clause_moved a b moves r s f is).0))
            (λ (far : q ≤ r). ⊎_elim
            (λ (e : r ≡ q). let same = some_same s t (sym is ∙ ap (moved_to moves) e ∙ goes) in absurd (omega (arith, low, same)))
            (λ (ne : r ≢ q). let after = f.order q r t s goes is (omega (arith, far, ne)) in absurd (omega (arith, low, after))) (cases_eq r q)) (cases_lt r q)) (cases_lt r m);
        within = let less = live_within b t (subst (λ (o : Option Stored). IsSome o) (sym moved.1) moved.0) in omega (arith, less);
      }

pub moves_none : (b : ArenaState) (moves : List Move) (m : ℕ) → MovesBelow moves b m 0
moves_none b moves m = record { before = λ r s is low. absurd (omega (arith, low)); within = omega arith }
