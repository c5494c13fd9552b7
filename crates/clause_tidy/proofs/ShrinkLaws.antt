-- Arenas of which clauses go or lose literals.
use Rattle.std.proofs.Common.{◌≡◌, sym, ap, ◌∙◌, ℕ, ◌<◌, ◌≤◌, true, ⊎_elim, List, length, arith}
use Rattle.std.proofs.lemmas.Bool.{cases_lt}
use Rattle.cx_base.specs.Literals.{Literal}
use Rattle.cx_semantics.specs.Chain.{is_inside}
use Rattle.clause_arena.specs.Clauses.{ArenaState, IsLive, literals_at}
use Rattle.clause_arena.proofs.PackingLaws.{live_within}
use Rattle.cx_semantics.proofs.Closure.{inside_itself}
use Rattle.clause_tidy.specs.Shrinking.{Shrinks}
use Rattle.tidy_rules.proofs.InsideLaws.{inside_through}

module _ (a b c : ArenaState) (h : Shrinks a b) (k : Shrinks b c) where
  -- what went stays gone
  gone : (r : ℕ) → IsLive a r → (IsLive b r → ⊥) → IsLive c r → ⊥
  gone r live none l = let low = live_within a r live in let grown = h.grown in none ((k.was r (omega (arith, low, grown)) l).0)

  came_before : (q : ℕ) → length a.clauses ≤ q → IsLive b q → (lits : List Literal) → is_inside lits (literals_at b q) ≡ true → (r : ℕ) × IsLive a r × (IsLive c r → ⊥) × (is_inside lits (literals_at a r) ≡ true)
  came_before q past live lits inside = let w = h.came q past live in (w.0, w.1, gone w.0 w.1 w.2, inside_through lits (literals_at b q) (literals_at a w.0) inside w.3)

  pub shrinks_on : Shrinks a c
  shrinks_on = record {
    grown = let one = h.grown in let two = k.grown in omega (arith, one, two);
    was = λ q low live.
        let grown = h.grown in
        let w = k.was q (omega (arith, low, grown)) live in
        let v = h.was q low w.0 in
        (v.0, w.1 ∙ v.1);
    came = λ q past live. ⊎_elim
        (λ (low : q < length b.clauses).
        let w = k.was q low live in
        came_before q past w.0 (literals_at c q) (ap (λ (x : List Literal). is_inside x (literals_at b q)) w.1 ∙ inside_itself (literals_at b q)))
        (λ (high : length b.clauses ≤ q).
        let w = k.came q high live in
        ⊎_elim
        (λ (low : w.0 < length a.clauses).
        let v = h.was w.0 low w.1 in
        (w.0, v.0, w.2, ap (is_inside (literals_at c q)) (sym v.1) ∙ w.3))
        (λ (new : length a.clauses ≤ w.0). came_before w.0 new w.1 (literals_at c q) w.3) (cases_lt w.0 (length a.clauses))) (cases_lt q (length b.clauses));
  }
