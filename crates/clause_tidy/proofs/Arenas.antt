-- An arena of which one clause goes, and a new one comes last.
use Rattle.std.proofs.Common.{◌≡◌, ◌≢◌, refl, sym, ap, ◌∙◌, subst, ℕ, ◌-◌, ◌<◌, ◌≤◌, ⊎_elim, List, [], ◌∷◌, ◌++◌, length, set, get_or, Option, Some, None, IsSome, arith}
use Rattle.std.proofs.lemmas.Bool.{cases_eq, cases_lt}
use Rattle.std.proofs.lemmas.List.{get_or-set_same, get_or-set_other, get_or_append_left, get_or-append_right, get_or_past, length-set}
use Rattle.clause_arena.specs.Clauses.{ArenaState, Stored, clause_at, IsLive}
use Rattle.clause_arena.proofs.PackingLaws.{live_within}
use Rattle.clause_tidy.proofs.Removing.{NoClause, none_lives}

module _ (a b : ArenaState) (r : ℕ) (live : IsLive a r) (new : Stored) (is : b.clauses ≡ set a.clauses r None ++ Some new ∷ []) where
  size : length (set a.clauses r NoClause) ≡ length a.clauses
  size = length-set a.clauses r NoClause

  low : r < length a.clauses
  low = live_within a r live

  pub last : clause_at b (length a.clauses) ≡ Some new
  last =
      let n = size in
      let none : length a.clauses - length a.clauses ≡ 0 = omega arith in
      ap (λ (cs : List (Option Stored)). get_or cs (length a.clauses) NoClause) is
      ∙ get_or-append_right (set a.clauses r NoClause) (Some new ∷ []) (length a.clauses) (length a.clauses) NoClause n (omega arith) ∙ ap (λ k. get_or (Some new ∷ []) k NoClause) none

  before : (q : ℕ) → q < length a.clauses → clause_at b q ≡ get_or (set a.clauses r NoClause) q NoClause
  before q h = let n = size in ap (λ (cs : List (Option Stored)). get_or cs q NoClause) is ∙ get_or_append_left (set a.clauses r NoClause) (Some new ∷ []) NoClause q (omega (arith, n, h))

  pub stays : (q : ℕ) → q < length a.clauses → q ≢ r → clause_at b q ≡ clause_at a q
  stays q h ne = before q h ∙ get_or-set_other a.clauses r q NoClause NoClause ne

  pub gone : clause_at b r ≡ None
  gone = before r low ∙ get_or-set_same a.clauses r NoClause NoClause low

  -- a live clause is the new one, or an old one that stays
  pub data Which (q : ℕ) : Type 0 where
    newest : q ≡ length a.clauses → Which q
    older : q < length a.clauses → q ≢ r → Which q

  past : (q : ℕ) → length a.clauses < q → clause_at b q ≡ None
  past q h =
      let n = size in
      let one : length (Some new ∷ []) ≡ 1 = refl in
      ap (λ (cs : List (Option Stored)). get_or cs q NoClause) is
      ∙ get_or-append_right (set a.clauses r NoClause) (Some new ∷ []) (length a.clauses) q NoClause n (omega arith)
      ∙ get_or_past (Some new ∷ []) (q - length a.clauses) NoClause (omega arith)

  pub which : (q : ℕ) → IsLive b q → Which q
  which q l = ⊎_elim
      (λ (h : q < length a.clauses). older h (λ e. none_lives (clause_at b r) gone (subst (λ x. IsLive b x) e l)))
      (λ (h : length a.clauses ≤ q). ⊎_elim (λ (e : q ≡ length a.clauses). newest e) (λ (ne : q ≢ length a.clauses). absurd (none_lives (clause_at b q) (past q (omega arith)) l)) (cases_eq q (length a.clauses)))
      (cases_lt q (length a.clauses))

  pub was_live : (q : ℕ) → q < length a.clauses → q ≢ r → IsLive b q → IsLive a q
  was_live q h ne l = subst (λ (o : Option Stored). IsSome o) (stays q h ne) l

  pub is_live_on : (q : ℕ) → q ≢ r → IsLive a q → IsLive b q
  is_live_on q ne l = subst (λ (o : Option Stored). IsSome o) (sym (stays q (live_within a q l) ne)) l

  pub new_lives : IsLive b (length a.clauses)
  new_lives = subst (λ (o : Option Stored). IsSome o) (sym last) refl
