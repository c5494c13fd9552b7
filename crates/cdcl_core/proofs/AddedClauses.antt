-- The clause that was added to the arena last.
use Rattle.std.proofs.Common.{◌≡◌, refl, sym, ap, ◌∙◌, subst, ℕ, [], ◌∷◌, ◌++◌, length, get_or, None, Some}
use Rattle.std.specs.Prelude.{IsSome}
use Rattle.std.proofs.Math.Seq.{get_or-append_seam}
use Rattle.clause_arena.specs.Clauses.{ArenaState, Stored, clause_at, literals_in, literals_at, IsLive}

module _ (old new : ArenaState) (k : Stored) (r : ℕ) (added : new.clauses ≡ old.clauses ++ Some k ∷ []) (is : r ≡ length old.clauses) where
  added_stands : clause_at new r ≡ Some k
  added_stands = ap (λ cs. get_or cs r None) added ∙ ap (λ n. get_or (old.clauses ++ Some k ∷ []) n None) is ∙ get_or-append_seam old.clauses (Some k) [] None

  pub added_is_live : IsLive new r
  added_is_live = subst (λ o. IsSome o) (sym added_stands) refl

  pub added_literals : literals_at new r ≡ k.literals
  added_literals = ap literals_in added_stands
