-- What is said of a search's moment stays where the moment does.
use Rattle.std.proofs.Common.{◌≡◌, sym, subst, ℕ, false, []}
use Rattle.search_steps.specs.Search.{Search}
use Rattle.cdcl_search.specs.Ties.{row_ids, HasOnlyRowClauses}

pub served_alike : (s u : Search) (first n : ℕ) → u.moment ≡ s.moment → HasOnlyRowClauses s first n → HasOnlyRowClauses u first n
served_alike s u first n same h = record {
  served = subst (λ m. m.awaits ≡ false) (sym same) h.served;
  old_clauses = subst (λ m. m.old_clauses ≡ []) (sym same) h.old_clauses;
  new_clauses = subst (λ m. m.new_clauses ≡ row_ids first n) (sym same) h.new_clauses;
  old_sums = subst (λ m. m.old_sums ≡ []) (sym same) h.old_sums;
  new_sums = subst (λ m. m.new_sums ≡ []) (sym same) h.new_sums;
}
