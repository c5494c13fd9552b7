-- Tidy clauses.
use Rattle.std.specs.Prelude.{◌≢◌, List, IsFalse}
use Rattle.cx_base.specs.Literals.{Literal}
use Rattle.cx_semantics.specs.Chain.{is_inside}
use Rattle.cx_semantics.specs.Fresh.{is_tautology}
use Rattle.tidy_rules.specs.Relations.{strengthens}

-- Of clauses under names, none has a literal together with its negation, none lies inside one of another name, and none strengthens one of another name.
pub record TidiedBy {N : Type 0} (IsThere : N → Type 0) (clause : N → List Literal) : Type 0 where
  pub no_tautology : (n : N) → IsThere n → IsFalse (is_tautology (clause n))
  pub none_inside : (m n : N) → IsThere m → IsThere n → m ≢ n → IsFalse (is_inside (clause m) (clause n))
  pub none_strengthened : (m n : N) → IsThere m → IsThere n → m ≢ n → IsFalse (strengthens (clause m) (clause n))
